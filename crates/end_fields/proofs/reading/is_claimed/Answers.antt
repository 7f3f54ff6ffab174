-- Any of the three. Assumes nothing.
use Rattle.stream.specs.Ends.{is_claimed}
use Rattle.end_fields.proofs.reading.is_claimed.Goals as goal

pub returns : goal.returns
unfolding is_claimed
returns c =
    λ g. (
    rw (c.has-digest.ensures g, c.has-size.ensures g, c.has-sig1.ensures g)
    )
