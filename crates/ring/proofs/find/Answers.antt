-- The first record that fits, among those that are the ring's. Assumes nothing.
use Rattle.ring.specs.Keys.{ring_of}
use Rattle.ring.proofs.SearchLaws.{position_found}
use Rattle.ring.proofs.find.Goals as goal

pub returns : goal.returns
unfolding ring_of
returns c = rw (c.first_fit.ensures, c.min.ensures) (position_found _ _ _)
