-- One in all, by the count in each. Assumes nothing.
use Rattle.stream.proofs.EndFields.{once_joined}
use Rattle.end_fields.proofs.found.is_once.Goals as goal

pub returns : goal.returns
returns c = λ g. rw (c.count_of-before.ensures, c.count_in-after.ensures g) (once_joined _ _ _)
