-- In the head, or in the trailer. Assumes nothing.
use mathlib.Core.Path.{sym}
use Rattle.stream.proofs.EndFields.{has_joined}
use Rattle.end_fields.proofs.found.has.Goals as goal

pub returns : goal.returns
returns c = λ g. rw (c.has.ensures, c.count_in.ensures g) (sym (has_joined _ _ _))
