-- The value that was found, compared with the bytes that were lent. Assumes nothing.
use mathlib.Core.Path.{◌∙◌}
use Rattle.ring.proofs.SearchLaws.{same_is}
use Rattle.judging.proofs.is_asked_for.Goals as goal

pub returns : goal.returns
returns c = rw (← c.value_of.ensures) (c.eq.ensures ∙ same_is _ _)
