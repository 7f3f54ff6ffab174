-- The template of the parts, by its first parts one after the other: each call goes on where the one before ended. Assumes nothing.
use Rattle.classes.specs.Class.{class_of}
use Rattle.params.proofs.PartLaws.{none_on}
use Rattle.params.proofs.parts.key_part.Goals as goal

pub returns-in_err-key : goal.returns-in_err-key
unfolding class_of
returns-in_err-key c = rw c.from_residual.ensures (none_on c.in_err-key.ensures _)

pub returns : goal.returns
unfolding class_of
returns c = c.past_mark.ensures.meaning _ _ c.in_ok-key.ensures
