-- A whole answer by what is claimed, a part answer without looking. Assumes nothing.
use Rattle.stream.specs.Ends.{is_checked}
use Rattle.ends.proofs.trailer.is_checked.Goals as goal

pub returns-in-Whole : goal.returns-in-Whole
unfolding is_checked
returns-in-Whole c = λ lines. rw c.in-Whole.is (c.is_claimed.ensures lines)

pub returns-in-Part : goal.returns-in-Part
unfolding is_checked
returns-in-Part c = λ _. rw c.in-Part.is
