-- Std's `ends_with` asks the same. Assumes nothing.
use mathlib.Core.Path.{◌∙◌}
use Rattle.stream.specs.Lines.{ends_with}
use Rattle.text.proofs.SameLaws.{same_is}
use Rattle.text.proofs.lines.ends_line.Goals as goal

pub returns : goal.returns
unfolding ends_with
returns c = c.ends_with.ensures.value ∙ same_is _ _
