-- Each test gives the next step of the line's template. Assumes nothing.
use native.Mathlib.Omega.{arith}
use Rattle.classes.specs.Class.{class_of}
use Rattle.field_lines.proofs.StatusLaws.{status_is}
use Rattle.field_lines.proofs.line.is_status_line.Goals as goal

pub returns-then-starts_with-2 : goal.returns-then-starts_with-2
unfolding class_of
returns-then-starts_with-2 c = grind (arith, status_is c.args.line.now)

pub returns-else-starts_with-2 : goal.returns-else-starts_with-2
unfolding class_of
returns-else-starts_with-2 c = grind (arith, status_is c.args.line.now)
