-- The line that begins at the place, or none. Assumes nothing.
use mathlib.Core.Path.{refl}
use native.Mathlib.Omega.{arith}
use Rattle.std.proofs.lemmas.Grind.{common_steps}
use Rattle.field_lines.proofs.PlacedLaws.{gives_none, line_part, gives_line}
use Rattle.field_lines.proofs.lines.LinesIterator.next.Goals as goal

pub returns-then-end-start-clause-steps : goal.returns-then-end-start-clause-steps
returns-then-end-start-clause-steps c = gives_none _ _ c.line_end-end.ensures c.if-end-start.true

pub overflow_add-self : goal.overflow_add-self
overflow_add-self c = omega (arith, line_part _ _ _ c.line_end-end.ensures c.if-end-start.false)

pub slice_bounds-result-end : goal.slice_bounds-result-end
slice_bounds-result-end c = omega (arith, line_part _ _ _ c.line_end-end.ensures c.if-end-start.false)

pub returns-clause-steps : goal.returns-clause-steps
returns-clause-steps c = gives_line _ _ c.line_end-end.ensures c.if-end-start.false _ refl

pub returns-clause-goes : goal.returns-clause-goes
returns-clause-goes c = grind (arith, common_steps, line_part _ _ _ c.line_end-end.ensures c.if-end-start.false)
