-- The line from `from` ends where the line from `i` ends. Assumes nothing.
use mathlib.Core.Path.{sym, ◌∙◌}
use native.Mathlib.Omega.{arith}
use Rattle.text.proofs.LineLaws.{line_on, line_off, line_out}
use Rattle.text.proofs.lines.line_end.Goals as goal

pub returns-then-starts_with : goal.returns-then-starts_with
returns-then-starts_with c = omega (arith, line_off c.args.s.now c.loop-i.i (omega arith) (sym c.starts_with.ensures ∙ c.if-starts_with.true))

pub loop-i-preserved : goal.loop-i-preserved
loop-i-preserved c = omega (arith, line_on c.args.s.now c.loop-i.i (omega arith) (sym c.starts_with.ensures ∙ c.if-starts_with.false))

pub returns : goal.returns
returns c = grind (arith, line_out c.args.s.now c.loop-i.i, line_out c.args.s.now c.args.from)
