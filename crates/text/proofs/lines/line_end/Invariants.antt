-- The line from `from` ends where the line from `i` ends. Assumes nothing.
use mathlib.Core.Path.{◌≡◌}
use Prim.Native.Nat.{◌+◌}
use lib.ListN.{drop}
use Rattle.text.specs.Line.{line_length}
use Rattle.text.proofs.lines.line_end.Given as goal

abbrev pub invariant-loop-i : goal.invariant-loop-i
invariant-loop-i l = l.from + line_length (drop l.from l.s) ≡ l.i + line_length (drop l.i l.s)
