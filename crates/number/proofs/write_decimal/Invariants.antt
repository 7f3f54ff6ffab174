-- The invariant: the whole text over the buffer at entry is the first digits, which are left, over the buffer now. Assumes nothing.
use mathlib.Core.Path.{◌≡◌}
use Rattle.stream.specs.Numbers.{decimal}
use Rattle.number.specs.Writing.{over}
use Rattle.number.proofs.Numerals.{last_digits}
use Rattle.number.proofs.write_decimal.Given as goal

abbrev pub invariant-loop-i : goal.invariant-loop-i
invariant-loop-i l = over l.initial.out l.at (decimal l.n) ≡ over l.out l.at (last_digits l.i l.left)
