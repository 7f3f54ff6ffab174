-- The invariant: what is left of all the digits is what is left of those that are not taken away yet. Assumes nothing.
use mathlib.Core.Path.{◌≡◌}
use Rattle.number.specs.Digits.{fitting}
use Rattle.number.proofs.fit.Given as goal

abbrev pub invariant-loop-n : goal.invariant-loop-n
invariant-loop-n l = fitting l.limit l.count l.value ≡ fitting l.limit l.n l.left
