-- The invariant: the digits in front of the text are those that were read, with those in front of the rest; and the number so far is below
-- base ^ count. Assumes nothing.
use mathlib.Core.Path.{◌≡◌}
use Prim.Native.Nat.{◌-◌, ◌^◌, ◌<◌}
use lib.ListN.{drop}
use Rattle.number.specs.Digits.{front_from}
use Rattle.number.proofs.front.Given as goal

abbrev pub invariant-loop-count : goal.invariant-loop-count
invariant-loop-count l = (front_from l.base l.most 0 0 l.s ≡ front_from l.base (l.most - l.count) l.count l.value (drop l.count l.s)) × (l.value < l.base ^ l.count)
