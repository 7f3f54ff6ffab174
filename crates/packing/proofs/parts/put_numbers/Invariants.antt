-- The numbers that are left, written over the buffer as it is now, give the same as all of them over it as it was. Assumes nothing.
use mathlib.Core.Path.{◌≡◌}
use Prim.Native.Nat.{◌+◌, ◌*◌}
use lib.ListN.{drop}
use lib.Seq.{sets}
use Rattle.packing.specs.Parts.{all_bytes}
use Rattle.packing.proofs.parts.put_numbers.Given as goal

abbrev pub invariant-loop-i : goal.invariant-loop-i
invariant-loop-i l = sets l.initial.to l.at (all_bytes l.numbers) ≡ sets l.to (l.at + 8 * l.i) (all_bytes (drop l.i l.numbers))
