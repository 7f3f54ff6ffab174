-- The records so far are read each by itself. Assumes nothing.
use mathlib.Core.Path.{◌≡◌}
use Prim.Native.Nat.{ℕ, ◌<◌}
use lib.ListN.{length, get_or}
use Rattle.ring.specs.declared.KeyRecord.{KeyRecord}
use Rattle.packing.specs.Keys.{record_at}
use Rattle.packing.proofs.keys.keys_in.Given as goal

abbrev pub invariant-loop-i : goal.invariant-loop-i
invariant-loop-i l = (length l.entry-items ≡ 16) × ((k : ℕ) (d : KeyRecord) → k < l.i → get_or l.entry-items k d ≡ record_at l.ring k)
