-- A text fed as two parts has the hash of both. Assumes nothing.
use mathlib.Core.Path.{◌≡◌}
use mathlib.Core.List.{List, [], ◌++◌}
use Prim.Native.Nat.{ℕ}
use Rattle.sha256.specs.Sha256.{sha256}
use Rattle.sha256.specs.Midstate.{start, added, summed}
use Rattle.sha256.proofs.Parts.{start_holds, added_holds, summed_is}

pub two_parts : (a b : List ℕ) → summed (added (added start a) b) ≡ sha256 (a ++ b)
two_parts a b = summed_is (a ++ b) (added_holds a b (added_holds [] a start_holds))
