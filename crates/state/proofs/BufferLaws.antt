-- Laws on the front of a buffer: cut at a count that may pass its end, and cleared. Assumes nothing.
use mathlib.Core.List.{List, [], ◌∷◌}
use mathlib.Core.Path.{◌≡◌, ap}
use native.Mathlib.Nat.{zero-min, min-zero, suc-min-suc}
use native.Mathlib.Omega.{arith}
use Prim.Native.Nat.{ℕ, zero, suc, min}
use lib.ListN.{length, drop, take, length-append, length-replicate, length-drop}
use Rattle.state.specs.Configuration.{cleared}

-- a count past the end is the length
pub take_min : (n : ℕ) (l : List ℕ) → take (min n (length l)) l ≡ take n l
take_min zero l = rw zero-min
take_min (suc n) [] = rw min-zero
take_min (suc n) (x ∷ l) = rw suc-min-suc (ap (λ (t : List ℕ). x ∷ t) (take_min n l))

pub drop_min : (n : ℕ) (l : List ℕ) → drop (min n (length l)) l ≡ drop n l
drop_min zero l = rw zero-min
drop_min (suc n) [] = rw min-zero
drop_min (suc n) (x ∷ l) = rw suc-min-suc (drop_min n l)

pub cleared_none : (l : List ℕ) → cleared 0 l ≡ l
unfolding cleared
cleared_none l = rw zero-min

pub length_cleared : (n : ℕ) (l : List ℕ) → length (cleared n l) ≡ length l
unfolding cleared
length_cleared n l = rw (length-append, length-replicate, length-drop) (omega arith)
