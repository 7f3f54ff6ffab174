-- A part that ends within its limit, and not before, is just what is cut off as a whole section; and the other way round.
-- Assumes nothing.
use mathlib.Core.Bool.{Bool, true, false, ◌||◌, true≢false}
use mathlib.Core.List.{List, [], ◌++◌}
use mathlib.Core.Path.{◌≡◌, refl, sym, ◌∙◌}
use Prim.Native.Nat.{ℕ, zero, suc, ◌≤◌, ◌<◌}
use native.Mathlib.Omega.{arith}
use borrow.Author.Tests.{leb-true, leb-false, le-leb, lt-leb}
use lib.Dec.{leb}
use lib.ListN.{length, take}
use lib.Seq.{length-take-le, take-append-le}
use Rattle.sections.proofs.Cuts.{NoneBelow}
use Rattle.stream.proofs.Truth.{left_fails, right_fails}
use Rattle.exactness.specs.Good.{EndsFirst}

-- a section is whole at its end, or at its length limit
abbrev pub limited : (List ℕ → Bool) → ℕ → List ℕ → Bool
limited ends limit l = ends l || leb limit (length l)

pub first_whole : (ends : List ℕ → Bool) (limit : ℕ) (l : List ℕ) → EndsFirst ends l → limited ends limit l ≡ true
first_whole ends limit l e = rw e.there

pub first_none : (ends : List ℕ → Bool) (limit : ℕ) (l : List ℕ) → EndsFirst ends l → length l ≤ limit
    → NoneBelow (limited ends limit) l (length l)
first_none ends limit l e s n x y =
    let m : length (take n l) ≡ n = length-take-le n l (omega arith) in
    rw (e.earlier n y, m) (lt-leb limit n (omega arith))

-- where a section was not whole, it had no end
pub none_earlier : (ends : List ℕ → Bool) (limit : ℕ) (f : List ℕ) (m : ℕ) → ends [] ≡ false → NoneBelow (limited ends limit) f m
    → (n : ℕ) → n < m → ends (take n f) ≡ false
none_earlier ends limit f m e h zero y = e
none_earlier ends limit f m e h (suc n) y = left_fails (ends (take (suc n) f)) _ (h (suc n) (omega arith) y)

-- what is cut off, with an end, ends there first
pub none_first : (ends : List ℕ → Bool) (limit : ℕ) (f : List ℕ) → ends [] ≡ false → ends f ≡ true
    → NoneBelow (limited ends limit) f (length f) → EndsFirst ends f
none_first ends limit f e t h = record { there = t; earlier = none_earlier ends limit f (length f) e h }

-- and is no longer than its limit
pub none_short : (ends : List ℕ → Bool) (limit : ℕ) (f : List ℕ) → 0 < limit → NoneBelow (limited ends limit) f (length f) → length f ≤ limit
none_short ends limit f p h = by (leb (length f) limit) refl
  where
    by : (t : Bool) → leb (length f) limit ≡ t → length f ≤ limit
    by true e = leb-true (length f) limit e
    by false e =
        let y : limit < length f = leb-false (length f) limit e in
        let m : length (take limit f) ≡ limit = length-take-le limit f (omega arith) in
        let z : leb limit (length (take limit f)) ≡ true = le-leb limit (length (take limit f)) (omega arith) in
        absurd (true≢false (sym z ∙ right_fails (ends (take limit f)) _ (h limit p y)))

-- the shorter beginnings of what is cut off are those of all the bytes
pub none_front : (p : List ℕ → Bool) (f r l : List ℕ) → f ++ r ≡ l → NoneBelow p l (length f) → NoneBelow p f (length f)
none_front p f r l e h n x y =
    let t : take n l ≡ take n f = rw (← e) (take-append-le n f r (omega arith)) in
    rw t at (h n x y)
