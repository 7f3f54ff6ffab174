-- The search in a ring, a record at a time, and the bound of what it finds. Assumes nothing.
use mathlib.Core.Path.{◌≡◌, refl, sym, ap, ◌∙◌}
use mathlib.Core.Bool.{Bool, true, false, cond, ◌&&◌}
use mathlib.Core.List.{List, [], ◌∷◌, map}
use mathlib.Core.Option.{none, some}
use Prim.Native.Nat.{ℕ, suc, ◌+◌, ◌<◌}
use native.Mathlib.Nat.{add-zero, zero-add}
use native.Mathlib.Omega.{arith}
use borrow.Author.Tests.{lt-ltb}
use lib.ListN.{length}
use lib.Dec.{eqb, ltb, leb-suc-suc}
use lib.Pointwise.{pointwise}
use Rattle.std.specs.Prelude.{position, Some, None}
use Rattle.std.specs.List.{position_or_len}
use Rattle.octets.specs.Choice.{pick}
use Rattle.ring.specs.Keys.{trusted_of, found_of}
use Rattle.ring.specs.declared.KeyRecord.{KeyRecord}
use Rattle.stream.specs.Bytes.{same}
use Rattle.stream.specs.Ring.{Trusted, Ring, fits, first_from, found}

module _ (key : List ℕ) (time : ℕ) where
  -- the record at hand fits, and ends the search
  pub first_here : (i : ℕ) (t : Trusted) (ts : Ring) → fits key time t ≡ true → first_from i key time (t ∷ ts) ≡ some i
  unfolding first_from
  first_here i t ts e = rw (e, first_from)

  -- it does not, and the next is looked at
  pub first_past : (i : ℕ) (t : Trusted) (ts : Ring) → fits key time t ≡ false → first_from i key time (t ∷ ts) ≡ first_from (suc i) key time ts
  unfolding first_from
  first_past i t ts e = rw (e, first_from)

  -- no record is left
  pub first_none : (i : ℕ) → first_from i key time [] ≡ none
  unfolding first_from
  first_none i = refl

  below_cons : (i k : ℕ) (t : Trusted) (ts : Ring) (b : Bool) → fits key time t ≡ b → (first_from (suc i) key time ts ≡ some k → k < suc i + length ts) → first_from i key time (t ∷ ts) ≡ some k → k < i + suc (length ts)
  below_cons i k t ts true f later e = let g : i ≡ k = cc (first_here i t ts f) in omega arith
  below_cons i k t ts false f later e = omega (arith, later (sym (first_past i t ts f) ∙ e))

  below : (i k : ℕ) (ts : Ring) → first_from i key time ts ≡ some k → k < i + length ts
  below i k [] e = let z : ◌≡◌ {A = ℕ} 0 1 = cc (first_none i) in omega arith
  below i k (t ∷ ts) e = below_cons i k t ts (fits key time t) refl (below (suc i) k ts) e

  -- what is found is the number of a record
  pub found_below : (ts : Ring) (k : ℕ) → found key time ts ≡ some k → k < length ts
  unfolding found
  found_below ts k e = omega (arith, below 0 k ts e)

  -- ---- the search by the library's words

  abbrev passes : KeyRecord → Bool
  passes k = fits key time (trusted_of k)

  position_from : (i : ℕ) (ks : List KeyRecord) → first_from i key time (map trusted_of ks) ≡ pick (ltb (position_or_len passes ks) (length ks)) (some (i + position_or_len passes ks)) none
  position_from i [] = first_none i
  position_from i (k ∷ ks) = by (passes k) refl (position_from (suc i) ks)
    where
      by : (t : Bool) → passes k ≡ t → first_from (suc i) key time (map trusted_of ks) ≡ pick (ltb (position_or_len passes ks) (length ks)) (some (suc i + position_or_len passes ks)) none
          → first_from i key time (map trusted_of (k ∷ ks)) ≡ pick (ltb (position_or_len passes (k ∷ ks)) (suc (length ks))) (some (i + position_or_len passes (k ∷ ks))) none
      by true e ih = first_here i _ _ e ∙ rw (e, lt-ltb 0 (suc (length ks)) (omega arith), add-zero i)
      by false e ih =
          let p : 1 + position_or_len passes ks ≡ suc (position_or_len passes ks) = omega arith in
          let q : i + suc (position_or_len passes ks) ≡ suc i + position_or_len passes ks = omega arith in
          first_past i _ _ e ∙ ih ∙ rw (e, p, q, leb-suc-suc (suc (position_or_len passes ks)) (length ks))

  pub position_found : (ks : List KeyRecord) → found_of (position passes ks) ≡ found key time (map trusted_of ks)
  unfolding found
  position_found ks = by (ltb (position_or_len passes ks) (length ks)) (ap (λ (n : ℕ). pick (ltb (position_or_len passes ks) (length ks)) (some n) none) (sym (zero-add (position_or_len passes ks))) ∙ sym (position_from 0 ks))
    where
      by : (t : Bool) → pick t (some (position_or_len passes ks)) none ≡ found key time (map trusted_of ks) → found_of (cond t (Some (position_or_len passes ks)) None) ≡ found key time (map trusted_of ks)
      by true e = e
      by false e = e

-- two lists of bytes by the library's comparison
pub same_is : (xs ys : List ℕ) → pointwise eqb xs ys ≡ same xs ys
unfolding same
same_is [] [] = refl
same_is [] (y ∷ ys) = refl
same_is (x ∷ xs) [] = refl
same_is (x ∷ xs) (y ∷ ys) = ap (λ (t : Bool). eqb x y && t) (same_is xs ys)
