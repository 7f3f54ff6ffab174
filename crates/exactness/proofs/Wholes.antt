-- A part that is judged, with its end or at its limit, is what is cut off as a section; and where nothing is cut off, the part is
-- unended. Assumes nothing.
use mathlib.Core.Bool.{Bool, true, false, ◌||◌, true≢false}
use mathlib.Core.List.{List, [], ◌∷◌}
use mathlib.Core.Path.{◌≡◌, refl, sym, ◌∙◌}
use Prim.Native.Nat.{ℕ, suc, ◌≤◌, ◌<◌}
use native.Mathlib.Omega.{arith}
use borrow.Author.Tests.{leb-true, leb-false, le-leb, lt-leb, ltb-true, ltb-false}
use lib.Dec.{leb, ltb}
use lib.ListN.{length, take}
use lib.Seq.{length-take-le, take_all}
use Rattle.sections.proofs.Cuts.{NoneBelow}
use Rattle.stream.proofs.Truth.{right_fails, or-true}
use Rattle.exactness.specs.Refusals.{Whole, ended, endless, Unended}
use Rattle.exactness.proofs.Ends.{limited, first_whole, first_none, none_earlier, none_first, none_short}

-- a test that fails of nothing holds only of one byte or more
pub some_byte : (p : List ℕ → Bool) (l : List ℕ) → p [] ≡ false → p l ≡ true → 0 < length l
some_byte p [] e t = absurd (true≢false (sym t ∙ e))
some_byte p (x ∷ l) e t = omega arith

module _ (ends : List ℕ → Bool) (limit : ℕ) (l : List ℕ) where
  pub whole_true : Whole ends limit l → limited ends limit l ≡ true
  whole_true (ended e s) = first_whole ends limit l e
  whole_true (endless e f) = rw (le-leb limit (length l) (omega arith)) (or-true (ends l))

  pub whole_none : Whole ends limit l → NoneBelow (limited ends limit) l (length l)
  whole_none (ended e s) = first_none ends limit l e s
  whole_none (endless e f) = λ n x y.
      let m : length (take n l) ≡ n = length-take-le n l (omega arith) in
      rw (f n (omega arith), m) (lt-leb limit n (omega arith))

  pub whole_some : ends [] ≡ false → 0 < limit → Whole ends limit l → 0 < length l
  whole_some e p (ended k s) = some_byte ends l e k.there
  whole_some e p (endless k f) = omega arith

  pub cut_whole : ends [] ≡ false → 0 < limit → limited ends limit l ≡ true → NoneBelow (limited ends limit) l (length l) → Whole ends limit l
  cut_whole e p t h = by (ends l) refl t
    where
      short : length l ≤ limit
      short = none_short ends limit l p h

      at_most : ends l ≡ false → (n : ℕ) → n ≤ length l → (x : Bool) → ltb n (length l) ≡ x → ends (take n l) ≡ false
      at_most k n y true z = none_earlier ends limit l (length l) e h n (ltb-true n (length l) z)
      at_most k n y false z = rw (take_all n l (ltb-false n (length l) z)) k

      by : (x : Bool) → ends l ≡ x → x || leb limit (length l) ≡ true → Whole ends limit l
      by true k t = ended (none_first ends limit l e k h) short
      by false k t = endless (omega (arith, short, leb-true limit (length l) t)) (λ n y. at_most k n y (ltb n (length l)) refl)

  pub unended_none : Unended ends limit l → NoneBelow (limited ends limit) l (suc (length l))
  unended_none u n x y =
      let m : length (take n l) ≡ n = length-take-le n l (omega arith) in
      rw (u.none n (omega arith), m) (lt-leb limit n (omega (arith, u.under)))

  pub none_unended : ends [] ≡ false → 0 < limit → NoneBelow (limited ends limit) l (suc (length l)) → Unended ends limit l
  none_unended e p h =
      record { under = by (leb limit (length l)) refl; none = λ n y. none_earlier ends limit l (suc (length l)) e h n (omega arith) }
    where
      by : (x : Bool) → leb limit (length l) ≡ x → length l < limit
      by false z = leb-false limit (length l) z
      by true z =
          let m : limit ≤ length l = leb-true limit (length l) z in
          let k : leb limit (length l) ≡ false =
          rw (take_all (length l) l (omega arith)) at (right_fails (ends (take (length l) l)) _ (h (length l) (omega arith) (omega arith))) in
          absurd (true≢false (sym z ∙ k))
