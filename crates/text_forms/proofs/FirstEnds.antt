-- A text that has its end, and no shorter beginning that has it: the test of that, and what it says of every beginning. Assumes nothing.
use mathlib.Core.Bool.{Bool, true, false, not}
use mathlib.Core.List.{List}
use mathlib.Core.Path.{◌≡◌, refl, sym}
use Prim.Native.Nat.{ℕ, zero, suc, ◌<◌}
use native.Mathlib.Omega.{arith}
use borrow.Author.Tests.{eqb-true, eqb-false, not-true}
use lib.Dec.{eqb}
use lib.ListN.{length, take}
use Rattle.stream.specs.GoodText.{ends_before, ends_first}
use Rattle.stream.proofs.Truth.{left_holds, right_holds, left_fails, right_fails}

pub record EndsFirst (ends : List ℕ → Bool) (l : List ℕ) : Type 0 where
  pub there : ends l ≡ true
  pub earlier : (n : ℕ) → n < length l → ends (take n l) ≡ false

module _ (ends : List ℕ → Bool) (l : List ℕ) where
  none_shorter : (n : ℕ) → ends_before ends n l ≡ false → (k : ℕ) → k < n → ends (take k l) ≡ false
  unfolding ends_before
  none_shorter zero e k h = absurd (omega arith)
  none_shorter (suc n) e k h = go (eqb k n) refl (none_shorter n (right_fails (ends (take n l)) (ends_before ends n l) e) k)
    where
      go : (t : Bool) → eqb k n ≡ t → (k < n → ends (take k l) ≡ false) → ends (take k l) ≡ false
      go true q ih = rw (eqb-true k n q) (left_fails (ends (take n l)) (ends_before ends n l) e)
      go false q ih = ih (omega (arith, eqb-false k n q))

  shorter_none : (n : ℕ) → ((k : ℕ) → k < n → ends (take k l) ≡ false) → ends_before ends n l ≡ false
  unfolding ends_before
  shorter_none zero h = refl
  shorter_none (suc n) h = rw (h n (omega arith), shorter_none n (λ k y. h k (omega arith)))

  pub first_end : ends_first ends l ≡ true → EndsFirst ends l
  unfolding ends_first
  first_end e =
      record {
        there = left_holds (ends l) (not (ends_before ends (length l) l)) e;
        earlier = none_shorter (length l) (not-true (ends_before ends (length l) l) (right_holds (ends l) (not (ends_before ends (length l) l)) e));
      }

  pub end_first : EndsFirst ends l → ends_first ends l ≡ true
  unfolding ends_first
  end_first f = rw (f.there, shorter_none (length l) f.earlier)

-- ---- two tests that hold together

pub alike : (a b : Bool) → (a ≡ true → b ≡ true) → (b ≡ true → a ≡ true) → a ≡ b
alike true b f g = sym (f refl)
alike false true f g = g refl
alike false false f g = refl
