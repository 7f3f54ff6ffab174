-- A rule for each number below a bound, proved by one test that antt computes; and what the truth of `a && b` says. Assumes nothing.
use mathlib.Core.Bool.{Bool, true, ◌&&◌, and-eq-true_iff}
use mathlib.Core.Logic.{⊎_elim}
use mathlib.Core.Path.{◌≡◌, subst, sym}
use Prim.Native.Nat.{ℕ, zero, suc, ◌<◌}
use native.Mathlib.Nat.{eq-or-lt_of_le, le_of_suc-le-suc, not-suc-le-zero}

pub both_left : (a b : Bool) → (a && b) ≡ true → a ≡ true
both_left a b h = ((and-eq-true_iff a b).0 h).0

pub both_right : (a b : Bool) → (a && b) ≡ true → b ≡ true
both_right a b h = ((and-eq-true_iff a b).0 h).1

-- the test passes at each number below the bound
abbrev pub every : (ℕ → Bool) → ℕ → Bool
every test zero = true
every test (suc n) = test n && every test n

pub below : (test : ℕ → Bool) (n : ℕ) → every test n ≡ true → (k : ℕ) → k < n → test k ≡ true
below test zero t k h = absurd (not-suc-le-zero h)
below test (suc n) t k h =
    ⊎_elim (λ e. subst (λ (m : ℕ). test m ≡ true) (sym e) (both_left (test n) (every test n) t))
    (λ l. below test n (both_right (test n) (every test n) t) k l)
    (eq-or-lt_of_le (le_of_suc-le-suc h))
