-- Laws of the number that digits write, over the base. Assumes nothing.
use mathlib.Core.Path.{◌≡◌, refl}
use mathlib.Core.Bool.{Bool, true}
use mathlib.Core.List.{List, [], ◌∷◌, ◌++◌}
use Prim.Native.Nat.{ℕ, zero, suc, ◌+◌, ◌*◌, ◌≤◌, ◌<◌}
use native.Mathlib.Nat.{suc-mul, mul-le-mul_right}
use native.Mathlib.Omega.{arith}
use lib.ListN.{length, get_or}
use Rattle.stream.specs.Bytes.{all}
use Rattle.stream.specs.Numbers.{number_from}
use Rattle.number.proofs.Classes.{both, joined}

-- ---- every byte of a class

pub all_append : (p : ℕ → Bool) (l m : List ℕ) → all p l ≡ true → all p m ≡ true → all p (l ++ m) ≡ true
unfolding all
all_append p [] m a b = b
all_append p (x ∷ l) m a b =
    let w = both (p x) (all p l) a in
    joined (p x) (all p (l ++ m)) w.0 (all_append p l m w.1 b)

pub all-at : (p : ℕ → Bool) (l : List ℕ) (i : ℕ) → all p l ≡ true → i < length l → p (get_or l i 0) ≡ true
unfolding all
all-at p [] i a h = absurd (omega arith)
all-at p (x ∷ l) zero a h = (both (p x) (all p l) a).0
all-at p (x ∷ l) (suc i) a h = all-at p l i (both (p x) (all p l) a).1 (omega arith)

-- ---- the number

-- one digit more
pub number_append : (digit : ℕ → ℕ) (base n : ℕ) (l : List ℕ) (b : ℕ) → number_from digit base n (l ++ (b ∷ [])) ≡ number_from digit base n l * base + digit b
unfolding number_from
number_append digit base n [] b = refl
number_append digit base n (x ∷ l) b = number_append digit base (n * base + digit x) l b

-- a number below its bound stays below the next with one digit more
pub grows : (base d v k : ℕ) → d < base → v < k → v * base + d < k * base
grows base d v k h g =
    let more : suc v * base ≤ k * base = mul-le-mul_right base g in
    omega (arith, suc-mul v base)
