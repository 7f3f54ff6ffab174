-- Laws of a number's decimal text: its digits one by one, how many they are, and that reading them gives the number back.
-- Assumes nothing.
use mathlib.Core.Path.{◌≡◌, refl, sym, ap, ◌∙◌}
use mathlib.Core.Bool.{Bool, true, false}
use mathlib.Core.List.{List, [], ◌∷◌, ◌++◌}
use Prim.Native.Nat.{ℕ, zero, suc, ◌+◌, ◌*◌, ◌/◌, ◌%◌, ◌^◌, ◌≤◌, ◌<◌, max}
use native.Mathlib.Nat.{pow-suc, pow-le-pow_right, not-suc-le-zero, lt_of_lt_of_le}
use native.Mathlib.Omega.{arith}
use borrow.Author.Tests.{lt-ltb, le-ltb, ltb-true, ltb-false}
use lib.Dec.{ltb, lit≤}
use lib.ListN.{length, get_or, length-append}
use Rattle.stream.specs.Bytes.{is_digit, all}
use Rattle.stream.specs.Numbers.{number_from, decimal_digit, decimal_value, decimal_within, decimal}
use Rattle.number.proofs.Classes.{within, inside}
use Rattle.number.proofs.Values.{all_append, all-at, number_append}

-- ---- the digits

short : (f n : ℕ) → n < 10 → decimal_within (suc f) n ≡ (48 + n) ∷ []
unfolding decimal_within
short f n h = rw (lt-ltb n 10 h, decimal_within)

long : (f n : ℕ) → 10 ≤ n → decimal_within (suc f) n ≡ decimal_within f (n / 10) ++ ((48 + n % 10) ∷ [])
unfolding decimal_within
long f n h = rw (le-ltb n 10 h, decimal_within)

-- more fuel than the number changes nothing
enough : (f g n : ℕ) → n < f → n < g → decimal_within f n ≡ decimal_within g n
enough zero g n a b = absurd (not-suc-le-zero a)
enough (suc f) zero n a b = absurd (not-suc-le-zero b)
enough (suc f) (suc g) n a b = step (ltb n 10) refl (λ h. enough f g (n / 10) (omega arith) (omega arith))
  where
    step : (t : Bool) → ltb n 10 ≡ t → (10 ≤ n → decimal_within f (n / 10) ≡ decimal_within g (n / 10)) → decimal_within (suc f) n ≡ decimal_within (suc g) n
    step true e r = let h = ltb-true n 10 e in short f n h ∙ sym (short g n h)
    step false e r =
        let h = ltb-false n 10 e in
        long f n h ∙ ap (λ (l : List ℕ). l ++ ((48 + n % 10) ∷ [])) (r h) ∙ sym (long g n h)

pub decimal_small : (n : ℕ) → n < 10 → decimal n ≡ (48 + n) ∷ []
unfolding decimal
decimal_small n h = short n n h

pub decimal_large : (n : ℕ) → 10 ≤ n → decimal n ≡ decimal (n / 10) ++ ((48 + n % 10) ∷ [])
unfolding decimal
decimal_large n h = long n n h ∙ ap (λ (l : List ℕ). l ++ ((48 + n % 10) ∷ [])) (enough n (suc (n / 10)) (n / 10) (omega arith) (omega arith))

-- what holds of one digit, and of a text with a digit more, holds of every number's text
pub decimal_cases : (P : ℕ → List ℕ → Type 0) → ((n : ℕ) → n < 10 → P n ((48 + n) ∷ [])) → ((n : ℕ) → 10 ≤ n → P (n / 10) (decimal (n / 10)) → P n (decimal (n / 10) ++ ((48 + n % 10) ∷ []))) → (n : ℕ) → P n (decimal n)
decimal_cases P one more n = within_fuel (suc n) n (omega arith)
  where
    step : (n : ℕ) (t : Bool) → ltb n 10 ≡ t → (10 ≤ n → P (n / 10) (decimal (n / 10))) → P n (decimal n)
    step n true e r = let h = ltb-true n 10 e in rw (decimal_small n h) (one n h)
    step n false e r = let h = ltb-false n 10 e in rw (decimal_large n h) (more n h (r h))

    within_fuel : (f n : ℕ) → n < f → P n (decimal n)
    within_fuel zero n h = absurd (not-suc-le-zero h)
    within_fuel (suc f) n h = step n (ltb n 10) refl (λ k. within_fuel f (n / 10) (omega arith))

-- ---- their class, and their number

digit_alone : (d : ℕ) → d < 10 → all is_digit ((48 + d) ∷ []) ≡ true
unfolding all
digit_alone d h = rw (within 48 57 (48 + d) (omega arith) (omega arith))

pub decimal_digits : (n : ℕ) → all is_digit (decimal n) ≡ true
decimal_digits = decimal_cases (λ n l. all is_digit l ≡ true) digit_alone (λ n h r. all_append is_digit (decimal (n / 10)) ((48 + n % 10) ∷ []) r (digit_alone (n % 10) (omega arith)))

-- no byte is zero, and each is below 256
pub decimal_at : (n i : ℕ) → i < length (decimal n) → (48 ≤ get_or (decimal n) i 0) × (get_or (decimal n) i 0 ≤ 57)
decimal_at n i h = inside 48 57 _ (all-at is_digit (decimal n) i (decimal_digits n) h)

value_alone : (d : ℕ) → decimal_value ((48 + d) ∷ []) ≡ d
unfolding number_from
value_alone d = omega arith

pub decimal_value_lem : (n : ℕ) → decimal_value (decimal n) ≡ n
decimal_value_lem = decimal_cases (λ n l. decimal_value l ≡ n) (λ n h. value_alone n) (λ n h r. omega (arith, number_append decimal_digit 10 0 (decimal (n / 10)) (48 + n % 10)))

-- ---- how many

pub length_small : (n : ℕ) → n < 10 → length (decimal n) ≡ 1
length_small n h = rw (decimal_small n h)

pub length_large : (n : ℕ) → 10 ≤ n → length (decimal n) ≡ length (decimal (n / 10)) + 1
length_large n h = rw (decimal_large n h) (length-append (decimal (n / 10)) ((48 + n % 10) ∷ []))

pub some_digit : (n : ℕ) → 1 ≤ length (decimal n)
some_digit n = by_size (ltb n 10) refl
  where
    by_size : (t : Bool) → ltb n 10 ≡ t → 1 ≤ length (decimal n)
    by_size true e = omega (arith, length_small n (ltb-true n 10 e))
    by_size false e = omega (arith, length_large n (ltb-false n 10 e))

div_below : (n p : ℕ) → n < p * 10 → n / 10 < p
div_below n p h = omega arith

-- a number below 10 ^ (k + 1) has at most k + 1 digits
pub few_digits : (k n : ℕ) → n < 10 ^ suc k → length (decimal n) ≤ suc k
few_digits zero n h = omega (arith, length_small n (omega arith))
few_digits (suc k) n h = by_size (ltb n 10) refl (λ g. few_digits k (n / 10) (div_below n (10 ^ suc k) (rw (pow-suc 10 (suc k)) at h)))
  where
    by_size : (t : Bool) → ltb n 10 ≡ t → (10 ≤ n → length (decimal (n / 10)) ≤ suc k) → length (decimal n) ≤ suc (suc k)
    by_size true e r = omega (arith, length_small n (ltb-true n 10 e))
    by_size false e r = let g = ltb-false n 10 e in omega (arith, length_large n g, r g)

-- a u64
pub twenty_digits : (n : ℕ) → n < 2 ^ 64 → length (decimal n) ≤ 20
twenty_digits n h = few_digits 19 n (lt_of_lt_of_le h (lit≤ tt))

-- one more than the logarithm, where that of 0 is taken as that of 1
pub digits_are : (k n : ℕ) → 10 ^ k ≤ max n 1 → max n 1 < 10 * 10 ^ k → k + 1 ≡ length (decimal n)
digits_are zero n h g = omega (arith, length_small n (omega arith))
digits_are (suc k) n h g =
    let p = pow-suc 10 k in
    let q : 10 ^ 0 ≤ 10 ^ k = pow-le-pow_right {n = 10} (omega arith) {i = 0} (omega arith) in
    omega (arith, length_large n (omega arith), digits_are k (n / 10) (omega arith) (omega arith))

-- the last k digits of a number, first to last
unfoldable pub last_digits : ℕ → ℕ → List ℕ
last_digits zero n = []
last_digits (suc k) n = last_digits k (n / 10) ++ ((48 + n % 10) ∷ [])

pub length_last : (k n : ℕ) → length (last_digits k n) ≡ k
unfolding last_digits
length_last zero n = refl
length_last (suc k) n = omega (arith, length-append (last_digits k (n / 10)) ((48 + n % 10) ∷ []), length_last k (n / 10))

-- all of them
one_digit : (n : ℕ) → n < 10 → (48 + n) ∷ [] ≡ last_digits 1 n
unfolding last_digits
one_digit n h = let e : n % 10 ≡ n = omega arith in rw e

more_digits : (n : ℕ) (l : List ℕ) → l ≡ last_digits (length l) (n / 10) → l ++ ((48 + n % 10) ∷ []) ≡ last_digits (length (l ++ ((48 + n % 10) ∷ []))) n
unfolding last_digits
more_digits n l r =
    let e : length (l ++ ((48 + n % 10) ∷ [])) ≡ suc (length l) = omega (arith, length-append l ((48 + n % 10) ∷ [])) in
    rw (e, last_digits) (ap (λ (l : List ℕ). l ++ ((48 + n % 10) ∷ [])) r)

pub decimal_last : (n : ℕ) → decimal n ≡ last_digits (length (decimal n)) n
unfolding last_digits
decimal_last = decimal_cases (λ n l. l ≡ last_digits (length l) n) one_digit (λ n h r. more_digits n (decimal (n / 10)) r)
