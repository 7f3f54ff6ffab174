-- The readers answer by the digits in front of a text: a text that is nothing else is a number, and where they end another one went wrong.
-- Assumes nothing.
use mathlib.Core.Bool.{Bool, true, false, ◌&&◌}
use mathlib.Core.List.{List}
use mathlib.Core.Path.{◌≡◌, refl, sym, ap}
use Prim.Native.Nat.{ℕ, ◌^◌, ◌≤◌, ◌<◌, min}
use native.Mathlib.Nat.{pow-le-pow_right, le_trans}
use native.Mathlib.Omega.{arith}
use borrow.Author.Tests.{leb-true}
use lib.Dec.{leb, lit<, lit≤}
use lib.ListN.{length, take}
use lib.Seq.{take_all}
use Rattle.octets.specs.Choice.{pick}
use Rattle.stream.specs.Bytes.{is_digit, is_hex}
use Rattle.stream.specs.GoodText.{is_count}
use Rattle.stream.specs.Numbers.{number_from, decimal_digit, hex_digit, is_decimal, decimal_value, is_hex_number, hex_value}
use Rattle.number.specs.Digits.{digits, front_from, most_digits, fitting, whole_read}
use Rattle.number.specs.Reading.{decimal_place, hex_place, count_place, decimal_read, hex_read, count_read}
use Rattle.number.specs.declared.Digits.{Digits}
use Rattle.std.specs.Prelude.{Ok, Err}
use Rattle.number.proofs.Classes.{both, decimal_class, decimal_digit_lem, hex_class, hex_digit_lem}
use Rattle.number.proofs.Fronts.{run_length, front_is, hex_place_lem, most_within, decimal_place_lem}
use Rattle.number.proofs.Limits.{count_place_lem, fit_within}
use Rattle.number.proofs.Places.{decimal_whole, hex_whole, count_whole}

-- the answer for a text of n bytes that goes well up to `at`, where v is the number of the digits in front and w that of the whole text
answer_is : (good : Bool) (n at v w : ℕ) → good ≡ leb 1 at && leb n at → (n ≤ at → v ≡ w) → pick good (Ok w) (Err at) ≡ whole_read n (digits at v)
unfolding whole_read
answer_is good n at v w e f = rw e (by (leb 1 at && leb n at) refl)
  where
    by : (t : Bool) → leb 1 at && leb n at ≡ t → pick t (Ok w) (Err at) ≡ pick t (Ok v) (Err at)
    by true q = rw (f (leb-true n at (both (leb 1 at) (leb n at) q).1))
    by false q = refl

-- digits in front that are the whole text write its number
all_digits : (digit : ℕ → ℕ) (base n : ℕ) (l : List ℕ) → length l ≤ n → number_from digit base 0 (take n l) ≡ number_from digit base 0 l
all_digits digit base n l h = ap (number_from digit base 0) (take_all n l h)

module _ (most : ℕ) (l : List ℕ) (k : ℕ) (d : Digits) where
  pub hex_is : k ≡ min most 16 → d ≡ front_from 16 k 0 0 l → whole_read (length l) d ≡ hex_read most l
  unfolding hex_read
  hex_is e f =
      let m = min most 16 in
      rw (f, e, front_is is_hex hex_digit 16 hex_class hex_digit_lem m l, ← hex_place_lem m l)
      (sym (answer_is (is_hex_number m l) (length l) (hex_place m l) _ (hex_value l) (hex_whole m l) (all_digits hex_digit 16 (hex_place m l) l)))

  pub decimal_is : k ≡ most_digits (min most 19) 1 l → d ≡ front_from 10 k 0 0 l → whole_read (length l) d ≡ decimal_read most l
  unfolding decimal_read
  decimal_is e f =
      let m = min most 19 in
      rw (f, e, front_is is_digit decimal_digit 10 decimal_class decimal_digit_lem (most_digits m 1 l) l, ← decimal_place_lem m l)
      (sym (answer_is (is_decimal m l) (length l) (decimal_place m l) _ (decimal_value l) (decimal_whole m l) (all_digits decimal_digit 10 (decimal_place m l) l)))

  pub count_is : (limit n : ℕ) → k ≡ most_digits (min most 19) 0 l → d ≡ front_from 10 k 0 0 l → n ≡ fitting limit d.count d.value
      → whole_read (length l) (digits n d.value) ≡ count_read most limit l
  unfolding count_read
  count_is limit n e f g =
      let m = min most 19 in
      let c = run_length is_digit (most_digits m 0 l) l in
      rw (g, f, e, front_is is_digit decimal_digit 10 decimal_class decimal_digit_lem (most_digits m 0 l) l, ← count_place_lem m limit l)
      (sym (answer_is (is_count m limit l) (length l) (count_place m limit l) _ (decimal_value l) (count_whole m limit l)
      (λ h. all_digits decimal_digit 10 c l (omega (arith, count_place_lem m limit l, fit_within limit c (decimal_value (take c l)))))))

-- a number of so many digits fits 64 bits
pub fits : (base cap n : ℕ) → 0 < base → base ^ cap ≤ 2 ^ 64 → n ≤ cap → base ^ n ≤ 2 ^ 64
fits base cap n pos h k = le_trans (pow-le-pow_right {n = base} pos k) h

pub decimal_fits : (most z : ℕ) (l : List ℕ) → 10 ^ most_digits (min most 19) z l ≤ 2 ^ 64
decimal_fits most z l = fits 10 19 _ (lit< tt) (lit≤ tt) (omega (arith, most_within (min most 19) z l))
