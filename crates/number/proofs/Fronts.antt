-- The digits in front of a text, as the shared loop reads them: a decimal or a hex number's form goes over just these. Assumes nothing.
use mathlib.Core.Bool.{Bool, true, false}
use mathlib.Core.List.{List, [], ◌∷◌}
use mathlib.Core.Option.{Option, none, some}
use mathlib.Core.Path.{◌≡◌, refl, sym, ap, ◌∙◌}
use Prim.Native.Nat.{ℕ, zero, suc, ◌+◌, ◌*◌, ◌≤◌, ◌<◌, min}
use native.Mathlib.Nat.{zero-add, add-zero}
use native.Mathlib.Omega.{arith}
use borrow.Author.Tests.{eqb-true, eqb-false}
use lib.Dec.{eqb}
use lib.ListN.{length, take, get_or}
use Rattle.octets.specs.Choice.{pick}
use Rattle.scanner.specs.Form.{done, up_to, step_form, scanner_of, reach_form}
use Rattle.scanner.specs.Scanner.{reach_from, reach}
use Rattle.scanner.proofs.Reach.{within_length}
use Rattle.stream.specs.Bytes.{is_digit, is_hex}
use Rattle.stream.specs.Forms.{decimal_form, hex_form}
use Rattle.stream.specs.Numbers.{number_from}
use Rattle.number.specs.Digits.{digit_of, is_digit_of, digits, front_from, most_digits}
use Rattle.number.specs.Reading.{decimal_place, hex_place}
use Rattle.number.proofs.Accepting.{positive}

-- ---- one step of any scanner

module _ {S : Type 0} (step : S → ℕ → Option S) where
  pub reach_to : (s t : S) (b : ℕ) (l : List ℕ) → step s b ≡ some t → reach_from step s (b ∷ l) ≡ suc (reach_from step t l)
  unfolding reach_from
  reach_to s t b l e = rw (e, reach_from)

  pub reach_off : (s : S) (b : ℕ) (l : List ℕ) → step s b ≡ none → reach_from step s (b ∷ l) ≡ 0
  unfolding reach_from
  reach_off s b l e = rw (e, reach_from)

  pub reach_alike : (s t : S) (b : ℕ) (l : List ℕ) → step s b ≡ step t b → reach_from step s (b ∷ l) ≡ reach_from step t (b ∷ l)
  unfolding reach_from
  reach_alike s t b l e = rw (e, reach_from)

-- ---- a run of bytes of a class, no longer than k

module _ (p : ℕ → Bool) where
  unfoldable pub run_length : ℕ → List ℕ → ℕ
  run_length k l = reach_from step_form (up_to k p done) l

  pub run_none : (k : ℕ) → run_length k [] ≡ 0
  unfolding run_length reach_from
  run_none k = refl

  pub run_full : (l : List ℕ) → run_length 0 l ≡ 0
  unfolding run_length reach_from step_form
  run_full [] = refl
  run_full (b ∷ l) = refl

  pub run_on : (k b : ℕ) (l : List ℕ) → p b ≡ true → run_length (suc k) (b ∷ l) ≡ suc (run_length k l)
  unfolding run_length step_form
  run_on k b l e = reach_to step_form (up_to (suc k) p done) (up_to k p done) b l (rw e)

  pub run_off : (k b : ℕ) (l : List ℕ) → p b ≡ false → run_length (suc k) (b ∷ l) ≡ 0
  unfolding run_length step_form
  run_off k b l e = reach_off step_form (up_to (suc k) p done) b l (rw e)

  pub run_within : (k : ℕ) (l : List ℕ) → run_length k l ≤ length l
  unfolding run_length reach
  run_within k l = within_length (scanner_of (up_to k p done)) l

  -- each of its bytes is of the class
  pub run_at : (k i : ℕ) (l : List ℕ) → i < run_length k l → p (get_or l i 0) ≡ true
  run_at zero i l h = absurd (omega (arith, run_full l))
  run_at (suc k) i [] h = absurd (omega (arith, run_none (suc k)))
  run_at (suc k) i (b ∷ l) h = by i (p b) refl h (λ j. run_at k j l)
    where
      by : (i : ℕ) (t : Bool) → p b ≡ t → i < run_length (suc k) (b ∷ l) → ((j : ℕ) → j < run_length k l → p (get_or l j 0) ≡ true) → p (get_or (b ∷ l) i 0) ≡ true
      by zero true e h ih = e
      by (suc j) true e h ih = ih j (omega (arith, run_on k b l e))
      by i false e h ih = absurd (omega (arith, run_off k b l e))

-- ---- the shared loop

module _ (p : ℕ → Bool) (digit : ℕ → ℕ) (base : ℕ) (class : (b : ℕ) → p b ≡ is_digit_of base b) (value : (b : ℕ) → p b ≡ true → digit_of b ≡ digit b) where
  front_from_lem : (k count v : ℕ) (l : List ℕ) → front_from base k count v l ≡ digits (count + run_length p k l) (number_from digit base v (take (run_length p k l) l))
  unfolding front_from number_from
  front_from_lem zero count v l = rw (run_full p l, add-zero count)
  front_from_lem (suc k) count v [] = rw (run_none p (suc k), add-zero count)
  front_from_lem (suc k) count v (b ∷ l) = by (p b) refl (front_from_lem k (suc count))
    where
      by : (t : Bool) → p b ≡ t → ((v : ℕ) (l : List ℕ) → front_from base k (suc count) v l ≡ digits (suc count + run_length p k l) (number_from digit base v (take (run_length p k l) l)))
          → front_from base (suc k) count v (b ∷ l) ≡ digits (count + run_length p (suc k) (b ∷ l)) (number_from digit base v (take (run_length p (suc k) (b ∷ l)) (b ∷ l)))
      by true e ih =
          let n : count + suc (run_length p k l) ≡ suc count + run_length p k l = omega arith in
          rw (sym (class b) ∙ e, front_from, run_on p k b l e, n, value b e) (ih (v * base + digit b) l)
      by false e ih = rw (sym (class b) ∙ e, front_from, run_off p k b l e, add-zero count)

  pub front_is : (k : ℕ) (l : List ℕ) → front_from base k 0 0 l ≡ digits (run_length p k l) (number_from digit base 0 (take (run_length p k l) l))
  front_is k l = front_from_lem k 0 0 l ∙ ap (λ (n : ℕ). digits n (number_from digit base 0 (take (run_length p k l) l))) (zero-add (run_length p k l))

-- ---- the place in hex and decimal texts

pub hex_place_lem : (k : ℕ) (l : List ℕ) → hex_place k l ≡ run_length is_hex k l
unfolding hex_place hex_form reach_form reach reach_from run_length step_form
hex_place_lem zero l = sym (run_full is_hex l)
hex_place_lem (suc n) [] = refl
hex_place_lem (suc n) (b ∷ l) = reach_alike step_form (hex_form n) (up_to (suc n) is_hex done) b l refl

done_reach : (l : List ℕ) → reach_from step_form done l ≡ 0
unfolding reach_from step_form
done_reach [] = refl
done_reach (b ∷ l) = refl

pub most_within : (k z : ℕ) (l : List ℕ) → most_digits k z l ≤ k
unfolding most_digits
most_within k z l = by (eqb (get_or l 0 0) 48)
  where
    by : (t : Bool) → pick t (min k z) k ≤ k
    by true = omega arith
    by false = omega arith

pub most_none : (z : ℕ) (l : List ℕ) → most_digits 0 z l ≡ 0
most_none z l = omega (arith, most_within 0 z l)

pub decimal_place_lem : (k : ℕ) (l : List ℕ) → decimal_place k l ≡ run_length is_digit (most_digits k 1 l) l
unfolding decimal_place decimal_form reach_form reach reach_from run_length most_digits step_form
decimal_place_lem zero l = rw (most_none 1 l) (sym (run_full is_digit l))
decimal_place_lem (suc n) [] = refl
decimal_place_lem (suc n) (b ∷ l) = by (eqb b 48) refl
  where
    one_digit : min (suc n) 1 ≡ 1
    one_digit = omega arith

    by : (t : Bool) → eqb b 48 ≡ t → reach_from step_form (decimal_form n) (b ∷ l) ≡ run_length is_digit (pick t (min (suc n) 1) (suc n)) (b ∷ l)
    by true e = rw (one_digit, eqb-true b 48 e) (reach_to step_form (decimal_form n) done 48 l refl ∙ ap suc (done_reach l) ∙ sym (run_on is_digit 0 48 l refl ∙ ap suc (run_full is_digit l)))
    by false e = reach_alike step_form (decimal_form n) (up_to (suc n) is_digit done) b l (rw (e, positive b (eqb-false b 48 e)))
