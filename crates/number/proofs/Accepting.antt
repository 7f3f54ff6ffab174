-- The forms of decimal and hex numbers, and the scanner of a number from 1 to a limit, accept just the texts that the rules call such numbers.
-- Assumes nothing.
use mathlib.Core.Bool.{Bool, true, false, ◌&&◌, and-true, and-false, and_assoc, or-true}
use mathlib.Core.List.{List, [], ◌∷◌}
use mathlib.Core.Path.{◌≡◌, refl, sym, ◌∙◌}
use Prim.Native.Nat.{ℕ, zero, suc, ◌+◌, ◌*◌, ◌≤◌, ◌<◌}
use native.Mathlib.Omega.{arith}
use borrow.Author.Tests.{eqb-true, eqb-false, ne_eqb, le-leb, lt-leb, lt-ltb, leb-true, leb-false}
use lib.Dec.{eqb, leb, leb-zero, leb-suc-suc, leb-suc-zero}
use lib.ListN.{length}
use Rattle.scanner.specs.Form.{Form, done, one, up_to, step_form, may_end_form, accepts_form}
use Rattle.scanner.specs.Scanner.{accepts_from, accepts}
use Rattle.scanner.proofs.Forms.{form_end, form_to, form_off, form_alike}
use Rattle.scanner.proofs.Parts.{one_accepts, one_nil, done_accepts, done_nil}
use Rattle.scanner.proofs.Reach.{accepts_to, accepts_off}
use Rattle.stream.specs.Bytes.{is_digit, is_hex, all, between}
use Rattle.stream.specs.Forms.{is_positive, positive_digit, hex_byte, decimal_form, hex_form, fresh, wrote, step_count, may_end_count, count_up_to}
use Rattle.stream.specs.GoodText.{is_count}
use Rattle.stream.specs.Numbers.{is_decimal, is_hex_number, decimal_digit, number_from}
use Rattle.number.proofs.Classes.{inside}

-- ---- a run to the end

run_accepts : (n : ℕ) (p : ℕ → Bool) (l : List ℕ) → accepts_form (up_to n p done) l ≡ all p l && leb (length l) n
unfolding all step_form may_end_form
run_accepts n p [] = form_end (up_to n p done) ∙ sym (leb-zero n)
run_accepts zero p (b ∷ l) = form_off (up_to 0 p done) b l refl ∙ rw (leb-suc-zero (length l)) (sym (and-false (p b && all p l)))
run_accepts (suc n) p (b ∷ l) = by (p b) refl (run_accepts n p l)
  where
    by : (t : Bool) → p b ≡ t → accepts_form (up_to n p done) l ≡ all p l && leb (length l) n → accepts_form (up_to (suc n) p done) (b ∷ l) ≡ p b && all p l && leb (suc (length l)) (suc n)
    by true e ih = form_to (up_to (suc n) p done) (up_to n p done) b l (rw e) ∙ ih ∙ rw (e, leb-suc-suc)
    by false e ih = form_off (up_to (suc n) p done) b l (rw e) ∙ rw e

-- ---- hex

pub hex_accepts : (n : ℕ) (l : List ℕ) → is_hex_number (suc n) l ≡ accepts_form (hex_form n) l
unfolding is_hex_number hex_form all
hex_accepts n [] = sym (one_nil hex_byte (up_to n is_hex done))
hex_accepts n (b ∷ l) =
    rw (leb-suc-suc 0 (length l), leb-zero (length l), leb-suc-suc (length l) n, one_accepts hex_byte (up_to n is_hex done) b l, run_accepts n is_hex l)
    (and_assoc (is_hex b) (all is_hex l) (leb (length l) n))

-- ---- decimal, by the first byte

-- a digit other than 0
pub positive : (b : ℕ) → (b ≡ 48 → ⊥) → is_positive b ≡ is_digit b
positive b h = by (leb 49 b) refl
  where
    by : (t : Bool) → leb 49 b ≡ t → t && leb b 57 ≡ leb 48 b && leb b 57
    by true e = rw (le-leb 48 b (omega (arith, leb-true 49 b e)))
    by false e = rw (lt-leb 48 b (omega (arith, leb-false 49 b e)))

module _ (n : ℕ) where
  decimal_none : is_decimal (suc n) [] ≡ false
  unfolding is_decimal all
  decimal_none = refl

  decimal_zero : is_decimal (suc n) (48 ∷ []) ≡ true
  unfolding is_decimal all
  decimal_zero = rw (le-leb 1 (suc n) (omega arith))

  decimal_after_zero : (c : ℕ) (l : List ℕ) → is_decimal (suc n) (48 ∷ c ∷ l) ≡ false
  unfolding is_decimal all
  decimal_after_zero c l =
      rw (ne_eqb (suc (suc (length l))) 1 (λ q. omega arith), and-false (leb 1 (suc (suc (length l))) && leb (suc (suc (length l))) (suc n)))
      (and-false (all is_digit (c ∷ l)))

  decimal_other : (b : ℕ) (l : List ℕ) → (b ≡ 48 → ⊥) → is_decimal (suc n) (b ∷ l) ≡ is_digit b && (all is_digit l && leb (length l) n)
  unfolding is_decimal all
  decimal_other b l h = by (is_digit b) refl
    where
      by : (t : Bool) → is_digit b ≡ t → is_decimal (suc n) (b ∷ l) ≡ is_digit b && (all is_digit l && leb (length l) n)
      by true e =
          let k : 48 < b = omega (arith, (inside 48 57 b e).0) in
          rw (e, leb-suc-suc 0 (length l), leb-zero (length l), leb-suc-suc (length l) n, lt-ltb 48 b k, or-true (eqb (suc (length l)) 1), and-true (leb (length l) n))
      by false e = rw e

pub decimal_accepts : (n : ℕ) (l : List ℕ) → is_decimal (suc n) l ≡ accepts_form (decimal_form n) l
unfolding decimal_form may_end_form step_form
decimal_accepts n [] = decimal_none n ∙ sym (form_end (decimal_form n))
decimal_accepts n (b ∷ l) = by (eqb b 48) refl
  where
    from_one : Form
    from_one = one positive_digit (up_to n is_digit done)

    at_zero : (l : List ℕ) → is_decimal (suc n) (48 ∷ l) ≡ accepts_form done l
    at_zero [] = decimal_zero n ∙ sym done_nil
    at_zero (c ∷ l) = decimal_after_zero n c l ∙ sym (done_accepts c l)

    by : (t : Bool) → eqb b 48 ≡ t → is_decimal (suc n) (b ∷ l) ≡ accepts_form (decimal_form n) (b ∷ l)
    by true e = rw (eqb-true b 48 e) (at_zero l ∙ sym (form_to (decimal_form n) done 48 l refl))
    by false e =
        let h = eqb-false b 48 e in
        decimal_other n b l h
        ∙ sym (form_alike (decimal_form n) from_one b l (rw e) ∙ one_accepts positive_digit (up_to n is_digit done) b l ∙ rw (positive b h, run_accepts n is_digit l))

-- ---- from 1 to a limit

abbrev pub number_on : ℕ → List ℕ → ℕ
number_on v l = number_from decimal_digit 10 v l

-- a digit more makes no number smaller
pub number_grows : (v : ℕ) (l : List ℕ) → v ≤ number_on v l
unfolding number_from
number_grows v [] = omega arith
number_grows v (b ∷ l) = omega (arith, number_grows (v * 10 + decimal_digit b) l)

module _ (limit n : ℕ) where
  -- after digits that wrote v, k more may come
  Holds : ℕ → ℕ → List ℕ → Type 0
  Holds k v l = accepts_from (step_count limit n) may_end_count (wrote k v) l ≡ all is_digit l && leb (length l) k && leb (number_on v l) limit

  wrote_none : (k v : ℕ) → v ≤ limit → Holds k v []
  unfolding Holds accepts_from may_end_count all number_from
  wrote_none k v h = rw (leb-zero k, le-leb v limit h)

  wrote_full : (v b : ℕ) (l : List ℕ) → Holds 0 v (b ∷ l)
  unfolding Holds step_count all
  wrote_full v b l = accepts_off (step_count limit n) may_end_count (wrote 0 v) b l refl ∙ rw (leb-suc-zero (length l), and-false (is_digit b && all is_digit l))

  -- the next digit makes the number w
  wrote_more : (k v b w : ℕ) (l : List ℕ) → w ≡ v * 10 + decimal_digit b → (w ≤ limit → Holds k w l) → Holds (suc k) v (b ∷ l)
  unfolding Holds step_count all number_from
  wrote_more k v b w l f ih = rw (← f) (by (is_digit b) (leb w limit) refl refl)
    where
      by : (t u : Bool) → is_digit b ≡ t → leb w limit ≡ u
          → accepts_from (step_count limit n) may_end_count (wrote (suc k) v) (b ∷ l) ≡ is_digit b && all is_digit l && leb (suc (length l)) (suc k) && leb (number_on w l) limit
      by true true e q = accepts_to (step_count limit n) may_end_count (wrote (suc k) v) (wrote k w) b l (rw (← f, e, q)) ∙ ih (leb-true w limit q) ∙ rw (e, leb-suc-suc (length l) k)
      by true false e q =
          accepts_off (step_count limit n) may_end_count (wrote (suc k) v) b l (rw (← f, e, q))
          ∙ rw (lt-leb (number_on w l) limit (omega (arith, leb-false w limit q, number_grows w l))) (sym (and-false (is_digit b && all is_digit l && leb (suc (length l)) (suc k))))
      by false u e q = accepts_off (step_count limit n) may_end_count (wrote (suc k) v) b l (rw e) ∙ rw e

  wrote_accepts : (k v : ℕ) (l : List ℕ) → v ≤ limit → Holds k v l
  wrote_accepts k v [] h = wrote_none k v h
  wrote_accepts zero v (b ∷ l) h = wrote_full v b l
  wrote_accepts (suc k) v (b ∷ l) h = wrote_more k v b (v * 10 + decimal_digit b) l refl (wrote_accepts k (v * 10 + decimal_digit b) l)

  from_zero : (l : List ℕ) → is_count (suc n) limit (48 ∷ l) ≡ false
  unfolding is_count number_from
  from_zero [] = and-false (is_decimal (suc n) (48 ∷ []))
  from_zero (c ∷ l) = rw (decimal_after_zero n c l)

  -- a first digit of the value d
  from_digit : (b d : ℕ) (l : List ℕ) → d ≡ decimal_digit b → (b ≡ 48 → ⊥)
      → is_digit b && (all is_digit l && leb (length l) n) && between 1 limit (number_on d l) ≡ accepts_from (step_count limit n) may_end_count fresh (b ∷ l)
  unfolding step_count Holds
  from_digit b d l f h = by (is_digit b) (leb d limit) refl refl
    where
      by : (t u : Bool) → is_digit b ≡ t → leb d limit ≡ u
          → is_digit b && (all is_digit l && leb (length l) n) && between 1 limit (number_on d l) ≡ accepts_from (step_count limit n) may_end_count fresh (b ∷ l)
      by true true e q =
          let k : 1 ≤ number_on d l = omega (arith, number_grows d l, (inside 48 57 b e).0) in
          rw (e, le-leb 1 (number_on d l) k)
          (sym (accepts_to (step_count limit n) may_end_count fresh (wrote n d) b l (rw (← f, positive b h, e, q)) ∙ wrote_accepts n d l (leb-true d limit q)))
      by true false e q =
          rw (lt-leb (number_on d l) limit (omega (arith, leb-false d limit q, number_grows d l)), and-false (leb 1 (number_on d l)), and-false (is_digit b && (all is_digit l && leb (length l) n)))
          (sym (accepts_off (step_count limit n) may_end_count fresh b l (rw (← f, positive b h, e, q))))
      by false u e q = rw e (sym (accepts_off (step_count limit n) may_end_count fresh b l (rw (positive b h, e))))

  pub count_accepts : (l : List ℕ) → is_count (suc n) limit l ≡ accepts (count_up_to limit n) l
  unfolding is_count accepts accepts_from may_end_count step_count number_from
  count_accepts [] = rw (decimal_none n)
  count_accepts (b ∷ l) = by (eqb b 48) refl
    where
      same_value : 0 * 10 + decimal_digit b ≡ decimal_digit b
      same_value = omega arith

      by : (t : Bool) → eqb b 48 ≡ t → is_count (suc n) limit (b ∷ l) ≡ accepts_from (step_count limit n) may_end_count fresh (b ∷ l)
      by true e = rw (eqb-true b 48 e) (from_zero l)
      by false e = let h = eqb-false b 48 e in rw (decimal_other n b l h, same_value) (from_digit b (decimal_digit b) l refl h)
