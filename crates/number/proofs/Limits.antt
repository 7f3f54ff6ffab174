-- The place in a number from 1 to a limit: the digits in front that are left where the last ones are taken away until the rest write no more than the
-- limit. Assumes nothing.
use mathlib.Core.Bool.{Bool, true, false, and-false}
use mathlib.Core.List.{List, [], ◌∷◌}
use mathlib.Core.Path.{◌≡◌, refl, sym, ◌∙◌}
use Prim.Native.Nat.{ℕ, zero, suc, ◌+◌, ◌*◌, ◌/◌, ◌≤◌, ◌<◌, min}
use native.Mathlib.Omega.{arith}
use borrow.Author.Tests.{eqb-true, eqb-false, le-leb, lt-leb, leb-true, leb-false}
use lib.Dec.{eqb, leb}
use lib.ListN.{take, get_or}
use lib.Seq.{take-suc}
use Rattle.octets.specs.Choice.{pick}
use Rattle.scanner.specs.Scanner.{reach_from, reach}
use Rattle.stream.specs.Bytes.{is_digit}
use Rattle.stream.specs.Forms.{fresh, wrote, step_count}
use Rattle.stream.specs.Numbers.{number_from, decimal_digit}
use Rattle.number.specs.Digits.{most_digits, fitting}
use Rattle.number.specs.Reading.{count_place}
use Rattle.number.proofs.Accepting.{positive, number_on, number_grows}
use Rattle.number.proofs.Classes.{inside}
use Rattle.number.proofs.Fronts.{reach_to, reach_off, reach_alike, run_length, run_none, run_full, run_on, run_off, run_within, run_at, most_none}
use Rattle.number.proofs.Values.{number_append}

module _ (limit n : ℕ) where
  -- how far digits go on after some that wrote v
  unfoldable count_length : ℕ → ℕ → List ℕ → ℕ
  count_length k v l = reach_from (step_count limit n) (wrote k v) l

  count_none : (k v : ℕ) → count_length k v [] ≡ 0
  unfolding count_length reach_from
  count_none k v = refl

  count_full : (v : ℕ) (l : List ℕ) → count_length 0 v l ≡ 0
  unfolding count_length reach_from step_count
  count_full v [] = refl
  count_full v (b ∷ l) = refl

  count_on : (k v b : ℕ) (l : List ℕ) → is_digit b ≡ true → v * 10 + decimal_digit b ≤ limit → count_length (suc k) v (b ∷ l) ≡ suc (count_length k (v * 10 + decimal_digit b) l)
  unfolding count_length step_count
  count_on k v b l e h = reach_to (step_count limit n) (wrote (suc k) v) (wrote k (v * 10 + decimal_digit b)) b l (rw (e, le-leb (v * 10 + decimal_digit b) limit h))

  count_over : (k v b : ℕ) (l : List ℕ) → limit < v * 10 + decimal_digit b → count_length (suc k) v (b ∷ l) ≡ 0
  unfolding count_length step_count
  count_over k v b l h = reach_off (step_count limit n) (wrote (suc k) v) b l (rw (lt-leb (v * 10 + decimal_digit b) limit h, and-false (is_digit b)))

  count_off : (k v b : ℕ) (l : List ℕ) → is_digit b ≡ false → count_length (suc k) v (b ∷ l) ≡ 0
  unfolding count_length step_count
  count_off k v b l e = reach_off (step_count limit n) (wrote (suc k) v) b l (rw e)

  -- it goes on as far as the first c digits write no more than the limit
  count_least : (c k v : ℕ) (l : List ℕ) → c ≤ run_length is_digit k l → number_on v (take c l) ≤ limit → c ≤ count_length k v l
  unfolding number_from
  count_least zero k v l h g = omega arith
  count_least (suc c) zero v l h g = absurd (omega (arith, run_full is_digit l))
  count_least (suc c) (suc k) v [] h g = absurd (omega (arith, run_none is_digit (suc k)))
  count_least (suc c) (suc k) v (b ∷ l) h g = by (is_digit b) refl (count_least c k (v * 10 + decimal_digit b) l)
    where
      by : (t : Bool) → is_digit b ≡ t
          → (c ≤ run_length is_digit k l → number_on (v * 10 + decimal_digit b) (take c l) ≤ limit → c ≤ count_length k (v * 10 + decimal_digit b) l)
          → suc c ≤ count_length (suc k) v (b ∷ l)
      by true e ih =
          let w : v * 10 + decimal_digit b ≤ limit = omega (arith, number_grows (v * 10 + decimal_digit b) (take c l)) in
          omega (arith, count_on k v b l e w, ih (omega (arith, run_on is_digit k b l e)) g)
      by false e ih = absurd (omega (arith, run_off is_digit k b l e))

  -- and no further
  count_most : (c k v : ℕ) (l : List ℕ) → limit < number_on v (take c l) → v ≤ limit → count_length k v l < c
  unfolding number_from
  count_most zero k v l h g = absurd (omega arith)
  count_most (suc c) k v [] h g = absurd (omega arith)
  count_most (suc c) zero v (b ∷ l) h g = omega (arith, count_full v (b ∷ l))
  count_most (suc c) (suc k) v (b ∷ l) h g = by (is_digit b) (leb (v * 10 + decimal_digit b) limit) refl refl (count_most c k (v * 10 + decimal_digit b) l h)
    where
      by : (t u : Bool) → is_digit b ≡ t → leb (v * 10 + decimal_digit b) limit ≡ u
          → (v * 10 + decimal_digit b ≤ limit → count_length k (v * 10 + decimal_digit b) l < c)
          → count_length (suc k) v (b ∷ l) < suc c
      by true true e q ih = let w = leb-true (v * 10 + decimal_digit b) limit q in omega (arith, count_on k v b l e w, ih w)
      by true false e q ih = omega (arith, count_over k v b l (leb-false (v * 10 + decimal_digit b) limit q))
      by false u e q ih = omega (arith, count_off k v b l e)

  count_run : (k v : ℕ) (l : List ℕ) → count_length k v l ≤ run_length is_digit k l
  count_run zero v l = omega (arith, count_full v l)
  count_run (suc k) v [] = omega (arith, count_none (suc k) v)
  count_run (suc k) v (b ∷ l) = by (is_digit b) (leb (v * 10 + decimal_digit b) limit) refl refl (count_run k (v * 10 + decimal_digit b) l)
    where
      by : (t u : Bool) → is_digit b ≡ t → leb (v * 10 + decimal_digit b) limit ≡ u
          → count_length k (v * 10 + decimal_digit b) l ≤ run_length is_digit k l
          → count_length (suc k) v (b ∷ l) ≤ run_length is_digit (suc k) (b ∷ l)
      by true true e q ih = omega (arith, count_on k v b l e (leb-true (v * 10 + decimal_digit b) limit q), run_on is_digit k b l e)
      by true false e q ih = omega (arith, count_over k v b l (leb-false (v * 10 + decimal_digit b) limit q))
      by false u e q ih = omega (arith, count_off k v b l e)

  -- the last of c + 1 digits taken away
  number_less : (k c : ℕ) (l : List ℕ) → c < run_length is_digit k l → number_on 0 (take (suc c) l) / 10 ≡ number_on 0 (take c l)
  number_less k c l h =
      let d = inside 48 57 (get_or l c 0) (run_at is_digit k c l h) in
      let e = number_append decimal_digit 10 0 (take c l) (get_or l c 0) in
      rw (take-suc l c 0 (omega (arith, run_within is_digit k l)), e) (omega arith)

  fit_is : (c k : ℕ) (l : List ℕ) → c ≤ run_length is_digit k l → count_length k 0 l ≤ c → fitting limit c (number_on 0 (take c l)) ≡ count_length k 0 l
  unfolding fitting
  fit_is zero k l h g = omega arith
  fit_is (suc c) k l h g = by (leb (number_on 0 (take (suc c) l)) limit) refl (fit_is c k l (omega arith))
    where
      by : (t : Bool) → leb (number_on 0 (take (suc c) l)) limit ≡ t → (count_length k 0 l ≤ c → fitting limit c (number_on 0 (take c l)) ≡ count_length k 0 l)
          → fitting limit (suc c) (number_on 0 (take (suc c) l)) ≡ count_length k 0 l
      by true e ih = rw (e, fitting) (omega (arith, count_least (suc c) k 0 l h (leb-true _ limit e)))
      by false e ih =
          let m = count_most (suc c) k 0 l (leb-false _ limit e) (omega arith) in
          rw (e, fitting, number_less k c l (omega arith)) (ih (omega arith))

  -- from the first byte on
  count_start : (l : List ℕ) → reach_from (step_count limit n) fresh l ≡ count_length (most_digits (suc n) 0 l) 0 l
  unfolding count_length most_digits reach_from step_count
  count_start [] = refl
  count_start (b ∷ l) = by (eqb b 48) refl
    where
      no_digit : min (suc n) 0 ≡ 0
      no_digit = omega arith

      same_value : 0 * 10 + decimal_digit b ≡ decimal_digit b
      same_value = omega arith

      by : (t : Bool) → eqb b 48 ≡ t → reach_from (step_count limit n) fresh (b ∷ l) ≡ count_length (pick t (min (suc n) 0) (suc n)) 0 (b ∷ l)
      by true e = rw (no_digit, eqb-true b 48 e)
      by false e = reach_alike (step_count limit n) fresh (wrote (suc n) 0) b l (rw (same_value, positive b (eqb-false b 48 e)))

pub count_place_lem : (k limit : ℕ) (l : List ℕ) → let m = run_length is_digit (most_digits k 0 l) l in count_place k limit l ≡ fitting limit m (number_on 0 (take m l))
unfolding count_place reach fitting
count_place_lem zero limit l = rw (most_none 0 l, run_full is_digit l)
count_place_lem (suc n) limit l =
    let k = most_digits (suc n) 0 l in
    count_start limit n l ∙ sym (fit_is limit n (run_length is_digit k l) k l (omega arith) (count_run limit n k 0 l))

pub fit_within : (limit c v : ℕ) → fitting limit c v ≤ c
unfolding fitting
fit_within limit zero v = omega arith
fit_within limit (suc c) v = by (leb v limit) refl (fit_within limit c (v / 10))
  where
    by : (t : Bool) → leb v limit ≡ t → fitting limit c (v / 10) ≤ c → fitting limit (suc c) v ≤ suc c
    by true e h = rw (e, fitting) (omega arith)
    by false e h = rw (e, fitting) (omega arith)
