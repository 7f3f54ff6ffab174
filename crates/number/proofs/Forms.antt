-- What a caller learns from each answer of a reader, where the cap on the digits does not matter. Assumes nothing.
use mathlib.Core.Path.{◌≡◌, refl, sym, ap, ◌∙◌}
use mathlib.Core.Bool.{Bool, true, false}
use mathlib.Core.List.{List}
use Prim.Native.Nat.{ℕ, ◌≤◌, min}
use native.Mathlib.Nat.{min-eq_left}
use native.Mathlib.Omega.{arith}
use Rattle.octets.specs.Choice.{pick}
use Rattle.octets.specs.Viable.{LongestViable}
use Rattle.stream.specs.GoodText.{is_count}
use Rattle.stream.specs.Numbers.{decimal_value, hex_value, is_decimal, is_hex_number}
use Rattle.number.specs.Reading.{decimal_place, hex_place, count_place, decimal_read, hex_read, count_read}
use Rattle.std.specs.Prelude.{Result, Ok, Err, Some, None}
use Rattle.std.specs.Result.{result_ok}
use Rattle.std.proofs.lemmas.Option.{none-some, same_Some}
use Rattle.number.proofs.Places.{decimal_longest, hex_longest, count_longest}

-- ---- an answer of any of the readers

module _ (good : Bool) (n at : ℕ) where
  found : (v : ℕ) → pick good (Ok n) (Err at) ≡ Ok v → (good ≡ true) × (v ≡ n)
  found v e = by good e
    where
      by : (t : Bool) → pick t (Ok n) (Err at) ≡ Ok v → (t ≡ true) × (v ≡ n)
      by true e = (refl, cc)
      by false e = let z : ◌≡◌ {A = ℕ} 0 1 = cc in absurd (omega arith)

  missed : (p : ℕ) → pick good (Ok n) (Err at) ≡ Err p → (good ≡ false) × (at ≡ p)
  missed p e = by good e
    where
      by : (t : Bool) → pick t (Ok n) (Err at) ≡ Err p → (t ≡ false) × (at ≡ p)
      by true e = let z : ◌≡◌ {A = ℕ} 0 1 = cc in absurd (omega arith)
      by false e = (refl, cc)

  -- as an Option
  some : (v : ℕ) → Some v ≡ result_ok (pick good (Ok n) (Err at)) → (good ≡ true) × (v ≡ n)
  some v e = by good e
    where
      by : (t : Bool) → Some v ≡ result_ok (pick t (Ok n) (Err at)) → (t ≡ true) × (v ≡ n)
      by true e = (refl, same_Some _ _ e)
      by false e = absurd (none-some _ (sym e))

  none : None ≡ result_ok (pick good (Ok n) (Err at)) → good ≡ false
  none e = by good e
    where
      by : (t : Bool) → None ≡ result_ok (pick t (Ok n) (Err at)) → t ≡ false
      by true e = absurd (none-some _ e)
      by false e = refl

-- the place of a bad answer is the one that is known to be the longest beginning's
placed : (good : List ℕ → Bool) (l : List ℕ) (n at : ℕ) → LongestViable good l at → {r : Result ℕ ℕ} → r ≡ pick (good l) (Ok n) (Err at) → (p : ℕ) → r ≡ Err p → LongestViable good l p
placed good l n at h a p e = let q : at ≡ p = (missed (good l) n at p (sym a ∙ e)).1 in rw (← q) h

-- ---- decimal

module _ (most : ℕ) (l : List ℕ) where
  pub decimal_exactly : {r : Result ℕ ℕ} → r ≡ decimal_read most l → (p : ℕ) → 1 ≤ most → r ≡ Err p → LongestViable (is_decimal (min most 19)) l p
  unfolding decimal_read
  decimal_exactly a p h e = placed (is_decimal (min most 19)) l (decimal_value l) (decimal_place (min most 19) l) (decimal_longest (min most 19) l (omega arith)) a p e

  module _ (h : most ≤ 19) where
    decimal_read_lem : decimal_read most l ≡ pick (is_decimal most l) (Ok (decimal_value l)) (Err (decimal_place most l))
    unfolding decimal_read
    decimal_read_lem = rw (min-eq_left {n = most} {m = 19} h)

    pub decimal_found : {r : Result ℕ ℕ} → r ≡ decimal_read most l → (v : ℕ) → Some v ≡ result_ok r → (is_decimal most l ≡ true) × (v ≡ decimal_value l)
    decimal_found a v e = some (is_decimal most l) (decimal_value l) (decimal_place most l) v (e ∙ ap result_ok (a ∙ decimal_read_lem))

    pub decimal_missed : {r : Result ℕ ℕ} → r ≡ decimal_read most l → None ≡ result_ok r → is_decimal most l ≡ false
    decimal_missed a e = none (is_decimal most l) (decimal_value l) (decimal_place most l) (e ∙ ap result_ok (a ∙ decimal_read_lem))

-- ---- from 1 to a limit

module _ (most limit : ℕ) (l : List ℕ) where
  pub count_exactly : {r : Result ℕ ℕ} → r ≡ count_read most limit l → (p : ℕ) → 1 ≤ most → 1 ≤ limit → r ≡ Err p → LongestViable (is_count (min most 19) limit) l p
  unfolding count_read
  count_exactly a p h k e = placed (is_count (min most 19) limit) l (decimal_value l) (count_place (min most 19) limit l) (count_longest (min most 19) limit l (omega arith) k) a p e

  module _ (h : most ≤ 19) where
    count_read_lem : count_read most limit l ≡ pick (is_count most limit l) (Ok (decimal_value l)) (Err (count_place most limit l))
    unfolding count_read
    count_read_lem = rw (min-eq_left {n = most} {m = 19} h)

    pub count_found : {r : Result ℕ ℕ} → r ≡ count_read most limit l → (v : ℕ) → Some v ≡ result_ok r → (is_count most limit l ≡ true) × (v ≡ decimal_value l)
    count_found a v e = some _ _ _ v (e ∙ ap result_ok (a ∙ count_read_lem))

    pub count_missed : {r : Result ℕ ℕ} → r ≡ count_read most limit l → None ≡ result_ok r → is_count most limit l ≡ false
    count_missed a e = none _ _ _ (e ∙ ap result_ok (a ∙ count_read_lem))

-- ---- hex

module _ (most : ℕ) (l : List ℕ) where
  pub hex_exactly : {r : Result ℕ ℕ} → r ≡ hex_read most l → (p : ℕ) → 1 ≤ most → r ≡ Err p → LongestViable (is_hex_number (min most 16)) l p
  unfolding hex_read
  hex_exactly a p h e = placed (is_hex_number (min most 16)) l (hex_value l) (hex_place (min most 16) l) (hex_longest (min most 16) l (omega arith)) a p e

  module _ (h : most ≤ 16) where
    hex_read_lem : hex_read most l ≡ pick (is_hex_number most l) (Ok (hex_value l)) (Err (hex_place most l))
    unfolding hex_read
    hex_read_lem = rw (min-eq_left {n = most} {m = 16} h)

    pub hex_found : (v : ℕ) → hex_read most l ≡ Ok v → (is_hex_number most l ≡ true) × (v ≡ hex_value l)
    hex_found v e = found _ _ _ v (sym hex_read_lem ∙ e)

    pub hex_missed : (p : ℕ) → hex_read most l ≡ Err p → is_hex_number most l ≡ false
    hex_missed p e = (missed _ _ _ p (sym hex_read_lem ∙ e)).0
