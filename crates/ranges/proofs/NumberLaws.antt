-- A number after fixed text: the tests that find it, and what a template makes of the two. Assumes nothing.
use mathlib.Core.Bool.{Bool, true, false, and-false}
use mathlib.Core.List.{List, ◌∷◌}
use mathlib.Core.Path.{◌≡◌, refl, sym, ap, ◌∙◌}
use Prim.Native.Nat.{ℕ, ◌+◌, ◌≤◌, max}
use native.Mathlib.Nat.{add-sub_cancel_left}
use native.Mathlib.Omega.{arith}
use lib.ListN.{length, drop, length-take, length-drop}
use Rattle.std.specs.Prelude.{Some, None}
use Rattle.std.proofs.lemmas.Option.{none-some, same_Some}
use Rattle.places.specs.Place.{part_of}
use Rattle.classes.proofs.RunLaws.{run_take}
use Rattle.classes.proofs.ScanLaws.{scan_text, scan_unlike, scan_bytes_to}
use Rattle.stream.specs.Bytes.{is_digit}
use Rattle.stream.specs.Numbers.{is_decimal, decimal_value}
use Rattle.stream.specs.Template.{Part, text, bytes, Scanned, unlike, keep, scan, starts_with}
use Rattle.text.proofs.SameLaws.{starts_is}
use Rattle.ranges.specs.Reading.{number_after, digits_from}
use Rattle.ranges.specs.declared.numbers.Numbered.{Numbered}

module _ (value : List ℕ) (at : ℕ) (mark : List ℕ) where
  abbrev start : ℕ
  start = at + length mark

  abbrev pub digits : List ℕ
  digits = digits_from value start

  abbrev pub marked : Bool
  marked = starts_with mark (drop at value)

  -- ---- the tests, one after the other

  pub unmarked : marked ≡ false → number_after value at mark ≡ None
  unfolding number_after
  unmarked e = rw e

  pub unnumbered : is_decimal 12 digits ≡ false → number_after value at mark ≡ None
  unfolding number_after
  unnumbered e = rw (e, and-false marked)

  pub numbered : marked ≡ true → is_decimal 12 digits ≡ true
      → number_after value at mark ≡ Some (record { number = decimal_value digits; next = start + length digits })
  unfolding number_after
  numbered e f = rw (e, f)

  pub digits_part : (end : ℕ) → end ≡ start + length digits → part_of value start end ≡ digits
  unfolding part_of
  digits_part end e = rw (e, add-sub_cancel_left) (sym (run_take is_digit (drop start value)))

  -- the digits are the part t of the value, which ends at `end`
  module _ {end : ℕ} (e : end ≡ start + length digits) {t : List ℕ} (f : t ≡ part_of value start end) where
    pub number_bad : is_decimal 12 t ≡ false → None ≡ number_after value at mark
    number_bad h = sym (unnumbered (ap (is_decimal 12) (sym (f ∙ digits_part end e)) ∙ h))

    pub number_read : marked ≡ true → {v : ℕ} → (is_decimal 12 t ≡ true) × (v ≡ decimal_value t) → Some (record { number = v; next = end }) ≡ number_after value at mark
    number_read m h =
        let d = f ∙ digits_part end e in
        rw (h.1, e, d) (sym (numbered m (ap (is_decimal 12) (sym d) ∙ h.0)))

  -- a text that stands at a place ends within the value, unless it is empty
  pub marked_fits : marked ≡ true → start ≤ max at (length value)
  marked_fits e =
      let f = ap length (starts_is mark (drop at value) e) in
      omega (arith, f, length-take (length mark) (drop at value), length-drop at value)

  -- ---- what a template makes of them

  abbrev pub scanned : List Part → Scanned
  scanned ps = scan (text mark ∷ bytes is_digit ∷ ps) (drop at value)

  pub scan_marked : marked ≡ true → (ps : List Part) → scanned ps ≡ keep digits (scan ps (drop (start + length digits) value))
  unfolding part_of
  scan_marked e ps =
      scan_text (bytes is_digit ∷ ps) value at mark e
      ∙ scan_bytes_to ps value start is_digit (start + length digits) refl
      ∙ ap (λ (d : List ℕ). keep d (scan ps (drop (start + length digits) value))) (digits_part _ refl)

-- ---- what an answer tells

-- the number that was found, and where a template goes on after it
pub record Found (value : List ℕ) (at : ℕ) (mark : List ℕ) (n : Numbered) : Type 0 where
  pub decimal : is_decimal 12 (digits value at mark) ≡ true
  pub number : n.number ≡ decimal_value (digits value at mark)
  pub scans : (ps : List Part) → scanned value at mark ps ≡ keep (digits value at mark) (scan ps (drop n.next value))

module _ (value : List ℕ) (at : ℕ) (mark : List ℕ) where
  -- a test that neither a text of another form passes, nor one whose digits write no number
  pub missed : None ≡ number_after value at mark → (ps : List Part) (p : Scanned → Bool) → p unlike ≡ false → ((d : List ℕ) (x : Scanned) → is_decimal 12 d ≡ false → p (keep d x) ≡ false)
      → p (scanned value at mark ps) ≡ false
  missed h ps p other bad = by (marked value at mark) refl (is_decimal 12 (digits value at mark)) refl
    where
      by : (t : Bool) → marked value at mark ≡ t → (u : Bool) → is_decimal 12 (digits value at mark) ≡ u → p (scanned value at mark ps) ≡ false
      by true e true f = absurd (none-some _ (h ∙ numbered value at mark e f))
      by true e false f = ap p (scan_marked value at mark e ps) ∙ bad (digits value at mark) (scan ps (drop (at + length mark + length (digits value at mark)) value)) f
      by false e u f = ap p (scan_unlike (bytes is_digit ∷ ps) value at mark e) ∙ other

  pub found : {n : Numbered} → Some n ≡ number_after value at mark → Found value at mark n
  found {n} h = by (marked value at mark) refl (is_decimal 12 (digits value at mark)) refl
    where
      by : (t : Bool) → marked value at mark ≡ t → (u : Bool) → is_decimal 12 (digits value at mark) ≡ u → Found value at mark n
      by true e true f =
          let q = same_Some _ _ (h ∙ numbered value at mark e f) in
          record {
            decimal = f;
            number = ap (λ (r : Numbered). r.number) q;
            scans =
                λ ps. scan_marked value at mark e ps
                ∙ ap (λ (i : ℕ). keep (digits value at mark) (scan ps (drop i value))) (sym (ap (λ (r : Numbered). r.next) q));
          }
      by true e false f = absurd (none-some _ (sym (h ∙ unnumbered value at mark f)))
      by false e u f = absurd (none-some _ (sym (h ∙ unmarked value at mark e)))
