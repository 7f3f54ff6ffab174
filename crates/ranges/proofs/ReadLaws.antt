-- The value of `Content-Range` read, one number after the other. Assumes nothing.
use mathlib.Core.Bool.{true, false, and-false}
use mathlib.Core.List.{List, [], ◌∷◌}
use mathlib.Core.Path.{◌≡◌, refl, ap, ◌∙◌}
use Prim.Native.Nat.{ℕ, ◌≤◌, ◌<◌}
use lib.ListN.{length, drop}
use Rattle.octets.specs.Octets.{octets}
use Rattle.classes.proofs.ScanLaws.{scan_end, scan_over}
use Rattle.stream.specs.Bytes.{is_digit}
use Rattle.stream.specs.Numbers.{is_decimal}
use Rattle.stream.specs.Range.{part, is_aligned, is_content_range, range_scan, range_said}
use Rattle.stream.specs.Template.{Part, text, bytes, Scanned, parts, unlike, keep, scan}
use Rattle.std.specs.Prelude.{Some, None}
use Rattle.ranges.specs.Extent.{extent_of}
use Rattle.ranges.specs.Reading.{number_after, range_read}
use Rattle.ranges.specs.declared.numbers.Numbered.{Numbered}
use Rattle.ranges.proofs.NumberLaws.{digits, found, missed}

-- ---- a number that is none

module _ (N : ℕ) where
  bad_first : (d : List ℕ) (x : Scanned) → is_decimal 12 d ≡ false → is_content_range N (keep d x) ≡ false
  unfolding is_content_range
  bad_first d (parts ls) e = rw e
  bad_first d unlike e = refl

  bad_last : (a d : List ℕ) (x : Scanned) → is_decimal 12 d ≡ false → is_content_range N (keep a (keep d x)) ≡ false
  unfolding is_content_range
  bad_last a d (parts ls) e = rw (e, and-false (is_decimal 12 a))
  bad_last a d unlike e = refl

  bad_total : (a b d : List ℕ) (x : Scanned) → is_decimal 12 d ≡ false → is_content_range N (keep a (keep b (keep d x))) ≡ false
  unfolding is_content_range
  bad_total a b d (parts ls) e = rw (e, and-false (is_decimal 12 b), and-false (is_decimal 12 a))
  bad_total a b d unlike e = refl

  refused : (s : Scanned) → is_content_range N s ≡ false → None ≡ range_read N s
  unfolding range_read
  refused s e = rw e

-- ---- the three numbers, and the value's end

abbrev total_parts : List Part
total_parts = text (octets "/") ∷ bytes is_digit ∷ []

abbrev last_parts : List Part
last_parts = text (octets "-") ∷ bytes is_digit ∷ total_parts

module _ (N : ℕ) (value : List ℕ) where
  pub no_first : None ≡ number_after value 0 (octets "bytes ") → None ≡ range_read N (range_scan value)
  unfolding range_scan is_content_range
  no_first h = refused N _ (missed value 0 (octets "bytes ") h last_parts (is_content_range N) refl (bad_first N))

  module _ {a : Numbered} (first : Some a ≡ number_after value 0 (octets "bytes ")) where
    abbrev a_digits : List ℕ
    a_digits = digits value 0 (octets "bytes ")

    after_first : range_scan value ≡ keep a_digits (scan last_parts (drop a.next value))
    unfolding range_scan
    after_first = (found value 0 (octets "bytes ") first).scans last_parts

    pub no_last : None ≡ number_after value a.next (octets "-") → None ≡ range_read N (range_scan value)
    unfolding is_content_range
    no_last i =
        refused N _
        (ap (is_content_range N) after_first
        ∙ missed value a.next (octets "-") i total_parts (λ (s : Scanned). is_content_range N (keep a_digits s)) refl (bad_last N a_digits))

    module _ {b : Numbered} (last : Some b ≡ number_after value a.next (octets "-")) where
      abbrev b_digits : List ℕ
      b_digits = digits value a.next (octets "-")

      after_last : range_scan value ≡ keep a_digits (keep b_digits (scan total_parts (drop b.next value)))
      after_last = after_first ∙ ap (keep a_digits) ((found value a.next (octets "-") last).scans total_parts)

      pub no_total : None ≡ number_after value b.next (octets "/") → None ≡ range_read N (range_scan value)
      unfolding is_content_range
      no_total j =
          refused N _
          (ap (is_content_range N) after_last
          ∙ missed value b.next (octets "/") j [] (λ (s : Scanned). is_content_range N (keep a_digits (keep b_digits s))) refl (bad_total N a_digits b_digits))

      module _ {t : Numbered} (total : Some t ≡ number_after value b.next (octets "/")) where
        abbrev t_digits : List ℕ
        t_digits = digits value b.next (octets "/")

        after_total : range_scan value ≡ keep a_digits (keep b_digits (keep t_digits (scan [] (drop t.next value))))
        after_total = after_last ∙ ap (λ (s : Scanned). keep a_digits (keep b_digits s)) ((found value b.next (octets "/") total).scans [])

        pub not_ended : t.next < length value → None ≡ range_read N (range_scan value)
        unfolding is_content_range
        not_ended k = refused N _ (ap (is_content_range N) after_total ∙ rw (scan_over value t.next k))

        module _ (k : length value ≤ t.next) where
          all_read : range_scan value ≡ parts (a_digits ∷ b_digits ∷ t_digits ∷ [])
          all_read = after_total ∙ rw (scan_end value t.next k)

          said : range_said (range_scan value) ≡ part a.number b.number t.number
          unfolding range_said
          said =
              rw (
                all_read,
                (found value 0 (octets "bytes ") first).number,
                (found value a.next (octets "-") last).number,
                (found value b.next (octets "/") total).number,
              )

          is_range : is_content_range N (range_scan value) ≡ is_aligned N (part a.number b.number t.number)
          unfolding is_content_range
          is_range =
              rw (
                said,
                all_read,
                (found value 0 (octets "bytes ") first).decimal,
                (found value a.next (octets "-") last).decimal,
                (found value b.next (octets "/") total).decimal,
              )

          pub unaligned : is_aligned N (part a.number b.number t.number) ≡ false → None ≡ range_read N (range_scan value)
          unaligned e = refused N _ (is_range ∙ e)

          pub aligned : is_aligned N (part a.number b.number t.number) ≡ true
              → Some (extent_of (part a.number b.number t.number)) ≡ range_read N (range_scan value)
          unfolding range_read
          aligned e = rw (is_range ∙ e, said)
