-- The status: the one that is signed, by the tests that the code makes, and what it says of the head's range. Assumes nothing.
use mathlib.Core.Bool.{Bool, true, false, ◌&&◌, not, ◌||◌}
use mathlib.Core.List.{List}
use mathlib.Core.Path.{◌≡◌, refl, sym, ap, ◌∙◌}
use Prim.Native.Nat.{ℕ}
use lib.Dec.{eqb}
use Rattle.octets.specs.Octets.{octets}
use Rattle.stream.specs.Bytes.{same}
use Rattle.stream.specs.Fields.{value_of, count_of}
use Rattle.stream.specs.Head.{Head, is_partial, signed_status, status_digits, http_status_name, is_status, is_ranged, content_range, range_of, block_size}
use Rattle.stream.specs.Lines.{Field}
use Rattle.stream.specs.Numbers.{number_from, decimal_value}
use Rattle.stream.specs.Range.{content_range_name, range_scan, is_content_range, range_said, whole}
use Rattle.stream.proofs.Truth.{same_equal}
use Rattle.std.specs.Prelude.{Option, Some, None, is_some, unwrap_or}
use Rattle.std.proofs.lemmas.Bool.{false≢true, true≢false}
use Rattle.std.proofs.lemmas.Option.{none-some, same_Some}
use Rattle.params.proofs.Options.{picked, unpicked, is_picked}
use Rattle.octets.specs.Choice.{pick}
use Rattle.ranges.specs.Reading.{range_read}
use Rattle.ranges.specs.Extent.{extent_of}
use Rattle.ranges.specs.declared.extent.Extent.{Extent}
use Rattle.ranges.specs.declared.extent.Extent.TheVariants.{Whole}
use Rattle.head.specs.Reading.{signed_digits}
use Rattle.head.specs.declared.status.StatusRead.{StatusRead}
use Rattle.head.specs.Steps.{status_number, part_read, with_part, part_kept, part_said, status_read, status_said}

-- ---- the text that is signed

module _ (digits : List ℕ) (fs : List Field) where
  pub signed_part : same digits (octets "206") ≡ true → value_of http_status_name fs ≡ signed_digits digits fs
  unfolding signed_digits
  signed_part e = rw e

  pub signed_whole : same digits (octets "206") ≡ false → digits ≡ signed_digits digits fs
  unfolding signed_digits
  signed_whole e = rw e

  -- the same, as it was read
  module _ (N : ℕ) {signed : List ℕ} (s : signed ≡ signed_digits digits fs) where
    pub part_status : {n : Option ℕ} {r : Option StatusRead} → n ≡ status_number signed → same digits (octets "206") ≡ true
        → r ≡ part_kept (is_some n) fs N → r ≡ status_read digits fs N
    unfolding status_read status_number
    part_status k e x = x ∙ rw (k, is_picked (is_status signed) (decimal_value signed), s, e)

    pub part_says : same digits (octets "206") ≡ true → part_said fs N ≡ status_said digits fs N
    unfolding status_said
    part_says e = rw e

    module _ {n : Option ℕ} (k : n ≡ status_number signed) (e : same digits (octets "206") ≡ false) where
      pub whole_says : record { number = unwrap_or n 0; extent = Whole } ≡ status_said digits fs N
      unfolding status_said
      whole_says = rw (e, k, s)

      pub whole_status : is_some n ≡ true → Some (record { number = unwrap_or n 0; extent = Whole }) ≡ status_read digits fs N
      unfolding status_read status_number
      whole_status = by n k
        where
          by : (m : Option ℕ) → m ≡ pick (is_status signed) (Some (decimal_value signed)) None → is_some m ≡ true
              → Some (record { number = unwrap_or m 0; extent = Whole })
              ≡ pick (is_status (signed_digits digits fs)) (pick (same digits (octets "206")) (with_part (part_read fs N)) (Some (record { number = decimal_value digits; extent = Whole }))) None
          by None q h = absurd (false≢true h)
          by (Some m) q h = let p = picked (is_status signed) _ q in rw (← s, p.0, e, p.1, s, ← signed_whole e)

      pub no_status : is_some n ≡ false → None ≡ status_read digits fs N
      unfolding status_read status_number
      no_status = by n k
        where
          by : (m : Option ℕ) → m ≡ pick (is_status signed) (Some (decimal_value signed)) None → is_some m ≡ false
              → None ≡ pick (is_status (signed_digits digits fs)) (pick (same digits (octets "206")) (with_part (part_read fs N)) (Some (record { number = decimal_value digits; extent = Whole }))) None
          by None q h = rw (← s, unpicked (is_status signed) _ q)
          by (Some m) q h = absurd (true≢false h)

-- ---- a part answer, by the tests that the code makes

module _ (fs : List Field) (N : ℕ) {r : Option Extent} {n : ℕ} (read : r ≡ range_read N (range_scan (value_of content_range_name fs)))
    (single : n ≡ count_of content_range_name fs) where
  pub part_good : (signed : Bool) → signed && (is_some r && eqb n 1) ≡ true → Some (record { number = 206; extent = unwrap_or r Whole }) ≡ part_kept signed fs N
  unfolding part_read
  part_good signed h = rw (← read, ← single) (by signed r (eqb n 1) h)
    where
      by : (s : Bool) (x : Option Extent) (b : Bool) → s && (is_some x && b) ≡ true
          → Some (record { number = 206; extent = unwrap_or x Whole }) ≡ pick s (with_part (pick b x None)) None
      by true (Some x) true k = refl
      by true (Some x) false k = absurd (false≢true k)
      by true None b k = absurd (false≢true k)
      by false x b k = absurd (false≢true k)

  pub part_bad : (signed : Bool) → signed && (is_some r && eqb n 1) ≡ false → None ≡ part_kept signed fs N
  unfolding part_read
  part_bad signed h = rw (← read, ← single) (by signed r (eqb n 1) h)
    where
      by : (s : Bool) (x : Option Extent) (b : Bool) → s && (is_some x && b) ≡ false → None ≡ pick s (with_part (pick b x None)) None
      by true (Some x) true k = absurd (true≢false k)
      by true (Some x) false k = refl
      by true None true k = refl
      by true None false k = refl
      by false x b k = refl

  pub part_told : record { number = 206; extent = unwrap_or r Whole } ≡ part_said fs N
  unfolding part_said
  part_told = rw (← read)

-- ---- the head's own

is_206 : (d : List ℕ) → same d (octets "206") ≡ true → 206 ≡ decimal_value d
unfolding number_from
is_206 d e = rw (same_equal d (octets "206") e)

module _ (h : Head) where
  abbrev pub read : Option StatusRead
  read = status_read (status_digits h) h.fields (block_size h)

  pub signed_is : signed_digits (status_digits h) h.fields ≡ signed_status h
  unfolding signed_digits signed_status is_partial
  signed_is = refl

  abbrev single : Bool
  single = eqb (count_of content_range_name h.fields) 1

  abbrev ranged : Bool
  ranged = is_content_range (block_size h) (content_range h)

  pub status_kept : is_some read ≡ is_status (signed_status h) && is_ranged h
  unfolding status_read part_read is_ranged is_partial range_read
  status_kept = rw signed_is (by (is_status (signed_status h)) (same (status_digits h) (octets "206")) single ranged)
    where
      by : (a p c d : Bool)
          → is_some (pick a (pick p (with_part (pick c (pick d (Some (extent_of (range_said (content_range h)))) None) None)) (Some (record { number = decimal_value (status_digits h); extent = Whole }))) None)
          ≡ a && (not p || (c && d))
      by false p c d = refl
      by true false c d = refl
      by true true false d = refl
      by true true true false = refl
      by true true true true = refl

  pub status_says : (st : StatusRead) → Some st ≡ read → (st.number ≡ decimal_value (status_digits h)) × (st.extent ≡ extent_of (range_of h))
  unfolding status_read part_read range_of is_partial range_read
  status_says st e = by (is_status (signed_digits (status_digits h) h.fields)) (same (status_digits h) (octets "206")) refl single ranged e
    where
      by : (a p : Bool) → same (status_digits h) (octets "206") ≡ p → (c d : Bool)
          → Some st ≡ pick a (pick p (with_part (pick c (pick d (Some (extent_of (range_said (content_range h)))) None) None)) (Some (record { number = decimal_value (status_digits h); extent = Whole }))) None
          → (st.number ≡ decimal_value (status_digits h)) × (st.extent ≡ extent_of (pick p (range_said (content_range h)) whole))
      by false p q c d e = absurd (none-some _ (sym e))
      by true false q c d e = let k = same_Some _ _ e in (ap (λ (z : StatusRead). z.number) k, ap (λ (z : StatusRead). z.extent) k)
      by true true q false d e = absurd (none-some _ (sym e))
      by true true q true false e = absurd (none-some _ (sym e))
      by true true q true true e =
          let k = same_Some _ _ e in
          (ap (λ (z : StatusRead). z.number) k ∙ is_206 (status_digits h) q, ap (λ (z : StatusRead). z.extent) k)
