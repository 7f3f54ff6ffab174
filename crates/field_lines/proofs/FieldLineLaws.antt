-- A field line read from its front. Assumes nothing.
use mathlib.Core.Path.{◌≡◌, refl, sym, ap, ◌∙◌}
use mathlib.Core.Bool.{Bool, true, false, ◌&&◌}
use mathlib.Core.List.{List, [], ◌∷◌}
use Prim.Native.Nat.{ℕ, ◌+◌, ◌-◌, ◌≤◌, ◌<◌}
use native.Mathlib.Nat.{sub-zero}
use native.Mathlib.Omega.{arith}
use borrow.Author.Tests.{le-leb}
use lib.Dec.{leb}
use lib.ListN.{length, take, drop, length-take, length-drop}
use lib.Seq.{take_all}
use Rattle.octets.specs.Octets.{octets}
use Rattle.stream.specs.Bytes.{is_tchar, is_text}
use Rattle.stream.specs.Lines.{field_scan, is_field_line, field_of, trimmed}
use Rattle.stream.specs.Template.{Part, text, bytes, Scanned, parts, unlike, keep, kept, is_like, scan, run, starts_with}
use Rattle.classes.proofs.RunLaws.{run_le}
use Rattle.classes.proofs.ScanLaws.{scan_text, scan_unlike, scan_bytes_to, scan_end, scan_over}
use Rattle.text.proofs.SameLaws.{starts_within}
use Rattle.classes.proofs.SpanLaws.{span_order, span_within, span_trims}
use Rattle.classes.specs.Span.{span_of}
use Rattle.places.specs.declared.Span.{Span}
use Rattle.places.specs.Place.{part_of}
use Rattle.std.specs.Prelude.{None, Some}
use Rattle.field_lines.specs.Entries.{entry_field}
use Rattle.field_lines.specs.Reading.{answer, ReadsField}
use Rattle.field_lines.specs.declared.entry.Entry.{Entry}
use Rattle.places.proofs.PlaceLaws.{part_shift}

abbrev after_name : List Part
after_name = text (octets ":") ∷ bytes is_text ∷ []

-- the test that the definition makes, of what was scanned
abbrev is_field : Scanned → Bool
is_field x = is_like x && leb 1 (length (kept 0 x))

not_named : (x : Scanned) → is_field (keep [] x) ≡ false
not_named (parts ls) = refl
not_named unlike = refl

-- n is where the name ends
module _ (s : List ℕ) (n : ℕ) (h : n ≡ 0 + length (run is_tchar s)) where
  by_name : field_scan s ≡ keep (take n s) (scan after_name (drop n s))
  unfolding field_scan
  by_name = scan_bytes_to after_name s 0 is_tchar n h ∙ ap (λ (i : ℕ). keep (take i s) (scan after_name (drop n s))) (sub-zero n)

  name_within : n ≤ length s
  name_within = omega (arith, run_le is_tchar s)

  pub no_name : n ≡ 0 → is_field_line s ≡ false
  unfolding is_field_line
  no_name e = rw (by_name, e) (not_named (scan after_name s))

  pub no_colon : starts_with (octets ":") (drop n s) ≡ false → is_field_line s ≡ false
  unfolding is_field_line
  no_colon e = rw (by_name, scan_unlike (bytes is_text ∷ []) s n (octets ":") e)

  -- a colon stands there, and m is where the text after it ends
  module _ (e : starts_with (octets ":") (drop n s) ≡ true) where
    pub colon_within : n + 1 ≤ length s
    colon_within = starts_within (octets ":") s n e name_within

    module _ (m : ℕ) (f : m ≡ n + 1 + length (run is_text (drop (n + 1) s))) where
      by_value : scan after_name (drop n s) ≡ keep (take (m - (n + 1)) (drop (n + 1) s)) (scan [] (drop m s))
      by_value = scan_text (bytes is_text ∷ []) s n (octets ":") e ∙ scan_bytes_to [] s (n + 1) is_text m f

      pub no_text : m < length s → is_field_line s ≡ false
      unfolding is_field_line
      no_text k = rw (by_name, by_value, scan_over s m k)

      module _ (k : length s ≤ m) where
        by_all : field_scan s ≡ parts (take n s ∷ drop (n + 1) s ∷ [])
        by_all = by_name ∙ rw (by_value, scan_end s m k, take_all (m - (n + 1)) (drop (n + 1) s) (omega (arith, length-drop (n + 1) s)))

        pub is_line : 0 < n → is_field_line s ≡ true
        unfolding is_field_line
        is_line j = rw by_all (le-leb 1 (length (take n s)) (omega (arith, length-take n s, name_within)))

        pub field_is : field_of s ≡ record { name = take n s; value = trimmed (drop (n + 1) s) }
        unfolding field_of
        field_is = rw by_all

-- ---- what the code answers

pub reads_none : (t line : List ℕ) → is_field_line line ≡ false → ReadsField t line None
unfolding answer
reads_none t line e = record { meaning = rw e; within = tt }

-- the value's places, trimmed, in the line: v has them from place k on
module _ (s : List ℕ) (k : ℕ) (v : Span) (g : v ≡ span_of (take (length s - k) (drop k s))) where
  span_is : v ≡ span_of (drop k s)
  span_is = g ∙ ap span_of (take_all (length s - k) (drop k s) (omega (arith, length-drop k s)))

  pub value_ordered : v.start ≤ v.end
  value_ordered = rw span_is (span_order (drop k s))

  pub value_within : k ≤ length s → k + v.end ≤ length s
  value_within h =
      let j : v.end ≤ length (drop k s) = rw span_is (span_within (drop k s)) in
      omega (arith, length-drop k s)

  value-is : part_of s (k + v.start) (k + v.end) ≡ trimmed (drop k s)
  unfolding part_of
  value-is = part_shift s k v.start v.end ∙ rw span_is (span_trims (drop k s))

abbrev placed : ℕ → Span → Entry
placed n v = record { name = record { start = 0; end = n }; value = record { start = n + 1 + v.start; end = n + 1 + v.end } }

module _ (s : List ℕ) (n : ℕ) (h : n ≡ 0 + length (run is_tchar s)) (e : starts_with (octets ":") (drop n s) ≡ true) (m : ℕ) (f : m ≡ n + 1 + length (run is_text (drop (n + 1) s))) (k : length s ≤ m) (j : 0 < n) (v : Span) (g : v ≡ span_of (take (length s - (n + 1)) (drop (n + 1) s))) where
  placed_field : entry_field s (placed n v) ≡ field_of s
  unfolding entry_field part_of
  placed_field = sym (field_is s n h e m f k ∙ rw (← value-is s (n + 1) v g, sub-zero))

  pub reads_good : ReadsField s s (Some (placed n v))
  unfolding answer
  reads_good = record {
    meaning = rw (is_line s n h e m f k j) (ap Some placed_field);
    within = record {
      name_ordered = omega arith;
      name_within = name_within s n h;
      value_ordered = omega (arith, value_ordered s (n + 1) v g);
      value_within = value_within s (n + 1) v g (colon_within s n h e);
    };
  }
