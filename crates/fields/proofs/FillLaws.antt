-- A table that is filled from its front, entry after entry. Assumes nothing.
use mathlib.Core.Path.{◌≡◌, refl, ap, ◌∙◌}
use mathlib.Core.Bool.{Bool, true, false}
use mathlib.Core.List.{List, [], ◌∷◌, ◌++◌}
use Prim.Native.Nat.{ℕ, zero, suc, ◌+◌, ◌≤◌, ◌<◌, min}
use native.Mathlib.Omega.{arith}
use borrow.Author.Tests.{eqb-true, eqb-false}
use lib.Dec.{eqb}
use lib.ListN.{length, get_or, set, replicate, length-map, length-take}
use lib.Seq.{get_or-set_same, get_or-set_other}
use Rattle.stream.specs.Limits.{field_limit}
use Rattle.places.specs.Place.{part_of}
use Rattle.places.proofs.PlaceLaws.{part_moved}
use Rattle.field_lines.specs.Entries.{no_entry, entry_field, Within}
use Rattle.field_lines.specs.declared.entry.Entry.{Entry}
use Rattle.std.proofs.lemmas.List.{take_more_set, map-append}
use Rattle.fields.specs.Table.{fields_in, used_entries}
use Rattle.fields.specs.declared.table.Fields.{Fields}

-- ---- the fields, where one entry more is set

pub fields_length : (text : List ℕ) (f : Fields) → f.count ≤ field_limit → length f.entries ≡ field_limit → length (fields_in text f) ≡ f.count
unfolding fields_in
fields_length text f h k = omega (arith, length-map (used_entries f) (entry_field text), length-take (min f.count field_limit) f.entries)

pub fields_more : (text : List ℕ) (n : ℕ) (es : List Entry) (e : Entry) → n < field_limit → length es ≡ field_limit
    → fields_in text (record { count = n + 1; entries = set es n e }) ≡ fields_in text (record { count = n; entries = es }) ++ (entry_field text e ∷ [])
unfolding fields_in
fields_more text n es e h k =
    let a : min (n + 1) field_limit ≡ n + 1 = omega arith in
    let b : min n field_limit ≡ n = omega arith in
    let j : n < length es = omega (arith, k) in
    rw (a, b, take_more_set es n e j, map-append)

-- ---- entries within a text

abbrev pub AllWithin : ℕ → List Entry → Type 0
AllWithin size es = (j : ℕ) → Within size (get_or es j no_entry)

none_within : (size : ℕ) → Within size no_entry
none_within size = record { name_ordered = omega arith; name_within = omega arith; value_ordered = omega arith; value_within = omega arith }

pub empty_within : (size n : ℕ) (e : Entry) → e ≡ no_entry → AllWithin size (replicate n e)
empty_within size zero e h j = none_within size
empty_within size (suc n) e h zero = rw h (none_within size)
empty_within size (suc n) e h (suc j) = empty_within size n e h j

pub set_within : (size : ℕ) (es : List Entry) (k : ℕ) (e : Entry) → k < length es → AllWithin size es → Within size e → AllWithin size (set es k e)
set_within size es k e h w x j = go (eqb j k) refl
  where
    go : (t : Bool) → eqb j k ≡ t → Within size (get_or (set es k e) j no_entry)
    go true q = rw (eqb-true j k q, get_or-set_same es k e no_entry h) x
    go false q = rw (get_or-set_other es k j e no_entry (eqb-false j k q)) (w j)

-- ---- a line's entry, moved to its place in the text

abbrev pub moved : ℕ → Entry → Entry
moved i e = record { name = record { start = i + e.name.start; end = i + e.name.end }; value = record { start = i + e.value.start; end = i + e.value.end } }

module _ (text line : List ℕ) (i : ℕ) (e : Entry) (h : i + length line ≤ length text) where
  pub moved_within : Within (length line) e → Within (length text) (moved i e)
  moved_within w =
      record {
        name_ordered = omega (arith, w.name_ordered);
        name_within = omega (arith, w.name_within);
        value_ordered = omega (arith, w.value_ordered);
        value_within = omega (arith, w.value_within);
      }

  pub moved_field : line ≡ part_of text i (i + length line) → Within (length line) e → entry_field line e ≡ entry_field text (moved i e)
  unfolding entry_field
  moved_field q w =
      let n = i + length line in
      ap (λ (l : List ℕ). entry_field l e) q
      ∙ rw (
        part_moved text i n e.name.start e.name.end w.name_ordered (omega (arith, w.name_within)),
        part_moved text i n e.value.start e.value.end w.value_ordered (omega (arith, w.value_within)),
      )
