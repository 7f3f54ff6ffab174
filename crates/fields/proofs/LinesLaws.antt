-- The lines of a text, read one after the other. Assumes nothing.
use mathlib.Core.Path.{Path, ◌≡◌, sym, ap, ◌∙◌}
use mathlib.Core.Bool.{true, false, ◌&&◌}
use mathlib.Core.List.{List, [], ◌∷◌, ◌++◌, map, append_assoc, append-nil}
use Rattle.std.specs.Prelude.{Option, None, Some}
use Prim.Native.Nat.{ℕ, suc, ◌+◌, ◌≤◌, ◌<◌}
use native.Mathlib.Nat.{add-zero, zero-add}
use native.Mathlib.Omega.{arith}
use borrow.Author.Tests.{le-leb, lt-leb}
use lib.Dec.{leb}
use lib.ListN.{length, set, length-append, length-set, length-replicate, replicate, drop}
use Rattle.stream.specs.Limits.{field_limit}
use Rattle.stream.specs.Lines.{Field, is_field_line, field_of, are_field_lines, fields_of, text_lines}
use Rattle.text.proofs.SameLaws.{both_false}
use Rattle.field_lines.specs.Reading.{answer, ReadsField}
use Rattle.field_lines.specs.declared.entry.Entry.{Entry}
use Rattle.field_lines.specs.Entries.{no_entry}
use Rattle.std.specs.Borrow.{Bor}
use Rattle.field_lines.specs.Placed.{GivesLine}
use Rattle.field_lines.specs.declared.lines.Lines.{Lines}
use Rattle.field_lines.proofs.PlacedLaws.{lines_in, line_given, no_line_given}
use Rattle.field_lines.proofs.AnswerLaws.{line_tells}
use Rattle.fields.specs.Answers.{ReadsFields}
use Rattle.fields.specs.Table.{fields_in}
use Rattle.fields.specs.declared.table.Fields.{Fields}
use Rattle.fields.proofs.FillLaws.{fields_length, fields_more, AllWithin, empty_within, set_within, moved, moved_within, moved_field}

-- ---- the fields of the lines that are left, after fields that were read

unfoldable pub read_on : List Field → List (List ℕ) → Option (List Field)
read_on fs ls = answer (are_field_lines ls && leb (length fs + length ls) field_limit) (fs ++ fields_of ls)

pub read_all : (ls : List (List ℕ)) → answer (are_field_lines ls && leb (length ls) field_limit) (fields_of ls) ≡ read_on [] ls
unfolding read_on
read_all ls = rw (zero-add (length ls))

pub read_end : (fs : List Field) → length fs ≤ field_limit → read_on fs [] ≡ Some fs
unfolding read_on are_field_lines fields_of answer
read_end fs h = rw (add-zero (length fs), le-leb (length fs) field_limit h, append-nil fs)

module _ (fs : List Field) (l : List ℕ) (ls : List (List ℕ)) where
  read_bad : is_field_line l ≡ false → read_on fs (l ∷ ls) ≡ None
  unfolding read_on are_field_lines answer
  read_bad e = rw e

  read_over : field_limit ≤ length fs → read_on fs (l ∷ ls) ≡ None
  unfolding read_on answer
  read_over h = rw (lt-leb (length fs + suc (length ls)) field_limit (omega arith), both_false (are_field_lines (l ∷ ls)))

  read_next : is_field_line l ≡ true → read_on fs (l ∷ ls) ≡ read_on (fs ++ (field_of l ∷ [])) ls
  unfolding read_on are_field_lines fields_of
  read_next e =
      let n : length fs + suc (length ls) ≡ length (fs ++ (field_of l ∷ [])) + length ls = omega (arith, length-append fs (field_of l ∷ [])) in
      rw (e, n, append_assoc fs (field_of l ∷ []) (map field_of ls))

-- ---- the table so far: its fields, before those of the lines that are left, are the fields of all lines

pub record Filled (text : List ℕ) (all : List (List ℕ)) (f : Fields) (left : List (List ℕ)) : Type 0 where
  pub room : f.count ≤ field_limit
  pub whole : length f.entries ≡ field_limit
  pub within : AllWithin (length text) f.entries
  pub makes : read_on [] all ≡ read_on (fields_in text f) left

module _ (text : List ℕ) (from : ℕ) where
  abbrev all : List (List ℕ)
  all = text_lines (drop from text)

  pub filled_none : (e : Entry) → e ≡ no_entry → (l : Lines) → l.text.now ≡ text → l.next ≡ from → (l.text.now ≡ text) × Filled text all (record { count = 0; entries = replicate field_limit e }) (lines_in l)
  unfolding fields_in
  filled_none e h l t n = (t, record { room = omega arith; whole = length-replicate field_limit e; within = empty_within (length text) field_limit e h; makes = rw (t, n) })

  module _ (f : Fields) (l m : Lines) (x : Filled text all f (lines_in l)) where
    pub filled_all : GivesLine l None m → ReadsFields text all (Some f)
    filled_all g =
        let n : length (fields_in text f) ≤ field_limit = omega (arith, fields_length text f x.room x.whole, x.room) in
        record { meaning = sym (read_all all ∙ x.makes ∙ rw (no_line_given l m g) (read_end (fields_in text f) n)); within = x.within }

    -- a turn: a line, and those after it
    module _ (start : ℕ) (line : Bor (List ℕ)) (g : GivesLine l (Some (start, line)) m) where
      pub filled_bad : ReadsField line.now line.now None → ReadsFields text all None
      filled_bad y =
          record { meaning = sym (read_all all ∙ x.makes ∙ rw (line_given l m (start, line) g) (read_bad (fields_in text f) line.now (lines_in m) (line_tells None y))); within = tt }

      pub filled_over : f.count ≡ field_limit → ReadsFields text all None
      filled_over h =
          let n : field_limit ≤ length (fields_in text f) = omega (arith, fields_length text f x.room x.whole) in
          record { meaning = sym (read_all all ∙ x.makes ∙ rw (line_given l m (start, line) g) (read_over (fields_in text f) line.now (lines_in m) n)); within = tt }

      module _ (e : Entry) (y : ReadsField line.now line.now (Some e)) (t : l.text.now ≡ text) where
        pub filled_on : (f.count ≡ field_limit → ⊥) → (m.text.now ≡ text) × Filled text all (record { count = f.count + 1; entries = set f.entries f.count (moved start e) }) (lines_in m)
        filled_on h =
            let p = line_tells (Some e) y in
            let w = rw t at g.lies.0 in
            let q = rw t at g.lies.1 in
            let r : f.count < field_limit = omega (arith, h, x.room) in
            let j : f.count < length f.entries = omega (arith, r, x.whole) in
            let d : Path (List (List ℕ)) (lines_in l) (line.now ∷ lines_in m) = line_given l m (start, line) g in (
              g.same_text ∙ t,
              record {
                room = omega (arith, r);
                whole = length-set f.entries f.count (moved start e) ∙ x.whole;
                within = set_within (length text) f.entries f.count (moved start e) j x.within (moved_within text line.now start e w y.within);
                makes =
                    x.makes
                    ∙ ap (read_on (fields_in text f)) d
                    ∙ read_next (fields_in text f) line.now (lines_in m) p.0
                    ∙ ap (λ (d : Field). read_on (fields_in text f ++ (d ∷ [])) (lines_in m)) (sym p.1 ∙ moved_field text line.now start e w q y.within)
                    ∙ ap (λ (fs : List Field). read_on fs (lines_in m)) (sym (fields_more text f.count f.entries (moved start e) r x.whole));
              },
            )
