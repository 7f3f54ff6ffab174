-- The first line of a head, and the lines after it, by the place where the first ends. Assumes nothing.
use mathlib.Core.Bool.{Bool, true, false, ◌&&◌, not, and_assoc}
use mathlib.Core.List.{List, [], ◌∷◌, ◌++◌}
use mathlib.Core.Path.{◌≡◌, refl, sym, ap, ◌∙◌}
use Prim.Native.Nat.{ℕ, zero, suc, ◌+◌, ◌-◌, ◌≤◌, ◌<◌}
use native.Mathlib.Omega.{arith}
use lib.Dec.{leb}
use lib.ListN.{length, take, drop, length-take, length-map}
use lib.Seq.{take-nil}
use Rattle.std.specs.Prelude.{None, Some}
use Rattle.stream.specs.Fields.{is_protected_doubled, names_of}
use Rattle.stream.specs.Head.{head_of, head_with, ends_head, status_digits}
use Rattle.stream.specs.Limits.{field_limit}
use Rattle.stream.specs.Lines.{crlf, ends_with, lines, before_empty, text_lines, is_status_line, status_of, are_field_lines, field_of, fields_of}
use Rattle.stream.specs.Template.{nth}
use Rattle.stream.proofs.Truth.{right_holds}
use Rattle.fields.specs.Answers.{ReadsFields}
use Rattle.places.specs.Place.{part_of}
use Rattle.fields.specs.Table.{fields_in}
use Rattle.fields.specs.declared.table.Fields.{Fields}
use Rattle.fields.proofs.ReadLaws.{fields_good, fields_are}
use Rattle.field_lines.proofs.StatusLaws.{status_digits_lem, status_room}
use Rattle.text.specs.Line.{line_length}
use Rattle.text.proofs.LineLaws.{line_le, text_end, text_first}
use Rattle.head.specs.Steps.{are_good_lines, ReadsLines}
use Rattle.head.proofs.PlaceLaws.{part_inner}

-- ---- the first line ends at e

first_line_lem : (s : List ℕ) (e : ℕ) → e ≡ line_length s → nth 0 (text_lines s) ≡ part_of s 0 e
unfolding text_lines lines before_empty part_of
first_line_lem [] e f = sym (take-nil (e - 0))
first_line_lem (b ∷ l) zero f = ap (nth 0) (text_end (b ∷ l) 0 zero (omega arith) (omega arith) refl)
first_line_lem (b ∷ l) (suc k) f = ap (nth 0) (text_first (b ∷ l) 0 (suc k) (omega arith) (omega arith) (omega arith))

other_lines : (s : List ℕ) (e : ℕ) → e ≡ line_length s → 0 < e → drop 1 (text_lines s) ≡ text_lines (drop (e + 2) s)
other_lines s e f h = ap (drop 1) (text_first s 0 e (omega (arith, line_le s)) (omega arith) h)

-- a status line is not empty
status_long : (s : List ℕ) (e : ℕ) → is_status_line (part_of s 0 e) ≡ true → 12 ≤ e
unfolding part_of
status_long s e h = omega (arith, status_room (take (e - 0) s) h, length-take (e - 0) s)

-- ---- where the three digits of the status stand

pub status_place : (s : List ℕ) → is_status_line (head_of s).status_line ≡ true → status_digits (head_of s) ≡ part_of s 9 12
unfolding head_of head_with status_digits
status_place s h =
    let e = line_length s in
    let p = first_line_lem s e refl in
    let k : is_status_line (part_of s 0 e) ≡ true = ap is_status_line (sym p) ∙ h in
    ap status_of p ∙ status_digits_lem (part_of s 0 e) k ∙ part_inner s e 9 12 (omega arith) (status_long s e k)

-- ---- the rules of lines

-- the first line ends at e; a and b are the tests that were made
module _ (s : List ℕ) (e : ℕ) (f : e ≡ 0 + line_length s) (a b : Bool) (line : List ℕ) (p : a ≡ ends_with (crlf ++ crlf) s) (q : b ≡ is_status_line line)
    (l : line ≡ part_of s 0 e) where
  abbrev ls : List (List ℕ)
  ls = text_lines (drop (e + 2) s)

  abbrev single : List (List ℕ) → Bool
  single names = not (is_protected_doubled names)

  abbrev rest : Bool
  rest = are_field_lines (head_of s).field_lines && (leb (length (head_of s).fields) field_limit && single (names_of (head_of s).fields))

  good_by : are_good_lines s (head_of s) ≡ (a && b) && rest
  unfolding are_good_lines head_of head_with ends_head
  good_by = rw (p, q, l, first_line_lem s e (omega arith)) (sym (and_assoc (ends_with (crlf ++ crlf) s) (is_status_line (part_of s 0 e)) rest))

  pub bad_line : a && b ≡ false → ReadsLines s None
  bad_line h = record { good = rw (good_by, h); fields = tt }

  module _ (t : a && b ≡ true) where
    others : (head_of s).field_lines ≡ ls
    unfolding head_of head_with
    others = other_lines s e (omega arith) (omega (arith, status_long s e (sym (q ∙ ap is_status_line l) ∙ right_holds a b t)))

    fields_there : fields_of ls ≡ (head_of s).fields
    unfolding head_of head_with
    fields_there = ap fields_of (sym others)

    good_lines : are_good_lines s (head_of s) ≡ (are_field_lines ls && leb (length ls) field_limit) && single (names_of (fields_of ls))
    unfolding fields_of
    good_lines =
        let d = single (names_of (fields_of ls)) in
        good_by ∙ rw (t, others, ← fields_there, length-map ls field_of) (sym (and_assoc (are_field_lines ls) (leb (length ls) field_limit) d))

    pub no_fields : ReadsFields s ls None → ReadsLines s None
    no_fields x = record { good = rw (good_lines, ← fields_good None x); fields = tt }

    module _ {g : Fields} (x : ReadsFields s ls (Some g)) where
      pub doubled_fields : is_protected_doubled (names_of (fields_in s g)) ≡ true → ReadsLines s None
      doubled_fields h = record { good = rw (good_lines, ← fields_good (Some g) x, ← fields_are g x, h); fields = tt }

      pub lines_read : is_protected_doubled (names_of (fields_in s g)) ≡ false → ReadsLines s (Some g)
      lines_read h = record { good = rw (good_lines, ← fields_good (Some g) x, ← fields_are g x, h); fields = fields_are g x ∙ fields_there }
