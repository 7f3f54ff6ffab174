-- The lines of a text, and the fields that they hold, take no more room than the text. Assumes nothing.
use mathlib.Core.Bool.{Bool, true, false, ◌&&◌}
use mathlib.Core.List.{List, [], ◌∷◌, reverse}
use mathlib.Core.Path.{◌≡◌}
use Prim.Native.Nat.{ℕ, suc, ◌+◌, ◌≤◌}
use native.Mathlib.Omega.{arith}
use lib.Dec.{eqb, leb}
use lib.ListN.{length, drop, length-reverse}
use Rattle.stream.specs.Bytes.{is_blank}
use Rattle.stream.specs.Lines.{in_front, lines, before_empty, text_lines, trimmed, Field, field_scan, is_field_line, field_of, are_field_lines, fields_of}
use Rattle.stream.specs.Template.{past, is_like, kept}
use Rattle.stream.proofs.ScanSizes.{total, run_past, scan_fits, three_kept}
use Rattle.stream.proofs.Truth.{left_holds, right_holds}

-- ---- lines

-- a line with its CR LF
abbrev pub line_size : List ℕ → ℕ
line_size line = length line + 2

in_front_size : (b k : ℕ) (ls : List (List ℕ)) → total line_size ls ≤ k + 3 → total line_size (in_front b ls) ≤ k + 4
in_front_size b k [] h = omega arith
in_front_size b k (l ∷ ls) h = omega arith

-- two more than the text, for a last line that nothing ends
pub lines_size : (l : List ℕ) → total line_size (lines l) ≤ length l + 2
unfolding lines
lines_size [] = omega arith
lines_size (b ∷ []) = omega arith
lines_size (b ∷ c ∷ l) = by (eqb b 13 && eqb c 10) (lines_size l) (lines_size (c ∷ l))
  where
    by : (t : Bool) → total line_size (lines l) ≤ length l + 2 → total line_size (lines (c ∷ l)) ≤ suc (length l) + 2
        → total line_size (elim t [ true ↦ [] ∷ lines l | false ↦ in_front b (lines (c ∷ l)) ]) ≤ suc (suc (length l)) + 2
    by true i j = omega arith
    by false i j = omega (arith, in_front_size b (length l) (lines (c ∷ l)) (omega arith))

before_size : (ls : List (List ℕ)) → total line_size (before_empty ls) ≤ total line_size ls
unfolding before_empty
before_size [] = omega arith
before_size ([] ∷ ls) = omega arith
before_size ((b ∷ l) ∷ ls) = omega (arith, before_size ls)

after_first_size : (ls : List (List ℕ)) → total line_size (drop 1 ls) ≤ total line_size ls
after_first_size [] = omega arith
after_first_size (l ∷ ls) = omega arith

-- the lines of a head after its first
pub field_lines_size : (l : List ℕ) → total line_size (drop 1 (text_lines l)) ≤ length l + 2
unfolding text_lines
field_lines_size l = omega (arith, after_first_size (before_empty (lines l)), before_size (lines l), lines_size l)

-- ---- fields

-- a field's name and value, and three bytes: a colon and CR LF in a head; a colon, a space and a line feed in a signing string
abbrev pub field_size : Field → ℕ
field_size f = length f.name + length f.value + 3

pub trimmed_size : (l : List ℕ) → length (trimmed l) ≤ length l
unfolding trimmed
trimmed_size l =
    let front : List ℕ = past is_blank l in
    omega
    (arith, run_past is_blank l, length-reverse front, run_past is_blank (reverse front), length-reverse (past is_blank (reverse front)))

pub field_size_lem : (line : List ℕ) → is_field_line line ≡ true → field_size (field_of line) ≤ line_size line
unfolding is_field_line field_of field_scan
field_size_lem line h =
    omega (
      arith,
      trimmed_size (kept 1 (field_scan line)),
      three_kept (field_scan line),
      scan_fits _ line (left_holds (is_like (field_scan line)) (leb 1 (length (kept 0 (field_scan line)))) h),
    )

pub fields_size : (ls : List (List ℕ)) → are_field_lines ls ≡ true → total field_size (fields_of ls) ≤ total line_size ls
unfolding are_field_lines fields_of
fields_size [] h = omega arith
fields_size (l ∷ ls) h =
    omega
    (arith, field_size_lem l (left_holds (is_field_line l) (are_field_lines ls) h), fields_size ls (right_holds (is_field_line l) (are_field_lines ls) h))
