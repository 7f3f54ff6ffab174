-- Lines that CR LF ends: field lines and the status line (paper 01, "The head"; RFC 9112, sections 2.1, 4 and 5).
-- Assumes nothing.
use Rattle.std.specs.Prelude.{Bool, true, false, ◌&&◌, List, [], ◌∷◌, map, reverse, ℕ, ◌-◌, eqb, leb, length, drop}
use Rattle.octets.specs.Octets.{octets}
use Rattle.stream.specs.Bytes.{same, is_digit, is_tchar, is_text, is_blank}
use Rattle.stream.specs.Template.{text, bytes, Scanned, scan, is_like, kept, past}

abbrev pub crlf : List ℕ
crlf = 13 ∷ 10 ∷ []

-- the last bytes of l are t
unfoldable pub ends_with : List ℕ → List ℕ → Bool
ends_with t l = same t (drop (length l - length t) l)

-- b in front of the first line
abbrev pub in_front : ℕ → List (List ℕ) → List (List ℕ)
in_front b [] = (b ∷ []) ∷ []
in_front b (l ∷ ls) = (b ∷ l) ∷ ls

-- a text split at each CR LF; what comes after the last one is a line too, unless it is empty
unfoldable pub lines : List ℕ → List (List ℕ)
lines [] = []
lines (b ∷ []) = (b ∷ []) ∷ []
lines (b ∷ c ∷ l) = elim (eqb b 13 && eqb c 10) [ true ↦ [] ∷ lines l | false ↦ in_front b (lines (c ∷ l)) ]

-- the lines before the empty one
unfoldable pub before_empty : List (List ℕ) → List (List ℕ)
before_empty [] = []
before_empty ([] ∷ ls) = []
before_empty ((b ∷ l) ∷ ls) = (b ∷ l) ∷ before_empty ls

-- The lines of a head or a trailer. What follows the first empty line is dropped: a head and a trailer end with it, and a head that
-- begins with one has no status line.
unfoldable pub text_lines : List ℕ → List (List ℕ)
text_lines l = before_empty (lines l)

-- "spaces and tabs at the value's ends are not part of it"
unfoldable pub trimmed : List ℕ → List ℕ
trimmed l = reverse (past is_blank (reverse (past is_blank l)))

-- ---- a field line: "name of one or more `tchar`, colon, value"

pub record Field : Type 0 where
  pub name : List ℕ
  pub value : List ℕ

unfoldable pub field_scan : List ℕ → Scanned
field_scan line = scan (bytes is_tchar ∷ text (octets ":") ∷ bytes is_text ∷ []) line

unfoldable pub is_field_line : List ℕ → Bool
is_field_line line = is_like (field_scan line) && leb 1 (length (kept 0 (field_scan line)))

unfoldable pub field_of : List ℕ → Field
field_of line = record { name = kept 0 (field_scan line); value = trimmed (kept 1 (field_scan line)) }

unfoldable pub are_field_lines : List (List ℕ) → Bool
are_field_lines [] = true
are_field_lines (l ∷ ls) = is_field_line l && are_field_lines ls

unfoldable pub fields_of : List (List ℕ) → List Field
fields_of ls = map field_of ls

-- ---- the status line: "`HTTP/1.1`, space, three digits, space, reason (may be empty)"

unfoldable pub status_scan : List ℕ → Scanned
status_scan line = scan (text (octets "HTTP/1.1 ") ∷ bytes is_digit ∷ text (octets " ") ∷ bytes is_text ∷ []) line

unfoldable pub is_status_line : List ℕ → Bool
is_status_line line = is_like (status_scan line) && eqb (length (kept 0 (status_scan line))) 3

-- the three digits
unfoldable pub status_of : List ℕ → List ℕ
status_of line = kept 0 (status_scan line)
