-- The lines of a text with the places where they begin. Assumes nothing.
use Rattle.std.specs.Prelude.{Option, IfSome, List, [], ◌∷◌, ◌≡◌, ℕ, ◌+◌, ◌≤◌, length, drop}
use Rattle.std.specs.Borrow.{Bor}
use Rattle.std.specs.Iterator.{YieldsFirstBy}
use Rattle.places.specs.Place.{part_of}
use Rattle.stream.specs.Lines.{text_lines}
use Rattle.field_lines.specs.declared.lines.Lines.{Lines}

-- the lines, the first of which begins at place i; two bytes stand between one line and the next
unfoldable pub placed_from : ℕ → List (List ℕ) → List (ℕ × List ℕ)
placed_from i [] = []
placed_from i (l ∷ ls) = (i, l) ∷ placed_from (i + length l + 2) ls

-- those of a text from place i on
unfoldable pub placed_lines : List ℕ → ℕ → List (ℕ × List ℕ)
placed_lines s i = placed_from i (text_lines (drop i s))

-- those that are left of an iterator
abbrev pub lines_left : Lines → List (ℕ × List ℕ)
lines_left s = placed_lines s.text.now s.next

abbrev pub line_item : ℕ × Bor (List ℕ) → ℕ × List ℕ
line_item x = (x.0, x.1.now)

-- a call of `next` gives the first line that is left, which lies where it says
pub record GivesLine (s : Lines) (r : Option (ℕ × Bor (List ℕ))) (t : Lines) : Type 0 where
  pub first : YieldsFirstBy line_item lines_left s r t
  pub same_text : t.text.now ≡ s.text.now
  pub lies : IfSome r (λ x. (x.0 + length x.1.now ≤ length s.text.now) × (x.1.now ≡ part_of s.text.now x.0 (x.0 + length x.1.now)))
