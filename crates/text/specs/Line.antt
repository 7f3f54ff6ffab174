-- Where the first line of a text ends. Assumes nothing.
use Rattle.std.specs.Prelude.{true, false, List, [], ◌∷◌, ℕ, suc}
use Rattle.stream.specs.Lines.{crlf}
use Rattle.stream.specs.Template.{starts_with}

-- how long the first line is: up to CR LF, or all of the text
unfoldable pub line_length : List ℕ → ℕ
line_length [] = 0
line_length (b ∷ l) = elim (starts_with crlf (b ∷ l)) [ true ↦ 0 | false ↦ suc (line_length l) ]
