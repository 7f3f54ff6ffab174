-- A text without the spaces and tabs at its ends, as the place where it starts and the place after its end: RFC 9110, section 5.5.
-- Assumes nothing.
use Rattle.std.specs.Prelude.{List, reverse, ℕ, ◌-◌, length}
use Rattle.stream.specs.Bytes.{is_blank}
use Rattle.stream.specs.Template.{run, past}
use Rattle.places.specs.declared.Span.{Span}

-- past the blanks in front; before the blanks at the end of what they leave
unfoldable pub span_of : List ℕ → Span
span_of l = record { start = length (run is_blank l); end = length l - length (run is_blank (reverse (past is_blank l))) }
