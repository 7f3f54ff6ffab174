-- Where the text of a section went wrong (request #106): "For 3 and 6 that come from bad text, the small readers of lines, names, numbers and
-- base64 shall give the length of the longest beginning that some good text, however long as a whole and with its line ends, also has, and the
-- refusal passes it on counted from the first byte of the head, line, data end or trailer. For the other causes (whole length, count, doubling)
-- it is the length taken." Assumes nothing.
use Rattle.std.specs.Prelude.{Bool, List, ℕ, length}
use Rattle.octets.specs.Choice.{pick}
use Rattle.scanner.specs.Form.{Form, reach_form}
use Rattle.stream.specs.Forms.{chunk_form, data_end_form, trailer_form, head_form}
use Rattle.stream.specs.Head.{ends_head}
use Rattle.stream.specs.Lines.{crlf, ends_with}
use Rattle.stream.specs.Trailer.{ends_trailer}

-- A section that has its end fails by its text, or else by a count or a doubling: a good text agrees with its form as far as it goes, so that the
-- length is then the length taken. One without its end fails by its whole length, whatever its text is.
abbrev pub place_in : Form → Bool → List ℕ → ℕ
place_in form ended l = pick ended (reach_form form l) (length l)

unfoldable pub head_place : List ℕ → ℕ
head_place l = place_in head_form (ends_head l) l

unfoldable pub line_place : List ℕ → ℕ
line_place l = place_in chunk_form (ends_with crlf l) l

unfoldable pub data_end_place : List ℕ → ℕ
data_end_place l = reach_form data_end_form l

unfoldable pub trailer_place : List ℕ → ℕ
trailer_place l = place_in trailer_form (ends_trailer l) l
