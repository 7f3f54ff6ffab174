-- The trailer (paper 01, "Blocks"): "CR LF at once, or field lines up to the first CR LF CR LF". Assumes nothing.
use Rattle.std.specs.Prelude.{Bool, ◌&&◌, ◌||◌, List, ◌++◌, ℕ, leb, length}
use Rattle.stream.specs.Bytes.{same}
use Rattle.stream.specs.Limits.{head_limit}
use Rattle.stream.specs.Lines.{crlf, ends_with, text_lines, are_field_lines}

unfoldable pub ends_trailer : List ℕ → Bool
ends_trailer l = same l crlf || ends_with (crlf ++ crlf) l

-- "No end in 8,192 bytes"; request #108: "Head and trailer limit to 32,768"
unfoldable pub is_whole_trailer : List ℕ → Bool
is_whole_trailer l = ends_trailer l || leb head_limit (length l)

-- "text that breaks the field line rule, is 6; fields aren't counted or compared"
unfoldable pub is_trailer : List ℕ → Bool
is_trailer l = ends_trailer l && are_field_lines (text_lines l)
