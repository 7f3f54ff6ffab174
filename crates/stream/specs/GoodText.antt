-- Which texts are good by their text alone (request #106), each by the rule that refuses the others: chunk lines have `is_chunk_line`
-- (Blocks.antt), numbers `is_decimal` and `is_hex_number` (Numbers.antt), keys and signatures `is_base64`; here are the rest. Assumes nothing.
use Rattle.std.specs.Prelude.{Bool, false, ◌&&◌, ◌||◌, not, List, ℕ, zero, suc, ◌-◌, leb, length, drop, take}
use Rattle.stream.specs.Bytes.{same, between, is_tchar, all}
use Rattle.stream.specs.Head.{ends_head}
use Rattle.stream.specs.Lines.{crlf, ends_with, text_lines, is_field_line, are_field_lines, is_status_line}
use Rattle.stream.specs.Numbers.{is_decimal, decimal_value}
use Rattle.stream.specs.Template.{nth}
use Rattle.stream.specs.Trailer.{ends_trailer}

-- a beginning of fewer than n bytes ends so
unfoldable pub ends_before : (List ℕ → Bool) → ℕ → List ℕ → Bool
ends_before ends zero l = false
ends_before ends (suc n) l = ends (take n l) || ends_before ends n l

-- "at the first CR LF CR LF"
unfoldable pub ends_first : (List ℕ → Bool) → List ℕ → Bool
ends_first ends l = ends l && not (ends_before ends (length l) l)

unfoldable pub is_good_head : List ℕ → Bool
is_good_head l = ends_first ends_head l && (is_status_line (nth 0 (text_lines l)) && are_field_lines (drop 1 (text_lines l)))

unfoldable pub is_good_trailer : List ℕ → Bool
is_good_trailer l = ends_first ends_trailer l && are_field_lines (text_lines l)

-- "judged when both have come"
unfoldable pub is_good_data_end : List ℕ → Bool
is_good_data_end l = same l crlf

-- ---- single lines with their ends, and what stands in them

abbrev pub is_line_of : (List ℕ → Bool) → List ℕ → Bool
is_line_of good l = ends_with crlf l && good (take (length l - 2) l)

unfoldable pub is_good_field_line : List ℕ → Bool
is_good_field_line l = is_line_of is_field_line l

unfoldable pub is_good_status_line : List ℕ → Bool
is_good_status_line l = is_line_of is_status_line l

-- "name of one or more `tchar`"
unfoldable pub is_name : List ℕ → Bool
is_name l = all is_tchar l && leb 1 (length l)

-- a number from 1 to a limit
unfoldable pub is_count : ℕ → ℕ → List ℕ → Bool
is_count most limit l = is_decimal most l && between 1 limit (decimal_value l)
