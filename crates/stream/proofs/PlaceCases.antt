-- Where refused texts went wrong (request #106), by examples: each row is a name, what the definitions give, and what is due. One computed test
-- covers the table. The dues were written from the request and its readings. Assumes nothing.
use mathlib.Core.Bool.{true, false}
use mathlib.Core.List.{List, [], ◌∷◌, ◌++◌}
use mathlib.Core.Path.{◌≡◌, refl}
use Prim.Native.Nat.{ℕ, zero, suc}
use Prim.Native.String.{String}
use lib.ListN.{length, replicate}
use Rattle.octets.specs.Octets.{octets}
use Rattle.base64_text.specs.Base64.{letter_value, is_base64, holds_three, holds_two, holds_one}
use Rattle.scanner.specs.Form.{step_form, reach_form}
use Rattle.scanner.specs.Scanner.{reach, reach_from}
use Rattle.stream.specs.Blocks.{carries_signature, is_chunk_line, chunk_size, line_rules, line_fault, carries_hash, is_extension, is_hash_due}
use Rattle.stream.specs.Bytes.{all, same, lowered, same_name}
use Rattle.stream.specs.Fields.{among, is_protected, is_protected_doubled, names_of, has_field, value_of}
use Rattle.stream.specs.Forms.{signature_form, size_form, chunk_form, data_end_form, name_form, field_form, field_line_form, trailer_form, status_form, status_line_form, head_form, extension_form}
use Rattle.stream.specs.Head.{ends_head, head_with as read_head, head_of, status_digits, text_rules, caller_rules, head_fault, is_partial, is_ranged, range_of, signed_status}
use Rattle.stream.specs.Lines.{crlf, ends_with, lines, before_empty, text_lines, trimmed, field_scan, is_field_line, field_of, are_field_lines, fields_of, status_scan, is_status_line, status_of}
use Rattle.stream.specs.Numbers.{number_from, is_decimal, is_hex_number}
use Rattle.stream.specs.Places.{head_place, line_place, data_end_place, trailer_place}
use Rattle.stream.specs.Range.{first_byte, is_within}
use Rattle.stream.specs.Rule.{first_broken}
use Rattle.stream.specs.Signatures.{injection_scan, bsigs_scan, sig0_scan}
use Rattle.stream.specs.Stream.{nothing, Says, judge_head, judge_first_line, judge_data_end, judge_next_line, judge_trailer, start_from, start_of}
use Rattle.stream.specs.Template.{run, past, starts_with, scan}
use Rattle.stream.specs.Trailer.{ends_trailer, is_trailer}
use Rattle.stream.proofs.Cases.{said, Case, case, holds_all}
use Rattle.stream.proofs.Example.{terms, show}

-- a place
abbrev row : String → ℕ → ℕ → Case
row name found due = case name (found ∷ []) (due ∷ [])

-- the number and the place of a refusal
abbrev says : String → Says → List ℕ → Case
says name v due = case name (said v) due

-- ---- texts with their line ends

abbrev line : String → List ℕ
line s = octets s ++ crlf

-- a line with these characters as its signature, after nine others
abbrev signed : List ℕ → List ℕ
signed s = octets "5;ouisig=" ++ s ++ crlf

abbrev letters : ℕ → List ℕ
letters n = replicate n 65

-- a status line of 17 bytes, and these lines after it
abbrev with_lines : List ℕ → List ℕ
with_lines l = line "HTTP/1.1 200 OK" ++ l

-- n field lines, of six bytes each
abbrev fields : ℕ → List ℕ
fields zero = []
fields (suc n) = line "A: b" ++ fields n

-- ---- the table

pub rows : List Case
rows =
    -- no end: the length taken; `unended_places` below says it of any text
    row "x to the line's limit" (line_place (replicate 128 120)) 128
    ∷ row "x 126 times, and its end" (line_place (replicate 126 120 ++ crlf)) 0
    -- a CR may begin a line's end, and counts
    ∷ row "CR in a value" (reach_form field_line_form (line "A: b\rc")) 5
    ∷ row "LF in a value" (reach_form field_line_form (line "A: b\nc")) 4
    ∷ row "CR in a value of a trailer" (trailer_place (line "A: b\rc" ++ crlf)) 5
    ∷ row "LF in a value of a trailer" (trailer_place (line "A: b\nc" ++ crlf)) 4
    ∷ row "CR in a value of a head" (head_place (with_lines (line "A: b\rc" ++ crlf))) 22
    ∷ row "LF in a value of a head" (head_place (with_lines (line "A: b\nc" ++ crlf))) 21
    ∷ row "CR at a line's start" (head_place (with_lines (line "\rA: b" ++ crlf))) 18
    ∷ row "CR in a reason" (reach_form status_line_form (line "HTTP/1.1 200 O\rK")) 15
    -- chunk lines
    ∷ row "nine digits" (line_place (line "000000005")) 8
    ∷ row "eight digits" (line_place (line "00000005")) 10
    ∷ row "no digit" (line_place crlf) 0
    ∷ row "88 good characters" (line_place (signed (letters 86 ++ octets "=="))) 99
    ∷ row "spare bits in the 86th character" (line_place (signed (letters 85 ++ octets "B=="))) 94
    ∷ row "spare bits of two letters" (line_place (signed (letters 85 ++ octets "E=="))) 94
    ∷ row "87 characters" (line_place (signed (letters 86 ++ octets "="))) 96
    ∷ row "89 characters" (line_place (signed (letters 86 ++ octets "==="))) 97
    ∷ row "a letter for the first =" (line_place (signed (letters 87 ++ octets "="))) 95
    ∷ row "a letter for the second =" (line_place (signed (letters 86 ++ octets "=A"))) 96
    ∷ row "another case" (line_place (line "5;OUISIG=")) 2
    -- an end inside bad text
    ∷ row "an empty head" (head_place (crlf ++ crlf)) 0
    ∷ row "two digits" (head_place (line "HTTP/1.1 20" ++ crlf)) 11
    ∷ row "four digits" (head_place (line "HTTP/1.1 2000 OK" ++ crlf)) 12
    ∷ row "another version" (head_place (line "HTTP/1.0 200 OK" ++ crlf)) 7
    ∷ row "another version, and no more" (head_place (line "HTTP/1.0" ++ crlf)) 7
    -- data ends and trailers
    ∷ row "XY" (data_end_place (octets "XY")) 0
    ∷ row "CR X" (data_end_place (octets "\rX")) 1
    ∷ row "CR at a trailer's start" (trailer_place (line "\rA: b" ++ crlf)) 1
    ∷ row "a trailer with no name" (trailer_place (line ": b" ++ crlf)) 0
    ∷ row "a bare trailer" (trailer_place crlf) 2
    -- by text alone: neither the number of fields counts, nor that two have one name
    ∷ row "129 fields" (head_place (with_lines (fields 129 ++ crlf))) 793
    ∷ row "129 fields, then bad text" (head_place (with_lines (fields 129 ++ line "B c" ++ crlf))) 792
    ∷ row "two of one name" (head_place (with_lines (fields 2 ++ crlf))) 31
    ∷ row "two of one name, then bad text" (head_place (with_lines (fields 2 ++ line "B c" ++ crlf))) 30
    ∷ row "a name with a colon" (reach_form name_form (octets "A:")) 1
    -- refusals: 3 and 6 tell the place, others none
    ∷ says "a bad first line" (judge_first_line show (line "000000005")) (6 ∷ 8 ∷ [])
    ∷ says "a line without its end" (judge_first_line show (replicate 128 53)) (6 ∷ 128 ∷ [])
    ∷ says "a size over N" (judge_first_line show (line "10001")) (7 ∷ 0 ∷ [])
    ∷ says "a signature that is not due" (judge_first_line show (signed (letters 86 ++ octets "=="))) (8 ∷ 0 ∷ [])
    ∷ says "a bad line after a block" (judge_next_line show nothing (octets "01234") (line "5;ouisig")) (6 ∷ 8 ∷ [])
    ∷ says "a bad data end" (judge_data_end show nothing (octets "01234") (octets "\r\r")) (6 ∷ 1 ∷ [])
    ∷ says "a bad trailer" (judge_trailer show nothing 5 (line "A b" ++ crlf)) (6 ∷ 1 ∷ [])
    ∷ says "a bad head" (judge_head terms (line "HTTP/1.1 20" ++ crlf)) (3 ∷ 11 ∷ [])
    ∷ says "a head with 129 fields" (judge_head terms (with_lines (fields 129 ++ crlf))) (3 ∷ 793 ∷ [])
    ∷ says "a head with two fields of one protected name" (judge_head terms (with_lines (line "x-ouinet-: b" ++ (line "X-Ouinet-: c" ++ crlf)))) (3 ∷ 47 ∷ [])
    ∷ says "a head with two fields of another name, and no version" (judge_head terms (with_lines (fields 2 ++ crlf))) (4 ∷ 0 ∷ [])
    ∷ says "a head without a version" (judge_head terms (with_lines (fields 1 ++ crlf))) (4 ∷ 0 ∷ [])
    ∷ []

pub places : holds_all rows ≡ true
unfolding rows holds_all said letter_value is_base64 holds_three holds_two holds_one step_form reach_form reach reach_from all same lowered same_name among is_protected is_protected_doubled names_of has_field value_of signature_form size_form chunk_form data_end_form name_form field_form field_line_form trailer_form status_form status_line_form head_form ends_head ends_with head_place line_place data_end_place trailer_place ends_trailer is_trailer lines before_empty text_lines trimmed field_scan is_field_line field_of are_field_lines fields_of status_scan is_status_line status_of scan run past starts_with number_from is_decimal is_hex_number is_chunk_line carries_signature chunk_size line_rules line_fault first_broken read_head head_of status_digits injection_scan bsigs_scan sig0_scan text_rules caller_rules head_fault judge_head judge_first_line judge_data_end judge_next_line judge_trailer extension_form is_extension carries_hash is_hash_due first_byte is_within range_of is_partial signed_status is_ranged start_from start_of
places = refl

-- "x to the limit", for any text without its end and whatever the limit is: the length taken
pub unended_places
    : (l : List ℕ)
    → (ends_head l ≡ false → head_place l ≡ length l) × (ends_with crlf l ≡ false → line_place l ≡ length l) × (ends_trailer l ≡ false → trailer_place l ≡ length l)
unfolding head_place line_place trailer_place
unended_places l = (λ e. rw e, λ e. rw e, λ e. rw e)
