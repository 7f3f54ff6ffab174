-- Repeated fields (request #102), by examples: each row is a name, what the definitions give, and what is due. One computed test covers the
-- table. The dues were written from the request and its readings. Assumes nothing.
use mathlib.Core.Bool.{Bool, true, false}
use mathlib.Core.List.{List, [], ◌∷◌, ◌++◌, map}
use mathlib.Core.Path.{◌≡◌, refl}
use Prim.Native.Nat.{ℕ}
use Prim.Native.String.{String}
use lib.ListN.{replicate, drop}
use Rattle.octets.specs.Octets.{octets}
use Rattle.base64_text.specs.Base64.{is_base64, letter_value, holds_three, holds_two, holds_one, joined_letters, base64_bytes}
use Rattle.hash.specs.Sha2.{big_endian, padding, padded, number, parsed, schedule, round, rounds, sums, compressed, hashed, unparsed, digest}
use Rattle.hash.specs.Sha512.{round_words, sha512}
use Rattle.scanner.specs.Form.{step_form, reach_form}
use Rattle.scanner.specs.Scanner.{reach, reach_from}
use Rattle.sections.specs.Reading.{cut, sections, reading_at}
use Rattle.stream.specs.Blocks.{is_whole_line, carries_signature, is_chunk_line, chunk_size, line_signature, line_rules, line_fault, chained, block_message, carries_hash, is_extension, is_hash_due, line_hash}
use Rattle.stream.specs.Bytes.{all, same, lowered, same_name}
use Rattle.stream.specs.Ends.{all_fields, is_claimed, is_checked}
use Rattle.stream.specs.Fields.{among, is_doubled, is_protected, is_protected_doubled, names_of, has_field, value_of, values_of, count_of}
use Rattle.stream.specs.Forms.{name_form, field_form, field_line_form, trailer_form, status_form, status_line_form, head_form}
use Rattle.stream.specs.Head.{ends_head, is_whole_head, head_with, head_of, status_digits, injection_id, injection_time, block_size, block_key, head_key, listed_names, head_signature, signed_of, signing_string, trusted_by, text_rules, caller_rules, head_fault, is_partial, is_ranged, range_of, signed_status}
use Rattle.stream.specs.Lines.{crlf, ends_with, lines, before_empty, text_lines, trimmed, field_scan, is_field_line, field_of, are_field_lines, fields_of, status_scan, is_status_line, status_of}
use Rattle.stream.specs.Numbers.{number_from, is_decimal, is_hex_number, decimal_within, decimal}
use Rattle.stream.specs.Places.{head_place}
use Rattle.stream.specs.Range.{first_byte, is_within}
use Rattle.stream.specs.Ring.{fits, first_from, found}
use Rattle.stream.specs.Rule.{first_broken}
use Rattle.stream.specs.Signatures.{injection_scan, is_injection, bsigs_scan, is_bsigs, sig0_scan, is_sig0, split_names, are_fields, is_name_list}
use Rattle.stream.specs.Signing.{separated, signed_fields, joined_fields, signing_line, signing_text}
use Rattle.stream.specs.Stream.{is_whole, show_of, head_question, accept_head, judge_head, judge_first_line, judge_data_end, block_question, accept_block, judge_next_line, judge_end, judge_trailer, judge, rules, released_with, start_from, start_of}
use Rattle.stream.specs.Template.{run, past, starts_with, scan}
use Rattle.stream.specs.Trailer.{ends_trailer, is_whole_trailer, is_trailer}
use Rattle.stream.proofs.Cases.{said, told, events, events_from, Case, case, holds_all}
use Rattle.stream.proofs.Example.{head_from, injection, example_head, signed_line, terms}

-- ---- heads: the example's, which has 705 bytes, 9 fields and a signing string of 219 bytes, with more in it

abbrev as_lines : List String → List ℕ
as_lines [] = []
as_lines (s ∷ ss) = octets s ++ (crlf ++ as_lines ss)

-- these field lines before the others; and these names, each after a space, at the end of the list
unfoldable pub signing : String → List String → List ℕ
signing names fields = head_from (as_lines fields) (octets names) injection (octets "5")

unfoldable pub with_fields : List String → List ℕ
with_fields fields = signing "" fields

-- a head whose signed fields `Vary` and `Via` are there twice
unfoldable pub repeated_head : List ℕ
repeated_head = signing " vary via" ("Vary: a" ∷ "Via: 1" ∷ "vary: b" ∷ "Via: 2" ∷ [])

-- ---- what a row compares: a list of numbers

abbrev as_number : Bool → ℕ
as_number true = 1
as_number false = 0

are_protected : List String → List ℕ
are_protected names = map (λ (s : String). as_number (is_protected (octets s))) names

are_doubled : List String → List ℕ
are_doubled names = as_number (is_protected_doubled (map (λ (s : String). octets s) names)) ∷ []

judged : List ℕ → List ℕ
judged l = said (judge_head terms l)

-- what stands in the signing string after the lines that the example has
joined : List ℕ → List ℕ
joined l = drop 219 (signing_string (head_of l))

-- what is handed out at a name: the count, and the value
handed : List ℕ → String → List ℕ
handed l name = count_of (octets name) (signed_of (head_of l)) ∷ value_of (octets name) (signed_of (head_of l))

-- ---- the table

pub table : List Case
table =
    -- protected names: by their beginning, or whole
    case "protected"
    (are_protected ("X-Ouinet-A" ∷ "x-oUINET-a" ∷ "x-ouinet-" ∷ "X-Ouinet-HTTP-Status" ∷ "Content-Length" ∷ "cONTENT-lENGTH" ∷ "Transfer-Encoding" ∷ "TRANSFER-ENCODING" ∷ []))
    (replicate 8 1)
    ∷ case "not protected"
    (are_protected ("X-Ouinet" ∷ "X-Ouinet_A" ∷ "A-X-Ouinet-A" ∷ "Content-Length-A" ∷ "Content-Lengt" ∷ "A-Content-Length" ∷ "Transfer-Encoding-A" ∷ "Transfer-Encodin" ∷ "Vary" ∷ "" ∷ []))
    (replicate 10 0)
    ∷ case "every pair is compared" (are_doubled ("A" ∷ "x-ouinet-a" ∷ "B" ∷ "C" ∷ "X-Ouinet-A" ∷ [])) (1 ∷ [])
    ∷ case "after a pair that may repeat" (are_doubled ("Vary" ∷ "Vary" ∷ "Content-Length" ∷ "content-length" ∷ [])) (1 ∷ [])
    ∷ case "two protected names, and others repeated" (are_doubled ("Vary" ∷ "X-Ouinet-A" ∷ "vary" ∷ "X-Ouinet-B" ∷ "X-Ouinet" ∷ "X-Ouinet" ∷ [])) (0 ∷ [])
    -- their doubling is 3, at the head's whole length, whether they are signed or not
    ∷ case "X-Ouinet-A" (judged (with_fields ("X-Ouinet-A: x" ∷ "X-Ouinet-A: x" ∷ []))) (3 ∷ 735 ∷ [])
    ∷ case "X-Ouinet-A in another case, signed" (judged (signing " x-ouinet-a" ("X-Ouinet-A: x" ∷ "x-ouinet-a: y" ∷ []))) (3 ∷ 746 ∷ [])
    ∷ case "x-ouinet- alone" (judged (with_fields ("x-ouinet-: a" ∷ "X-Ouinet-: b" ∷ []))) (3 ∷ 733 ∷ [])
    ∷ case "X-Ouinet-HTTP-Status" (judged (with_fields ("X-Ouinet-HTTP-Status: 200" ∷ "X-Ouinet-HTTP-Status: 200" ∷ []))) (3 ∷ 759 ∷ [])
    ∷ case "a version more, and another" (judged (with_fields ("X-Ouinet-Version: 5" ∷ []))) (3 ∷ 726 ∷ [])
    ∷ case "Content-Length" (judged (with_fields ("Content-Length: 1" ∷ "Content-Length: 1" ∷ []))) (3 ∷ 743 ∷ [])
    ∷ case "Content-Length, signed" (judged (signing " content-length" ("content-length: 1" ∷ "Content-Length: 2" ∷ []))) (3 ∷ 758 ∷ [])
    ∷ case "Content-Length once" (judged (with_fields ("Content-Length: 1" ∷ []))) (4 ∷ 0 ∷ [])
    ∷ case "chunked more than once" (judged (with_fields ("Transfer-Encoding: chunked" ∷ []))) (3 ∷ 733 ∷ [])
    ∷ case "chunked more than once, signed" (judged (signing " transfer-encoding" ("transfer-encoding: chunked" ∷ []))) (3 ∷ 751 ∷ [])
    -- text goes first
    ∷ case "bad text after a doubling" (judged (with_fields ("X-Ouinet-A: x" ∷ "X-Ouinet-A: x" ∷ "B c" ∷ []))) (3 ∷ 48 ∷ [])
    ∷ case "bad text after a repetition" (judged (with_fields ("Vary: a" ∷ "Vary: a" ∷ "B c" ∷ []))) (3 ∷ 36 ∷ [])
    -- others may repeat: unsigned, they are not in the string
    ∷ case "unsigned"
    (judged (with_fields ("Vary: a" ∷ "vary: a" ∷ "X-Ouinet: a" ∷ "X-Ouinet: b" ∷ "Content-Length-A: 1" ∷ "content-length-a: 1" ∷ "Trailer: a" ∷ "Content-Range: a" ∷ "Content-Range: a" ∷ "Vary: b" ∷ [])))
    (0 ∷ 219 ∷ [])
    ∷ case "signed, with names that are nearly protected"
    (judged (signing " x-ouinet content-length-a" ("X-Ouinet: a" ∷ "X-Ouinet: b" ∷ "Content-Length-A: 1" ∷ "content-length-a: 2" ∷ [])))
    (0 ∷ 257 ∷ [])
    -- signed, they are joined
    ∷ case "empty values" (joined (signing " vary" ("Vary:" ∷ "Vary: b" ∷ "Vary:" ∷ []))) (octets "\nvary: , b, ")
    ∷ case "nothing but empty values" (joined (signing " vary" ("Vary:" ∷ "Vary: " ∷ []))) (octets "\nvary: , ")
    ∷ case "other cases" (joined (signing " vARY" ("Vary: A" ∷ "VARY: b" ∷ "vary: C" ∷ []))) (octets "\nvary: A, b, C")
    ∷ case "trimmed" (joined (signing " vary" ("Vary:\t a \t" ∷ "Vary:b\tc" ∷ "Vary:  \t" ∷ "Vary: ,d, " ∷ []))) (octets "\nvary: a, b\tc, , ,d,")
    ∷ case "two fields in turn, in the list's order" (joined (signing " vary via" ("Via: 2" ∷ "Vary: a" ∷ "Server: x" ∷ "VIA: 1" ∷ "Vary: b" ∷ "Via: 2" ∷ [])))
    (octets "\nvary: a, b\nvia: 2, 1, 2")
    ∷ case "once" (joined (signing " vary" ("Vary: a" ∷ []))) (octets "\nvary: a")
    ∷ case "asked about, with a second date" (judged (signing " vary via" ("Via: 2" ∷ "Vary: a" ∷ "Date: x" ∷ "VIA: 1" ∷ "Vary: b" ∷ "Via: 2" ∷ []))) (0 ∷ 246 ∷ [])
    ∷ case "all values in their order" (separated (octets "|") (values_of (octets "VARY") (head_of (with_fields ("Vary: a, b" ∷ "Via: c" ∷ "vary:" ∷ "Vary: d " ∷ []))).fields))
    (octets "a, b||d")
    -- a list has a name once, which stands for all lines
    ∷ case "listed twice" (judged (signing " vary vary" ("Vary: a" ∷ "Vary: b" ∷ []))) (4 ∷ 0 ∷ [])
    ∷ case "listed twice in other cases" (judged (signing " vary Vary" ("Vary: a" ∷ "Vary: b" ∷ []))) (4 ∷ 0 ∷ [])
    ∷ case "listed, and not there" (judged (signing " vary" ("Via: a" ∷ "Via: b" ∷ []))) (4 ∷ 0 ∷ [])
    -- 128 is the most lines, not the most names
    ∷ case "128 lines" (judged (signing " vary" (replicate 119 "Vary: a"))) (0 ∷ 581 ∷ [])
    ∷ case "129 lines" (judged (signing " vary" (replicate 120 "Vary: a"))) (3 ∷ 1_790 ∷ [])
    -- handed out: the first line's value, and how many lines there are
    ∷ case "the first line's" (handed (signing " vary" ("Vary: a" ∷ "Via: x" ∷ "vary: b" ∷ "Vary: c" ∷ [])) "VARY") (3 ∷ octets "a")
    ∷ case "a signed field of the example, and one line before it" (handed (with_fields ("Date: x" ∷ [])) "date") (2 ∷ octets "x")
    ∷ case "items of one line" (handed (signing " vary" ("Vary: a, b" ∷ [])) "vary") (1 ∷ octets "a, b")
    ∷ case "an empty value" (handed (signing " vary" ("Vary:" ∷ [])) "vary") (1 ∷ [])
    ∷ case "an empty value first" (handed (signing " vary" ("Vary:" ∷ "Vary: b" ∷ [])) "vary") (2 ∷ [])
    ∷ case "a name that is not signed" (handed (with_fields ("Vary: a" ∷ "Vary: b" ∷ [])) "vary") (0 ∷ [])
    ∷ case "names in brackets" (handed example_head "(created)" ++ handed example_head "(response-status)") (0 ∷ 0 ∷ [])
    ∷ case "a name that is not there, and none" (handed example_head "vary" ++ handed example_head "") (0 ∷ 0 ∷ [])
    -- a stream with repeated fields is read to its end
    ∷ case "a stream"
    (events_from terms repeated_head (octets "5\r\nHello\r\n" ++ (signed_line (octets "0") ++ crlf)) (replicate 2 true))
    (1 ∷ 240 ∷ 2 ∷ 200 ∷ 1 ∷ 83 ∷ 3 ∷ 0 ∷ 5 ∷ 4 ∷ 5 ∷ [])
    ∷ []

pub repeated : holds_all table ≡ true
unfolding holds_all table with_fields signing repeated_head are_protected are_doubled said judged joined handed told events events_from is_base64 letter_value holds_three holds_two holds_one joined_letters base64_bytes big_endian padding padded number parsed schedule round rounds sums compressed hashed unparsed digest round_words sha512 step_form reach_form reach reach_from cut sections reading_at is_whole_line carries_signature is_chunk_line chunk_size line_signature line_rules line_fault chained block_message all same lowered same_name among is_doubled is_protected is_protected_doubled names_of has_field value_of values_of name_form field_form field_line_form trailer_form status_form status_line_form head_form ends_head is_whole_head head_with head_of status_digits injection_id injection_time block_size block_key head_key listed_names head_signature signed_of signing_string trusted_by text_rules caller_rules head_fault ends_with lines before_empty text_lines trimmed field_scan is_field_line field_of are_field_lines fields_of status_scan is_status_line status_of number_from is_decimal is_hex_number decimal_within decimal head_place fits first_from found first_broken injection_scan is_injection bsigs_scan is_bsigs sig0_scan is_sig0 split_names are_fields is_name_list separated signed_fields joined_fields signing_line signing_text is_whole show_of head_question accept_head judge_head judge_first_line judge_data_end block_question accept_block judge_next_line all_fields is_claimed judge_end judge_trailer judge rules run past starts_with scan ends_trailer is_whole_trailer is_trailer carries_hash is_extension line_hash is_hash_due first_byte is_within range_of is_partial signed_status is_ranged start_from start_of released_with is_checked
repeated = refl
