-- Request #104's cases as a table, with the numbers of their points (rust/second/tests/parts.rs has the same numbers; 0 is document 000's example, 8 the
-- order of a head's rules, 102 and 106 are points of those requests that this one touches): the head of a part answer, its lines, its chain of
-- hashes and its end. Block size 5, the body `Hello world!`. The dues were written from the request, not from the definitions. Assumes nothing.
use mathlib.Core.Bool.{true, false}
use mathlib.Core.List.{List, [], ◌∷◌, ◌++◌}
use mathlib.Core.Path.{◌≡◌, refl}
use Prim.Native.Nat.{ℕ}
use Prim.Native.String.{String}
use lib.ListN.{replicate, take, drop}
use Rattle.octets.specs.Octets.{octets}
use Rattle.base64_text.specs.Base64.{is_base64, letter_value, holds_three, holds_two, holds_one, joined_letters, base64_bytes}
use Rattle.hash.specs.Sha2.{big_endian, padding, padded, number, parsed, schedule, round, rounds, sums, compressed, hashed, unparsed, digest}
use Rattle.hash.specs.Sha512.{round_words, sha512}
use Rattle.scanner.specs.Form.{step_form, reach_form}
use Rattle.scanner.specs.Scanner.{reach, reach_from}
use Rattle.sections.specs.Reading.{Log, question, message, last, go, tell, ask, stop, cut, sections, reading_at, reading}
use Rattle.stream.specs.Blocks.{is_whole_line, carries_signature, carries_hash, is_extension, is_chunk_line, chunk_size, line_signature, line_hash, is_hash_due, line_rules, line_fault, chained, block_message}
use Rattle.stream.specs.Bytes.{all, same, lowered, same_name}
use Rattle.stream.specs.Ends.{all_fields, is_claimed, is_checked, end_rules, end_fault}
use Rattle.stream.specs.Events.{Question, Release, LastWord, closed, complete, refused}
use Rattle.stream.specs.Fields.{among, is_doubled, is_protected, is_protected_doubled, names_of, has_field, value_of, values_of}
use Rattle.stream.specs.Forms.{signature_form, extension_form, size_form, chunk_form, name_form, field_form, field_line_form, trailer_form}
use Rattle.stream.specs.Head.{ends_head, is_whole_head, head_with, head_of, status_digits, is_partial, signed_status, range_of, injection_id, injection_time, block_size, block_key, head_key, listed_names, head_signature, signed_of, signing_string, trusted_by, is_ranged, text_rules, caller_rules, head_fault}
use Rattle.stream.specs.Lines.{ends_with, lines, before_empty, text_lines, trimmed, field_scan, is_field_line, field_of, are_field_lines, fields_of, status_scan, is_status_line, status_of}
use Rattle.stream.specs.Numbers.{number_from, is_decimal, is_hex_number, decimal_within, decimal}
use Rattle.stream.specs.Places.{line_place, trailer_place}
use Rattle.stream.specs.Range.{whole, part, first_byte, is_within, range_scan, range_said, is_aligned, is_content_range}
use Rattle.stream.specs.Ring.{fits, first_from, found}
use Rattle.stream.specs.Rule.{first_broken}
use Rattle.stream.specs.Signatures.{injection_scan, is_injection, bsigs_scan, is_bsigs, sig0_scan, is_sig0, split_names, are_fields, is_name_list}
use Rattle.stream.specs.Signing.{separated, signed_fields, joined_fields, signing_line, signing_text}
use Rattle.stream.specs.Stream.{Show, Past, start_from, start_of, first_line, is_whole, Says, show_of, head_question, accept_head, judge_head, judge_first_line, judge_data_end, released_with, block_question, accept_block, judge_next_line, judge_end, judge_trailer, judge, rules, plain_reading}
use Rattle.stream.specs.Template.{run, past, starts_with, scan}
use Rattle.stream.specs.Trailer.{ends_trailer, is_whole_trailer, is_trailer}
use Rattle.stream.proofs.Example.{key, signature, terms}
use Rattle.ledger.proofs.Ledger.{Row, row, broken, told, placed, asked, as_lines, bsigs, sig0, middle, head_lines, status, version, sig0s, bsigss, put, without, asking, fault_by, fault, trusting, no_terms, yes, signed, document_body, hex_bytes}
use Rattle.ledger.proofs.LedgerEnds.{three}

-- ---- heads

abbrev partial : List (List ℕ)
partial = put status (octets "HTTP/1.1 206 Partial Content") head_lines

abbrev range_line : String → List ℕ
range_line s = octets "Content-Range: " ++ octets s

abbrev status_field : String → List ℕ
status_field s = octets "X-Ouinet-HTTP-Status: " ++ octets s

-- the two fields of a part answer
abbrev of_part : String → String → List (List ℕ)
of_part range s = range_line range ∷ status_field s ∷ []

-- of heads with these ranges, and with these statuses
abbrev ranges : List String → List ℕ
ranges [] = []
ranges (s ∷ ss) = fault (partial ++ of_part s "200") ++ ranges ss

abbrev statuses : List String → List ℕ
statuses [] = []
statuses (s ∷ ss) = fault (partial ++ of_part "bytes 5-11/12" s) ++ statuses ss

-- of answers with another status line and the two fields
abbrev others : List String → List ℕ
others [] = []
others (s ∷ ss) = fault (put status (octets s) head_lines ++ of_part "bytes 5-11/12" "200") ++ others ss

-- of whole answers with these lines
abbrev wholes : List (List (List ℕ)) → List ℕ
wholes [] = []
wholes (ls ∷ lss) = fault (head_lines ++ ls) ++ wholes lss

-- what is signed of a head with this status line, these lines and these names in its list
abbrev signs : String → List (List ℕ) → String → List ℕ
signs line ls list = signing_string (head_of (as_lines (put status (octets line) (put sig0s (sig0 key middle (octets list) signature) head_lines) ++ ls)))

-- ---- lines and bodies

-- a show whose answer carries these bytes, and one that carries all of it
abbrev shown : String → String → Show
shown line range =
    record {
      id = octets "abc";
      size = 5;
      key_number = 7;
      head = head_with (octets line) [] (record { name = octets "Content-Range"; value = octets range } ∷ []);
    }

abbrev part_of : String → Show
part_of range = shown "HTTP/1.1 206 Partial Content" range

-- its second half, as document 000 has it
abbrev half : Show
half = part_of "bytes 5-11/12"

abbrev whole_show : Show
whole_show = shown "HTTP/1.1 200 OK" "bytes 5-11/12"

-- the hash of `Hello`, as document 000 prints it on its line
abbrev hash0 : List ℕ
hash0 = octets "NhX4DJ0pPtdAJof5SyLVjlKbjMeRb4+sf933+9WvTPd309eVp6AKFr9+fz+5Vh7puq5IDan+ehh2nnGIawPzFQ=="

abbrev plain_line : String → List ℕ
plain_line s = octets s ++ octets "\r\n"

-- with the hash, and with other text in its place
abbrev hashing : String → List ℕ → List ℕ
hashing s hash = octets s ++ (octets ";ouihash=" ++ (hash ++ octets "\r\n"))

abbrev with_hash : String → List ℕ
with_hash s = hashing s hash0

-- the number and the place of a refusal, or 0
abbrev refusal : LastWord → List ℕ
refusal (closed total) = []
refusal (complete total) = []
refusal (refused n at) = n ∷ at ∷ []

abbrev said : Says → List ℕ
said (go c) = 0 ∷ []
said (tell e c) = []
said (ask q y) = 0 ∷ []
said (stop l) = refusal l

abbrev first_lines : Show → List (List ℕ) → List ℕ
first_lines s [] = []
first_lines s (l ∷ ls) = said (judge_first_line s l) ++ first_lines s ls

-- lines after the show's second block
abbrev before : Past
before = record { blocks = 1; hash = replicate 64 1; body = [] }

abbrev next_lines : Show → List (List ℕ) → List ℕ
next_lines s [] = []
next_lines s (l ∷ ls) = said (judge_next_line s before (octets " worl") l) ++ next_lines s ls

abbrev body : Show → List ℕ → List ℕ
body s bytes = placed (reading (rules no_terms) (first_line s) bytes yes false)

-- the number and the place of its refusal
abbrev refusal_in : Log Question Release LastWord → List ℕ
refusal_in [] = []
refusal_in ((at, question q) ∷ log) = refusal_in log
refusal_in ((at, message e) ∷ log) = refusal_in log
refusal_in ((at, last l) ∷ log) = at ∷ refusal l

abbrev refused_in : Show → List ℕ → List ℕ
refused_in s bytes = refusal_in (reading (rules no_terms) (first_line s) bytes yes false)

-- what a trailer says after a body of 7 bytes: the last word, and the place of a refusal
abbrev ended : Says → List ℕ
ended (go c) = []
ended (tell e c) = []
ended (ask q y) = told (question q)
ended (stop l) = told (last l) ++ refusal l

abbrev closes : List (List ℕ) → List (List ℕ) → List ℕ
closes ls ts = ended (judge_trailer (show_of terms.ring (head_of (as_lines ls))) before 7 (as_lines ts))

-- ---- the tables

pub part_heads : List Row
part_heads =
    row 1 "one field of one range: several ranges are 4, and so is none"
    (ranges ("bytes 5-11/12" ∷ "bytes 0-4/12" ∷ "bytes 10-11/12" ∷ "bytes 0-11/12" ∷ "bytes 0-4,5-11/12" ∷ "bytes 0-4/12,bytes 5-11/12" ∷ "bytes 0-4/12, 5-11/12" ∷ "bytes" ∷ "" ∷ [])
    ++ fault (partial ++ status_field "200" ∷ [])
    ++ fault (partial ++ (octets "Content-Ranges: bytes 5-11/12") ∷ status_field "200" ∷ []))
    (0 ∷ 0 ∷ 0 ∷ 0 ∷ 4 ∷ 4 ∷ 4 ∷ 4 ∷ 4 ∷ 4 ∷ 4 ∷ [])
    ∷ row 1 "the text is exact; the field's name and the blanks around its value are as of every field"
    (ranges ("Bytes 5-11/12" ∷ "bytes  5-11/12" ∷ "bytes\t5-11/12" ∷ "bytes5-11/12" ∷ "bytes=5-11/12" ∷ "bytes 5 -11/12" ∷ "bytes 5-11 /12" ∷ "bytes 5-11/*" ∷ "bytes */12" ∷ "bytes -11/12" ∷ "bytes 5-/12" ∷ "bytes 5-11" ∷ "bytes 5-11/12;x" ∷ [])
    ++ fault (partial ++ (octets "cONTENT-rANGE:\tbytes 5-11/12 ") ∷ status_field "200" ∷ []))
    (4 ∷ 4 ∷ 4 ∷ 4 ∷ 4 ∷ 4 ∷ 4 ∷ 4 ∷ 4 ∷ 4 ∷ 4 ∷ 4 ∷ 4 ∷ 0 ∷ [])
    ∷ row 1 "digits as `ts`: no leading zero" (ranges ("bytes 05-11/12" ∷ "bytes 5-011/12" ∷ "bytes 5-11/012" ∷ "bytes 00-11/12" ∷ "bytes +5-11/12" ∷ "bytes 0x5-11/12" ∷ []))
    (4 ∷ 4 ∷ 4 ∷ 4 ∷ 4 ∷ 4 ∷ [])
    ∷ row 1 "a at most b, b below t, a divisible by N, b+1 equal to t or divisible by N"
    (ranges ("bytes 5-10/12" ∷ "bytes 6-11/12" ∷ "bytes 5-12/12" ∷ "bytes 5-11/13" ∷ "bytes 5-9/12" ∷ "bytes 5-9/10" ∷ "bytes 5-9/9" ∷ "bytes 5-8/9" ∷ "bytes 5-4/12" ∷ "bytes 10-9/12" ∷ "bytes 0-0/1" ∷ "bytes 0-0/2" ∷ "bytes 0-0/0" ∷ []))
    (4 ∷ 4 ∷ 4 ∷ 4 ∷ 0 ∷ 0 ∷ 4 ∷ 0 ∷ 4 ∷ 4 ∷ 0 ∷ 4 ∷ 4 ∷ [])
    ∷ row 1 "t within the body limit; up to 12 digits are a number, 13 are none, and no number wraps"
    (ranges ("bytes 4294967295-4294967295/4294967296" ∷ "bytes 5-9/4294967296" ∷ "bytes 5-9/4294967297" ∷ "bytes 0-999999999999/1000000000000" ∷ "bytes 0-4/999999999999" ∷ "bytes 4294967301-4294967307/4294967308" ∷ "bytes 18446744073709551621-11/12" ∷ "bytes 5-18446744073709551627/12" ∷ "bytes 5-11/18446744073709551628" ∷ []))
    (0 ∷ 0 ∷ 4 ∷ 4 ∷ 4 ∷ 4 ∷ 4 ∷ 4 ∷ 4 ∷ [])
    ∷ row 2 "the status that was signed is one of the four, and is needed"
    (statuses ("200" ∷ "301" ∷ "302" ∷ "307" ∷ "206" ∷ "304" ∷ "404" ∷ "20" ∷ "2000" ∷ "0200" ∷ "200 OK" ∷ "200, 200" ∷ "" ∷ []) ++ fault (partial ++ range_line "bytes 5-11/12" ∷ []))
    (0 ∷ 0 ∷ 0 ∷ 0 ∷ 4 ∷ 4 ∷ 4 ∷ 4 ∷ 4 ∷ 4 ∷ 4 ∷ 4 ∷ 4 ∷ 4 ∷ [])
    ∷ row 2 "it stands for `(response-status)`; neither field need be signed, and one that is has its own line"
    (signs "HTTP/1.1 206 x" (of_part " bytes 5-11/12 " "301") "(response-status) (created) x-ouinet-uri" ++ signs "HTTP/1.1 206 x" (of_part "bytes 5-11/12" " 301\t") "(response-status) (created) X-Ouinet-HTTP-Status content-range")
    (octets "(response-status): 301\n(created): 1584748800\nx-ouinet-uri: https://example.com/hello(response-status): 301\n(created): 1584748800\nx-ouinet-http-status: 301\ncontent-range: bytes 5-11/12")
    ∷ row 2 "in other answers neither is looked at: whatever they say, the status is the line's"
    (wholes (of_part "bytes 5-11/12" "301" ∷ of_part "x" "404" ∷ of_part "" "" ∷ []) ++ signs "HTTP/1.1 200 OK" (of_part "x" "301") "(response-status) (created) content-range")
    (0 ∷ 0 ∷ 0 ∷ octets "(response-status): 200\n(created): 1584748800\ncontent-range: x")
    ∷ row 2 "no other status is a part's" (others ("HTTP/1.1 302 x" ∷ "HTTP/1.1 205 x" ∷ "HTTP/1.1 207 x" ∷ "HTTP/1.1 416 x" ∷ "HTTP/1.1 404 x" ∷ [])) (0 ∷ 4 ∷ 4 ∷ 4 ∷ 4 ∷ [])
    ∷ row 102 "request #102, point 5: `Content-Range` twice is 4 in a part, byte-equal too, and nothing in a whole answer"
    (fault (partial ++ range_line "bytes 5-11/12" ∷ of_part "bytes 5-11/12" "200")
    ++ fault (partial ++ (octets "content-range: x") ∷ of_part "bytes 5-11/12" "200")
    ++ wholes ((range_line "bytes 5-11/12" ∷ range_line "bytes 5-11/12" ∷ []) ∷ []))
    (4 ∷ 4 ∷ 0 ∷ [])
    ∷ row 102 "`X-Ouinet-HTTP-Status` twice is 3 on any status, and `Transfer-Encoding: chunked` twice"
    (fault (partial ++ status_field "200" ∷ of_part "bytes 5-11/12" "200")
    ++ fault (head_lines ++ status_field "200" ∷ status_field "200" ∷ [])
    ++ fault (put status (octets "HTTP/1.1 404 x") head_lines ++ status_field "200" ∷ status_field "200" ∷ [])
    ++ fault (partial ++ (octets "Transfer-Encoding: chunked") ∷ of_part "bytes 5-11/12" "200"))
    (3 ∷ 3 ∷ 3 ∷ 3 ∷ [])
    ∷ row 8 "at the status's place: after 3 and the version, before all other 4, 16 and 12"
    (fault (partial ++ (octets "A b") ∷ of_part "bytes 5-10/12" "200")
    ++ fault (put version (octets "X-Ouinet-Version: 5") partial ++ of_part "bytes 5-10/12" "404")
    ++ fault (put version (octets "X-Ouinet-Version: 6") partial ++ of_part "bytes 5-11/12" "200")
    ++ fault (without version partial ++ of_part "bytes 5-11/12" "200")
    ++ fault_by (asking "x") (partial ++ of_part "bytes 5-10/12" "200")
    ++ fault_by (asking "x") (partial ++ of_part "bytes 5-11/12" "")
    ++ fault_by (asking "x") (partial ++ of_part "bytes 5-11/12" "200")
    ++ fault_by (trusting []) (partial ++ of_part "bytes 5-10/12" "200")
    ++ fault_by (trusting []) (partial ++ of_part "bytes 5-11/12" "200"))
    (3 ∷ 5 ∷ 5 ∷ 4 ∷ 4 ∷ 4 ∷ 16 ∷ 4 ∷ 12 ∷ [])
    ∷ row 8 "N is the head's: another one, and one that is no block size"
    (fault (put bsigss (bsigs key (octets ",algorithm=\"hs2019\",size=4")) partial ++ of_part "bytes 4-11/12" "200")
    ++ fault (put bsigss (bsigs key (octets ",algorithm=\"hs2019\",size=4")) partial ++ of_part "bytes 5-11/12" "200")
    ++ fault (put bsigss (bsigs key (octets ",algorithm=\"hs2019\",size=0")) partial ++ of_part "bytes 0-11/12" "200"))
    (0 ∷ 4 ∷ 4 ∷ [])
    ∷ []

pub part_lines : List Row
part_lines =
    row 3 "above 0 the first line carries the hash; absent there it is 8" (first_lines half (with_hash "5" ∷ plain_line "5" ∷ signed "5" ∷ [])) (0 ∷ 8 ∷ 0 ∷ 8 ∷ 0 ∷ [])
    ∷ row 3 "so written on any other line of any answer it is 8: from 0, in a whole answer, on a later line"
    (first_lines (part_of "bytes 0-11/12") (plain_line "5" ∷ with_hash "5" ∷ with_hash "0" ∷ [])
    ++ first_lines whole_show (plain_line "5" ∷ with_hash "5" ∷ with_hash "0" ∷ [])
    ++ next_lines half (signed "2" ∷ with_hash "2" ∷ with_hash "0" ∷ [])
    ++ next_lines whole_show (signed "2" ∷ with_hash "2" ∷ with_hash "0" ∷ []))
    ((0 ∷ 8 ∷ 0 ∷ 8 ∷ 0 ∷ []) ++ (0 ∷ 8 ∷ 0 ∷ 8 ∷ 0 ∷ []) ++ (0 ∷ 8 ∷ 0 ∷ 8 ∷ 0 ∷ []) ++ (0 ∷ 8 ∷ 0 ∷ 8 ∷ 0 ∷ []))
    ∷ row 3 "well written, or else 6, which comes first, with its place: 87 characters, 89, spare bits, none, another case"
    (first_lines half
    (hashing "5" (take 87 hash0)
    ∷ hashing "5" (hash0 ++ octets "=")
    ∷ hashing "5" (take 85 hash0 ++ octets "R==")
    ∷ hashing "5" []
    ∷ plain_line "5;ouihash"
    ∷ plain_line "5;oui"
    ∷ (octets "5;ouiHash=" ++ (hash0 ++ octets "\r\n"))
    ∷ (octets "5; ouihash=" ++ (hash0 ++ octets "\r\n"))
    ∷ (octets "5;ouisash=" ++ (hash0 ++ octets "\r\n"))
    ∷ with_hash "000000005"
    ∷ []))
    (6 ∷ 97 ∷ 6 ∷ 98 ∷ 6 ∷ 95 ∷ 6 ∷ 10 ∷ 6 ∷ 9 ∷ 6 ∷ 5 ∷ 6 ∷ 5 ∷ 6 ∷ 2 ∷ 6 ∷ 6 ∷ 6 ∷ 8 ∷ [])
    ∷ row 3 "the same where none is due"
    (first_lines whole_show (hashing "5" (take 87 hash0) ∷ []) ++ next_lines half (hashing "5" (take 87 hash0) ∷ []))
    (6 ∷ 97 ∷ 6 ∷ 97 ∷ [])
    ∷ row 106 "request #106, point 9: what good text is, is restated: the two have their first four bytes in common, and no other name begins a good one"
    (first_lines half (plain_line "5;OUISIG=" ∷ plain_line "5;ouis" ∷ plain_line "5;ouih" ∷ plain_line "5;ouix" ∷ plain_line "5;x" ∷ plain_line "5;" ∷ []))
    (6 ∷ 2 ∷ 6 ∷ 6 ∷ 6 ∷ 6 ∷ 6 ∷ 5 ∷ 6 ∷ 2 ∷ 6 ∷ 2 ∷ [])
    ∷ row 4 "a line with both is longer than a line may be: 6 at 128, in either order"
    (refused_in half (octets "5;ouihash=" ++ (hash0 ++ (octets ";ouisig=" ++ (signature ++ octets "\r\n"))))
    ++ refused_in whole_show (octets "5;ouisig=" ++ (signature ++ (octets ";ouihash=" ++ (hash0 ++ octets "\r\n")))))
    (128 ∷ 6 ∷ 128 ∷ 128 ∷ 6 ∷ 128 ∷ [])
    ∷ row 4 "8 goes before 7" (first_lines half (plain_line "0" ∷ with_hash "0" ∷ plain_line "6" ∷ with_hash "6" ∷ []) ++ next_lines half (plain_line "6" ∷ with_hash "3" ∷ signed "3" ∷ []))
    (8 ∷ 0 ∷ 7 ∷ 0 ∷ 8 ∷ 0 ∷ 7 ∷ 0 ∷ 8 ∷ 0 ∷ 8 ∷ 0 ∷ 7 ∷ 0 ∷ [])
    ∷ row 5 "a 0 line before the last byte is 7, and the block before it is not asked about"
    (body half (with_hash "5" ++ (octets " worl\r\n" ++ signed "0")) ++ body (part_of "bytes 0-11/12") (octets "0\r\n\r\n"))
    (206 ∷ 5 ∷ 7 ∷ 3 ∷ 5 ∷ 7 ∷ [])
    ∷ row 5 "nor the one before a chunk past it, or after a short block"
    (body half (with_hash "5" ++ (octets " worl\r\n" ++ signed "3")) ++ body half (with_hash "4" ++ (octets " wor\r\n" ++ signed "3")) ++ body (part_of "bytes 10-11/12") (with_hash "3"))
    (206 ∷ 5 ∷ 7 ∷ 205 ∷ 5 ∷ 7 ∷ 100 ∷ 5 ∷ 7 ∷ [])
    ∷ row 5 "after the last byte a further chunk is 7, and 9 cannot happen in a part"
    (body (part_of "bytes 5-9/12") (with_hash "5" ++ (octets " worl\r\n" ++ signed "2"))
    ++ line_fault 65_536 (part 4_294_901_760 4_294_967_295 4_294_967_296) true true 4_294_967_296 (signed "1")
    ∷ line_fault 65_536 whole true true 4_294_967_296 (signed "1")
    ∷ line_fault 65_536 (part 4_294_901_760 4_294_967_295 4_294_967_296) true true 4_294_967_296 (signed "0")
    ∷ [])
    (206 ∷ 5 ∷ 7 ∷ 7 ∷ 9 ∷ 0 ∷ [])
    ∷ row 5 "a whole answer has no such rule, whatever its `Content-Range` says"
    (first_lines whole_show (plain_line "0" ∷ []) ++ next_lines whole_show (signed "0" ∷ signed "5" ∷ []))
    (0 ∷ 0 ∷ 0 ∷ [])
    ∷ row 7 "a short last block only where b+1 = t: else its line is taken, and the 0 line after it is 7"
    (next_lines (part_of "bytes 5-14/15") (signed "2" ∷ [])
    ++ line_fault 5 (part 5 14 15) true false 12 (signed "0")
    ∷ line_fault 5 (part 5 14 20) true false 12 (signed "0")
    ∷ line_fault 5 (part 5 11 12) true false 12 (signed "0")
    ∷ [])
    (0 ∷ 7 ∷ 7 ∷ 0 ∷ [])
    ∷ row 7 "the end is not checked, right or wrong, some of the three or one twice, in trailer or head"
    (closes (partial ++ of_part "bytes 5-11/12" "200") three
    ++ closes (partial ++ of_part "bytes 5-11/12" "200") (three ++ three)
    ++ closes (partial ++ of_part "bytes 5-11/12" "200") ((octets "Digest: x") ∷ (octets "X-Ouinet-Data-Size: 99") ∷ [])
    ++ closes (partial ++ (octets "Digest: x") ∷ (octets "X-Ouinet-Sig1: x") ∷ of_part "bytes 5-11/12" "200") ((octets "Digest: x") ∷ []))
    (4 ∷ 7 ∷ 4 ∷ 7 ∷ 4 ∷ 7 ∷ 4 ∷ 7 ∷ [])
    ∷ row 7 "but that of a whole answer is, and the trailer's text is still 6"
    (closes (head_lines ++ of_part "bytes 5-11/12" "200") ((octets "Digest: x") ∷ []) ++ closes (partial ++ of_part "bytes 5-11/12" "200") ((octets "Digest: x") ∷ (octets "A b") ∷ []))
    ((5 ∷ 13 ∷ 13 ∷ 0 ∷ []) ++ (5 ∷ 6 ∷ 6 ∷ 12 ∷ []))
    ∷ []

-- document 000's answer to a request for the second half, as it prints it, but for key and signatures
abbrev document_part : List ℕ
document_part =
    as_lines (take 8 partial ++ three ++ drop 8 partial ++ of_part "bytes 5-11/12" "200")
    ++ (with_hash "5" ++ (octets " worl\r\n" ++ (signed "2" ++ (octets "d!\r\n" ++ (signed "0" ++ octets "\r\n")))))

pub part_readings : List Row
part_readings =
    row 0 "document 000's `bytes 5-11/12` example ends `closed 7`" (placed (plain_reading terms document_part yes true))
    ((1_157 ∷ 1 ∷ 219 ∷ 0 ∷ 1_157 ∷ 2 ∷ 206 ∷ 5 ∷ [])
    ++ (1_363 ∷ 1 ∷ 83 ∷ 0 ∷ 1_363 ∷ 3 ∷ 5 ∷ 5 ∷ [])
    ++ (1_466 ∷ 1 ∷ 84 ∷ 0 ∷ 1_466 ∷ 3 ∷ 10 ∷ 2 ∷ 1_468 ∷ 4 ∷ 7 ∷ []))
    ∷ row 6 "the last byte of the largest show"
    (body (part_of "bytes 4294967295-4294967295/4294967296") (with_hash "1" ++ (octets "x\r\n" ++ (signed "0" ++ octets "\r\n"))))
    (202 ∷ 1 ∷ 79 ∷ 7 ∷ 202 ∷ 3 ∷ 4_294_967_295 ∷ 1 ∷ 204 ∷ 4 ∷ 1 ∷ [])
    ∷ row 7 "`bytes 0-11/12`, with three good fields, ends `closed 12`"
    (placed (plain_reading terms (as_lines (partial ++ of_part "bytes 0-11/12" "200") ++ (document_body ++ as_lines three)) (true ∷ yes) true))
    ((723 ∷ 1 ∷ 219 ∷ 0 ∷ 723 ∷ 2 ∷ 206 ∷ 5 ∷ [])
    ++ (832 ∷ 1 ∷ 83 ∷ 0 ∷ 832 ∷ 3 ∷ 0 ∷ 5 ∷ [])
    ++ (938 ∷ 1 ∷ 83 ∷ 0 ∷ 938 ∷ 3 ∷ 5 ∷ 5 ∷ [])
    ++ (1_041 ∷ 1 ∷ 84 ∷ 0 ∷ 1_041 ∷ 3 ∷ 10 ∷ 2 ∷ 1_477 ∷ 4 ∷ 12 ∷ []))
    ∷ []

-- the messages, whose hashes are compared byte by byte
pub part_messages : List Row
part_messages =
    row 6 "offsets start at a, and the chain from the 64 bytes of the line: the hashes are those that document 000 prints"
    (asked (reading (rules no_terms) (first_line half) (with_hash "5" ++ (octets " worl\r\n" ++ (signed "2" ++ (octets "d!\r\n" ++ signed "0")))) yes false))
    (octets "abc"
    ++ 0 ∷ 53 ∷ 0 ∷ hex_bytes (octets "9f3cda2fa89c046c51a5635693a5c8e26a8a19fa0675c785bb1b318910db4ea49ee281e264d1f1461533f48e81d81eb53dd6addd21ad9e42ec46182b93c37d5e")
    ++ octets "abc"
    ++ 0 ∷ 49 ∷ 48 ∷ 0 ∷ hex_bytes (octets "a5424a9d7faf90c636fe14686de2b44e490d36e94113aec176d68cd7e86b59e4d8df7712e62f967c27a54e7216f812b6371d456e94529b46423ac1acd797572c"))
    ∷ []

part_heads_hold : broken 0 part_heads ≡ []
unfolding part_heads is_base64 letter_value holds_three holds_two holds_one joined_letters base64_bytes cut sections reading_at reading is_whole_line carries_signature is_chunk_line chunk_size line_signature line_rules line_fault chained block_message all same lowered same_name among is_doubled is_protected is_protected_doubled names_of has_field value_of values_of ends_head is_whole_head head_with head_of status_digits injection_id injection_time block_size block_key head_key listed_names head_signature signed_of signing_string trusted_by text_rules caller_rules head_fault ends_with lines before_empty text_lines trimmed field_scan is_field_line field_of are_field_lines fields_of status_scan is_status_line status_of number_from is_decimal is_hex_number decimal_within decimal fits first_from found first_broken injection_scan is_injection bsigs_scan is_bsigs sig0_scan is_sig0 split_names are_fields is_name_list separated signed_fields joined_fields signing_line signing_text is_whole show_of head_question accept_head judge_head judge_first_line judge_data_end block_question accept_block judge_next_line all_fields is_claimed judge_end judge_trailer judge rules plain_reading big_endian padding padded number parsed schedule round rounds sums compressed hashed unparsed digest round_words sha512 run past starts_with scan ends_trailer is_whole_trailer is_trailer carries_hash is_extension line_hash is_hash_due first_byte is_within range_of is_partial signed_status is_ranged start_from start_of released_with is_checked range_scan range_said is_aligned is_content_range
part_heads_hold = refl

part_lines_hold : broken 0 part_lines ≡ []
unfolding part_lines is_base64 letter_value holds_three holds_two holds_one joined_letters base64_bytes cut sections reading_at reading is_whole_line carries_signature is_chunk_line chunk_size line_signature line_rules line_fault chained block_message all same lowered same_name among is_doubled is_protected is_protected_doubled names_of has_field value_of values_of ends_head is_whole_head head_with head_of status_digits injection_id injection_time block_size block_key head_key listed_names head_signature signed_of signing_string trusted_by text_rules caller_rules head_fault ends_with lines before_empty text_lines trimmed field_scan is_field_line field_of are_field_lines fields_of status_scan is_status_line status_of number_from is_decimal is_hex_number decimal_within decimal fits first_from found first_broken injection_scan is_injection bsigs_scan is_bsigs sig0_scan is_sig0 split_names are_fields is_name_list separated signed_fields joined_fields signing_line signing_text is_whole show_of head_question accept_head judge_head judge_first_line judge_data_end block_question accept_block judge_next_line all_fields is_claimed judge_end judge_trailer judge rules plain_reading big_endian padding padded number parsed schedule round rounds sums compressed hashed unparsed digest round_words sha512 run past starts_with scan ends_trailer is_whole_trailer is_trailer carries_hash is_extension line_hash is_hash_due first_byte is_within range_of is_partial signed_status is_ranged start_from start_of released_with is_checked range_scan range_said is_aligned is_content_range step_form reach_form reach reach_from signature_form extension_form size_form chunk_form line_place trailer_place name_form field_form field_line_form trailer_form end_rules end_fault
part_lines_hold = refl

part_readings_hold : broken 0 part_readings ≡ []
unfolding part_readings is_base64 letter_value holds_three holds_two holds_one joined_letters base64_bytes cut sections reading_at reading is_whole_line carries_signature is_chunk_line chunk_size line_signature line_rules line_fault chained block_message all same lowered same_name among is_doubled is_protected is_protected_doubled names_of has_field value_of values_of ends_head is_whole_head head_with head_of status_digits injection_id injection_time block_size block_key head_key listed_names head_signature signed_of signing_string trusted_by text_rules caller_rules head_fault ends_with lines before_empty text_lines trimmed field_scan is_field_line field_of are_field_lines fields_of status_scan is_status_line status_of number_from is_decimal is_hex_number decimal_within decimal fits first_from found first_broken injection_scan is_injection bsigs_scan is_bsigs sig0_scan is_sig0 split_names are_fields is_name_list separated signed_fields joined_fields signing_line signing_text is_whole show_of head_question accept_head judge_head judge_first_line judge_data_end block_question accept_block judge_next_line all_fields is_claimed judge_end judge_trailer judge rules plain_reading big_endian padding padded number parsed schedule round rounds sums compressed hashed unparsed digest round_words sha512 run past starts_with scan ends_trailer is_whole_trailer is_trailer carries_hash is_extension line_hash is_hash_due first_byte is_within range_of is_partial signed_status is_ranged start_from start_of released_with is_checked range_scan range_said is_aligned is_content_range
part_readings_hold = refl

part_messages_hold : broken 0 part_messages ≡ []
unfolding part_messages is_base64 letter_value holds_three holds_two holds_one joined_letters base64_bytes cut sections reading_at reading is_whole_line carries_signature is_chunk_line chunk_size line_signature line_rules line_fault chained block_message all same lowered same_name among is_doubled is_protected is_protected_doubled names_of has_field value_of values_of ends_head is_whole_head head_with head_of status_digits injection_id injection_time block_size block_key head_key listed_names head_signature signed_of signing_string trusted_by text_rules caller_rules head_fault ends_with lines before_empty text_lines trimmed field_scan is_field_line field_of are_field_lines fields_of status_scan is_status_line status_of number_from is_decimal is_hex_number decimal_within decimal fits first_from found first_broken injection_scan is_injection bsigs_scan is_bsigs sig0_scan is_sig0 split_names are_fields is_name_list separated signed_fields joined_fields signing_line signing_text is_whole show_of head_question accept_head judge_head judge_first_line judge_data_end block_question accept_block judge_next_line all_fields is_claimed judge_end judge_trailer judge rules plain_reading big_endian padding padded number parsed schedule round rounds sums compressed hashed unparsed digest round_words sha512 run past starts_with scan ends_trailer is_whole_trailer is_trailer carries_hash is_extension line_hash is_hash_due first_byte is_within range_of is_partial signed_status is_ranged start_from start_of released_with is_checked range_scan range_said is_aligned is_content_range
part_messages_hold = refl

-- Every row holds.
pub parts_hold : (broken 0 part_heads ≡ []) × (broken 0 part_lines ≡ []) × (broken 0 part_readings ≡ []) × (broken 0 part_messages ≡ [])
parts_hold = (part_heads_hold, part_lines_hold, part_readings_hold, part_messages_hold)
