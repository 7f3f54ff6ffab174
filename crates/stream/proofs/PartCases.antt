-- Part answers (request #104) by a few examples: each row is a name, what the definitions give, and what is due. One computed test covers the
-- table. The dues were written from the request; the whole of its cases is a table of the crate `ledger`. Assumes nothing.
use mathlib.Core.Bool.{true, false}
use mathlib.Core.List.{List, [], ◌∷◌, ◌++◌}
use mathlib.Core.Path.{◌≡◌, refl}
use Prim.Native.Nat.{ℕ}
use Prim.Native.String.{String}
use lib.ListN.{replicate, take, drop}
use Rattle.octets.specs.Octets.{octets}
use Rattle.base64_text.specs.Base64.{is_base64, letter_value, holds_three, holds_two, holds_one, joined_letters, base64_bytes}
use Rattle.hash.specs.Sha2.{big_endian, padding, padded, number, parsed, schedule, round, rounds, sums, compressed, hashed, unparsed, digest}
use Rattle.hash.specs.Sha512.{round_words, sha512}
use Rattle.sections.specs.Reading.{cut, sections, reading_at, reading}
use Rattle.stream.specs.Blocks.{is_whole_line, carries_signature, carries_hash, is_extension, is_chunk_line, chunk_size, line_hash, is_hash_due, line_rules, line_fault, chained, block_message}
use Rattle.stream.specs.Bytes.{all, same, lowered, same_name}
use Rattle.stream.specs.Ends.{all_fields, is_claimed, is_checked, end_rules, end_fault}
use Rattle.stream.specs.Fields.{among, is_doubled, is_protected, is_protected_doubled, names_of, has_field, value_of, values_of}
use Rattle.stream.specs.Head.{ends_head, head_with as read_head, head_of, status_digits, is_partial, signed_status, range_of, injection_time, block_size, block_key, head_key, listed_names, signing_string, trusted_by, is_ranged, text_rules, caller_rules, head_fault}
use Rattle.stream.specs.Lines.{ends_with, lines, before_empty, text_lines, trimmed, field_scan, is_field_line, field_of, are_field_lines, fields_of, status_scan, is_status_line, status_of}
use Rattle.stream.specs.Numbers.{number_from, is_decimal, is_hex_number, decimal_within, decimal}
use Rattle.stream.specs.Range.{Range, whole, part, first_byte, is_within, range_scan, range_said, is_aligned, is_content_range}
use Rattle.stream.specs.Ring.{fits, first_from, found}
use Rattle.stream.specs.Rule.{first_broken}
use Rattle.stream.specs.Signatures.{injection_scan, is_injection, bsigs_scan, is_bsigs, sig0_scan, is_sig0, split_names, are_fields, is_name_list}
use Rattle.stream.specs.Signing.{separated, joined_fields, signing_line, signing_text}
use Rattle.stream.specs.Stream.{Show, nothing, start_from, start_of, first_line, trailer, is_whole, judge_first_line, judge_data_end, released_with, block_question, accept_block, judge_next_line, judge_end, judge_trailer, judge, rules}
use Rattle.stream.specs.Template.{run, past, starts_with, scan}
use Rattle.stream.specs.Trailer.{ends_trailer, is_whole_trailer, is_trailer}
use Rattle.stream.proofs.Cases.{told, events, Case, case, holds_all}
use Rattle.stream.proofs.Example.{signed_line, example_head, terms}

-- ---- the second half of document 000's example

-- the example's head with another status line, and with these lines after it
abbrev with_lines : String → List ℕ
with_lines s = octets "HTTP/1.1 206 Partial Content\r\n" ++ (octets s ++ drop 17 example_head)

head_faults : List String → List ℕ
head_faults [] = []
head_faults (s ∷ ss) = head_fault terms (with_lines s) ∷ head_faults ss

half : Show
half =
    record {
      id = octets "abc";
      size = 5;
      key_number = 0;
      head =
          read_head (octets "HTTP/1.1 206 Partial Content") []
          (record { name = octets "Content-Range"; value = octets "bytes 5-11/12" } ∷ []);
    }

plain : String → List ℕ
plain s = octets s ++ octets "\r\n"

hashing : String → List ℕ
hashing s =
    octets s ++ octets ";ouihash=NhX4DJ0pPtdAJof5SyLVjlKbjMeRb4+sf933+9WvTPd309eVp6AKFr9+fz+5Vh7puq5IDan+ehh2nnGIawPzFQ==\r\n"

signed : String → List ℕ
signed s = signed_line (octets s)

-- the number of the rule that a first line breaks, where the answer begins at byte a
firsts : Range → ℕ → List (List ℕ) → List ℕ
firsts r a [] = []
firsts r a (l ∷ ls) = line_fault 5 r false true a l ∷ firsts r a ls

-- ---- the table

pub part_table : List Case
part_table =
    case "the two fields, a range that no block ends, no range, no status"
    (head_faults
    ("Content-Range: bytes 5-11/12\r\nX-Ouinet-HTTP-Status: 200\r\n"
    ∷ "Content-Range: bytes 5-10/12\r\nX-Ouinet-HTTP-Status: 200\r\n"
    ∷ "X-Ouinet-HTTP-Status: 200\r\n"
    ∷ "Content-Range: bytes 5-11/12\r\n"
    ∷ []))
    (0 ∷ 4 ∷ 4 ∷ 4 ∷ [])
    ∷ case "the status that is signed" (take 22 (signing_string (head_of (with_lines "X-Ouinet-HTTP-Status: 301\r\n")))) (octets "(response-status): 301")
    ∷ case "a hash is due above 0" (firsts (part 5 11 12) 5 (hashing "5" ∷ plain "5" ∷ signed "5" ∷ [])) (0 ∷ 8 ∷ 8 ∷ [])
    ∷ case "and not at 0" (firsts (part 0 11 12) 0 (plain "5" ∷ hashing "5" ∷ [])) (0 ∷ 8 ∷ [])
    ∷ case "nor in a whole answer" (firsts whole 0 (plain "5" ∷ hashing "5" ∷ [])) (0 ∷ 8 ∷ [])
    ∷ case "nor on a later line" (line_fault 5 (part 5 11 12) true true 10 (hashing "2") ∷ []) (8 ∷ [])
    ∷ case "8 before 7" (firsts (part 5 11 12) 5 (plain "0" ∷ hashing "0" ∷ hashing "6" ∷ [])) (8 ∷ 7 ∷ 7 ∷ [])
    ∷ case "a 0 line before the last byte" (line_fault 5 (part 5 11 12) true false 11 (signed "0") ∷ line_fault 5 (part 5 11 12) true false 12 (signed "0") ∷ []) (7 ∷ 0 ∷ [])
    ∷ case "a chunk past it" (line_fault 5 (part 5 11 12) true true 10 (signed "2") ∷ line_fault 5 (part 5 11 12) true true 10 (signed "3") ∷ []) (0 ∷ 7 ∷ [])
    ∷ case "the chain starts from the hash" (take 3 (start_of half (hashing "5")).hash) (54 ∷ 21 ∷ 248 ∷ [])
    ∷ case "offsets start at a, and the total is of the bytes released"
    (events (reading (rules terms) (first_line half) (hashing "5" ++ (octets " worl\r\n" ++ (signed "2" ++ (octets "d!\r\n" ++ (signed "0" ++ octets "\r\n"))))) (replicate 2 true) false))
    (1 ∷ 70 ∷ 3 ∷ 5 ∷ 5 ∷ 1 ∷ 71 ∷ 3 ∷ 10 ∷ 2 ∷ 4 ∷ 7 ∷ [])
    ∷ case "the end is not checked" (events (reading (rules terms) (trailer half nothing 7) (octets "Digest: x\r\n\r\n") [] false)) (4 ∷ 7 ∷ [])
    ∷ []

pub part_cases : holds_all part_table ≡ true
unfolding holds_all part_table head_faults half plain hashing signed firsts told events is_base64 letter_value holds_three holds_two holds_one joined_letters base64_bytes cut sections reading_at reading is_whole_line carries_signature carries_hash is_extension is_chunk_line chunk_size line_hash is_hash_due line_rules line_fault chained block_message all same lowered same_name all_fields is_claimed is_checked end_rules end_fault among is_doubled is_protected is_protected_doubled names_of has_field value_of values_of ends_head read_head head_of status_digits is_partial signed_status range_of injection_time block_size block_key head_key listed_names signing_string trusted_by is_ranged text_rules caller_rules head_fault ends_with lines before_empty text_lines trimmed field_scan is_field_line field_of are_field_lines fields_of status_scan is_status_line status_of number_from is_decimal is_hex_number decimal_within decimal first_byte is_within range_scan range_said is_aligned is_content_range fits first_from found first_broken injection_scan is_injection bsigs_scan is_bsigs sig0_scan is_sig0 split_names are_fields is_name_list separated joined_fields signing_line signing_text start_from start_of is_whole judge_first_line judge_data_end released_with block_question accept_block judge_next_line judge_end judge_trailer judge rules run past starts_with scan ends_trailer is_whole_trailer is_trailer big_endian padding padded number parsed schedule round rounds sums compressed hashed unparsed digest round_words sha512
part_cases = refl
