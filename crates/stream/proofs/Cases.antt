-- The marked cases P1 to P12 of paper 01, as one table about the definitions: each case is a row, and one computed test
-- covers the table. Assumes nothing.
use mathlib.Core.Bool.{Bool, true, false, ◌&&◌}
use mathlib.Core.List.{List, [], ◌∷◌, ◌++◌}
use mathlib.Core.Path.{◌≡◌, refl}
use Prim.Native.Nat.{ℕ}
use Prim.Native.String.{String}
use lib.ListN.{length, replicate}
use Rattle.octets.specs.Octets.{octets}
use Rattle.base64_text.specs.Base64.{is_base64, letter_value, holds_three, holds_two, holds_one, joined_letters, base64_bytes}
use Rattle.hash.specs.Sha2.{big_endian, padding, padded, number, parsed, schedule, round, rounds, sums, compressed, hashed, unparsed, digest}
use Rattle.hash.specs.Sha512.{round_words, sha512}
use Rattle.sections.specs.Reading.{Event, question, message, last, Log, go, tell, ask, stop, cut_at, one_section, cut, sections, reading_at, reading}
use Rattle.stream.specs.Blocks.{is_whole_line, carries_signature, is_chunk_line, chunk_size, line_signature, line_rules, line_fault, chained, block_message, carries_hash, is_extension, is_hash_due, line_hash}
use Rattle.stream.specs.Bytes.{all, same, lowered, same_name}
use Rattle.stream.specs.Ends.{all_fields, is_claimed, is_checked}
use Rattle.stream.specs.Events.{Question, Release, head_accepted, block, LastWord, closed, complete, refused}
use Rattle.stream.specs.Fields.{among, is_doubled, is_protected, is_protected_doubled, names_of, has_field, value_of, values_of}
use Rattle.stream.specs.Head.{ends_head, is_whole_head, head_with as read_head, head_of, status_digits, injection_id, injection_time, block_size, block_key, head_key, listed_names, head_signature, signed_of, signing_string, trusted_by, text_rules, caller_rules, head_fault, is_partial, is_ranged, range_of, signed_status}
use Rattle.stream.specs.Lines.{ends_with, lines, before_empty, text_lines, trimmed, field_scan, is_field_line, field_of, are_field_lines, fields_of, status_scan, is_status_line, status_of}
use Rattle.stream.specs.Numbers.{number_from, is_decimal, is_hex_number, decimal_within, decimal}
use Rattle.stream.specs.Range.{whole, first_byte, is_within}
use Rattle.stream.specs.Ring.{fits, first_from, found}
use Rattle.stream.specs.Rule.{first_broken}
use Rattle.stream.specs.Signatures.{injection_scan, is_injection, bsigs_scan, is_bsigs, sig0_scan, is_sig0, split_names, are_fields, is_name_list}
use Rattle.stream.specs.Signing.{separated, signed_fields, joined_fields, signing_line, signing_text}
use Rattle.stream.specs.Stream.{head, first_line, block_data, data_end, next_line, trailer, is_whole, Says, show_of, head_question, accept_head, judge_head, judge_first_line, judge_data_end, block_question, accept_block, judge_next_line, judge_end, judge_trailer, judge, rules, plain_reading, released_with, start_from, start_of}
use Rattle.stream.specs.Template.{run, past, starts_with, scan}
use Rattle.stream.specs.Terms.{Terms}
use Rattle.stream.specs.Trailer.{ends_trailer, is_whole_trailer, is_trailer}
use Rattle.stream.proofs.Example.{signed_line, injection, head_with, example_head, example_body, terms, show}

-- ---- what a row compares: a list of numbers

-- what a first line says: the refusal's number, or 100 and the size of the block that it announces
line_says : Says → List ℕ
line_says (go head) = []
line_says (go (first_line s)) = []
line_says (go (block_data s p n)) = 100 ∷ n ∷ []
line_says (go (data_end s p b)) = []
line_says (go (next_line s p b)) = []
line_says (go (trailer s p total)) = 100 ∷ 0 ∷ []
line_says (tell e c) = []
line_says (ask q y) = []
line_says (stop (closed n)) = []
line_says (stop (complete n)) = []
line_says (stop (refused n at)) = n ∷ []

first : String → List ℕ
first line = line_says (judge_first_line show (octets line ++ octets "\r\n"))

-- what a section says that is asked about or refused: 0 and the length of the message, or the refusal's number and place
unfoldable pub said : Says → List ℕ
said (go c) = []
said (tell e c) = []
said (ask q y) = 0 ∷ length q.message ∷ []
said (stop (closed total)) = []
said (stop (complete total)) = []
said (stop (refused n at)) = n ∷ at ∷ []

-- an event as its line of output has it: a code for the word, and its numbers
unfoldable pub told : Event Question Release LastWord → List ℕ
told (question q) = 1 ∷ length q.message ∷ []
told (message (head_accepted status signed)) = 2 ∷ status ∷ []
told (message (block offset bytes)) = 3 ∷ offset ∷ length bytes ∷ []
told (last (closed total)) = 4 ∷ total ∷ []
told (last (complete total)) = 6 ∷ total ∷ []
told (last (refused n at)) = 5 ∷ n ∷ []

unfoldable pub events : Log Question Release LastWord → List ℕ
events [] = []
events (x ∷ log) = told x.1 ++ events log

-- The events of a stream that is given as its head and what comes after it: those of the plain reading, by GivenHeads. To find where a head ends,
-- as P11 does, takes a second.
unfoldable pub events_from : Terms → List ℕ → List ℕ → List Bool → List ℕ
events_from terms first rest answers =
    events
    (one_section (rules terms) head 0 (first ++ rest) answers false (cut_at first rest)
    (λ c at after later. reading_at (rules terms) c at after later false))

-- ---- the table

pub record Case : Type 0 where
  pub name : String
  pub got : List ℕ
  pub due : List ℕ

abbrev pub case : String → List ℕ → List ℕ → Case
case name got due = record { name = name; got = got; due = due }

abbrev good : List ℕ
good = 0 ∷ []

-- the number of the rule that a head with this injection, or this block size, breaks first
injection_fault : String → List ℕ
injection_fault text = head_fault terms (head_with (octets text) (octets "5")) ∷ []

size_fault : String → List ℕ
size_fault text = head_fault terms (head_with injection (octets text)) ∷ []

pub table : List Case
table =
    case "P1" (first "5") (100 ∷ 5 ∷ [])
    ∷ case "P2" (first "00000005") (100 ∷ 5 ∷ [])
    ∷ case "P2" (first "000000005") (6 ∷ [])
    ∷ case "P3" (first "a" ++ first "A") (100 ∷ 10 ∷ 100 ∷ 10 ∷ [])
    ∷ case "P4" (first " 5") (6 ∷ [])
    ∷ case "P5" (events (reading (rules terms) (first_line show) (octets "0\r\n\r\n") [] false)) (4 ∷ 0 ∷ [])
    ∷ case "P6" (line_fault 5 whole true true 5 (signed_line (octets "5")) ∷ []) good
    ∷ case "P6" (line_fault 5 whole true true 5 (octets "5;ouisig=" ++ (replicate 87 65 ++ octets "\r\n")) ∷ []) (6 ∷ [])
    ∷ case "P7" (base64_bytes 3 (octets "NhX4")) (54 ∷ 21 ∷ 248 ∷ [])
    ∷ case "P8" (injection_fault "id=a,ts=0") good
    ∷ case "P8" (injection_fault "id=,ts=1" ++ injection_fault "id=a,ts=01") (4 ∷ 4 ∷ [])
    ∷ case "P9" (size_fault "65536") good
    ∷ case "P9" (size_fault "0" ++ size_fault "65537") (4 ∷ 4 ∷ [])
    ∷ case "P10" (signing_string (head_of example_head))
    (octets
    "(response-status): 200\n(created): 1584748800\nx-ouinet-version: 4\nx-ouinet-uri: https://example.com/hello\nx-ouinet-injection: id=qwertyuiop-12345,ts=1584748800\ndate: Sat, 21 Mar 2020 00:00:00 GMT\ncontent-type: text/plain")
    ∷ case "P10" (length (signing_string (head_of example_head)) ∷ []) (219 ∷ [])
    ∷ case "P11" (events (plain_reading terms (example_head ++ example_body) (replicate 4 true) false))
    (1 ∷ 219 ∷ 2 ∷ 200 ∷ 1 ∷ 83 ∷ 3 ∷ 0 ∷ 5 ∷ 1 ∷ 83 ∷ 3 ∷ 5 ∷ 5 ∷ 1 ∷ 84 ∷ 3 ∷ 10 ∷ 2 ∷ 4 ∷ 12 ∷ [])
    ∷ case "P12" (length (field_of (octets "Content-Type:  text/plain ")).value ∷ []) (10 ∷ [])
    ∷ []

unfoldable pub holds_all : List Case → Bool
holds_all [] = true
holds_all (c ∷ cs) = same c.got c.due && holds_all cs

pub marked_cases : holds_all table ≡ true
unfolding holds_all table injection_fault size_fault events told first line_says is_base64 letter_value holds_three holds_two holds_one joined_letters base64_bytes cut sections reading_at reading is_whole_line carries_signature is_chunk_line chunk_size line_signature line_rules line_fault chained block_message all same lowered same_name among is_doubled is_protected is_protected_doubled names_of has_field value_of values_of ends_head is_whole_head read_head head_of status_digits injection_id injection_time block_size block_key head_key listed_names head_signature signed_of signing_string trusted_by text_rules caller_rules head_fault ends_with lines before_empty text_lines trimmed field_scan is_field_line field_of are_field_lines fields_of status_scan is_status_line status_of number_from is_decimal is_hex_number decimal_within decimal fits first_from found first_broken injection_scan is_injection bsigs_scan is_bsigs sig0_scan is_sig0 split_names are_fields is_name_list separated signed_fields joined_fields signing_line signing_text is_whole show_of head_question accept_head judge_head judge_first_line judge_data_end block_question accept_block judge_next_line all_fields is_claimed judge_end judge_trailer judge rules plain_reading big_endian padding padded number parsed schedule round rounds sums compressed hashed unparsed digest round_words sha512 run past starts_with scan ends_trailer is_whole_trailer is_trailer carries_hash is_extension line_hash is_hash_due first_byte is_within range_of is_partial signed_status is_ranged start_from start_of released_with is_checked
marked_cases = refl
