-- The points of the rules ledger that concern lists of calls as a table about the definitions of `Calls`: each row is a list of
-- calls, with the number of its point and what each call is due to return. Assumes nothing.
use mathlib.Core.Bool.{true, false}
use mathlib.Core.List.{List, [], ◌∷◌, ◌++◌}
use mathlib.Core.Path.{◌≡◌, refl}
use Prim.Native.Nat.{ℕ}
use Rattle.octets.specs.Octets.{octets}
use Rattle.base64_text.specs.Base64.{is_base64, letter_value, holds_three, holds_two, holds_one, joined_letters, base64_bytes}
use Rattle.hash.specs.Sha2.{big_endian, padding, padded, number, parsed, schedule, round, rounds, sums, compressed, hashed, unparsed, digest}
use Rattle.hash.specs.Sha512.{round_words, sha512}
use Rattle.sections.specs.Calls.{feed, answer, end, Call, call, Reply, more, event, misused, Out, standing, read_request, read_call, read_from, read_calls}
use Rattle.sections.specs.Reading.{cut, sections, reading_at, reading}
use Rattle.stream.specs.Blocks.{is_whole_line, carries_signature, is_chunk_line, chunk_size, line_signature, line_rules, line_fault, chained, block_message, carries_hash, is_extension, is_hash_due, line_hash}
use Rattle.stream.specs.Bytes.{all, same, lowered, same_name}
use Rattle.stream.specs.Ends.{all_fields, is_claimed, is_checked}
use Rattle.stream.specs.Events.{Question, Release, LastWord}
use Rattle.stream.specs.Fields.{among, is_doubled, is_protected, is_protected_doubled, names_of, has_field, value_of, values_of}
use Rattle.stream.specs.Head.{ends_head, is_whole_head, head_with, head_of, status_digits, injection_id, injection_time, block_size, block_key, head_key, listed_names, head_signature, signed_of, signing_string, trusted_by, text_rules, caller_rules, head_fault, is_partial, is_ranged, range_of, signed_status}
use Rattle.stream.specs.Lines.{ends_with, lines, before_empty, text_lines, trimmed, field_scan, is_field_line, field_of, are_field_lines, fields_of, status_scan, is_status_line, status_of}
use Rattle.stream.specs.Numbers.{number_from, is_decimal, is_hex_number, decimal_within, decimal}
use Rattle.stream.specs.Range.{first_byte, is_within}
use Rattle.stream.specs.Ring.{fits, first_from, found}
use Rattle.stream.specs.Rule.{first_broken}
use Rattle.stream.specs.Signatures.{injection_scan, is_injection, bsigs_scan, is_bsigs, sig0_scan, is_sig0, split_names, are_fields, is_name_list}
use Rattle.stream.specs.Signing.{separated, signed_fields, joined_fields, signing_line, signing_text}
use Rattle.stream.specs.Stream.{nothing, Context, head, first_line, trailer, is_whole, show_of, head_question, accept_head, judge_head, judge_first_line, judge_data_end, block_question, accept_block, judge_next_line, judge_end, judge_trailer, judge, rules, released_with, start_from, start_of}
use Rattle.stream.specs.Template.{run, past, starts_with, scan}
use Rattle.stream.specs.Trailer.{ends_trailer, is_whole_trailer, is_trailer}
use Rattle.ledger.proofs.Ledger.{Row, row, broken, told, no_terms, show, hello, signed}

-- what calls return: a code for the word, its numbers, and the count taken
abbrev returned : Reply Question Release LastWord → List ℕ
returned more = 0 ∷ []
returned (event e) = told e
returned (misused n) = 9 ∷ n ∷ []

abbrev returns : List (Out Question Release LastWord) → List ℕ
returns [] = []
returns (o ∷ os) = returned o.0 ++ o.1 ∷ returns os

abbrev calls : Context → List Call → List ℕ
calls start ks = returns (read_calls (rules no_terms) start ks)

-- each byte as a piece of its own
abbrev bytewise : List ℕ → List Call
bytewise [] = []
bytewise (b ∷ l) = call true (feed (b ∷ [])) ∷ bytewise l

pub called_rows : List Row
called_rows =
    row 2 "a line cut between CR and LF, and a head"
    (calls (first_line show) (call true (feed (octets "5\r")) ∷ call true (feed (octets "\n")) ∷ call true (feed (octets "Hello\rx")) ∷ [])
    ++ calls head (call true (feed (octets "a\r\n")) ∷ call true (feed (octets "\r")) ∷ call true (feed (octets "\nb")) ∷ []))
    ((0 ∷ 2 ∷ 0 ∷ 1 ∷ 5 ∷ 6 ∷ 7 ∷ []) ++ (0 ∷ 3 ∷ 0 ∷ 1 ∷ 5 ∷ 3 ∷ 1 ∷ []))
    ∷ row 6 "bytes after the event are not taken"
    (calls (first_line show) (call true (feed (octets "0\r\n\r\nHTTP")) ∷ []) ++ calls (first_line show) (call true (feed (octets "x\r\nHello")) ∷ []))
    ((4 ∷ 0 ∷ 5 ∷ []) ++ (5 ∷ 6 ∷ 3 ∷ []))
    ∷ row 7 "a feed goes over as many sections as it takes to the event; other bytes may be fed than those not taken; then the end"
    (calls (first_line show) (call true (feed (hello ++ signed "2" ++ octets "ABCD")) ∷ call true (answer true) ∷ call true (feed (octets "d!\r\n")) ∷ call true end ∷ []))
    (1 ∷ 70 ∷ 7 ∷ 109 ∷ 3 ∷ 0 ∷ 5 ∷ 0 ∷ 0 ∷ 4 ∷ 5 ∷ 11 ∷ 0 ∷ [])
    ∷ row 27 "2 goes before 1, and both before all else: with none open, with one open, after the last word"
    (calls (first_line show)
    (call false (feed []) ∷ call false (answer true) ∷ call true (answer true) ∷ call true (feed (hello ++ signed "0")) ∷ call false (feed []) ∷ call false end ∷ call false (answer true) ∷ call true (feed []) ∷ call true end ∷ call true (answer false) ∷ call false end ∷ call true end ∷ call true (answer true) ∷ call true (feed []) ∷ []))
    (9 ∷ 2 ∷ 0 ∷ 9 ∷ 2 ∷ 0 ∷ 9 ∷ 1 ∷ 0 ∷ 1 ∷ 70 ∷ 7 ∷ 109 ∷ 9 ∷ 2 ∷ 0 ∷ 9 ∷ 2 ∷ 0 ∷ 9 ∷ 2 ∷ 0 ∷ 9 ∷ 1 ∷ 0 ∷ 9 ∷ 1 ∷ 0 ∷ 5 ∷ 10 ∷ 0 ∷ 9 ∷ 2 ∷ 0 ∷ 9 ∷ 1 ∷ 0 ∷ 9 ∷ 1 ∷ 0 ∷ 9 ∷ 1 ∷ 0 ∷ [])
    ∷ row 28 "refused calls change nothing: what is fed later goes on from the bytes taken"
    (calls (first_line show)
    (call true (feed (octets "0\r")) ∷ call false (feed (octets "xx")) ∷ call true (answer false) ∷ call false end ∷ call true (feed (octets "\n\r")) ∷ call true (feed (octets "\n")) ∷ call true (feed (octets "\n")) ∷ []))
    (0 ∷ 2 ∷ 9 ∷ 2 ∷ 0 ∷ 9 ∷ 1 ∷ 0 ∷ 9 ∷ 2 ∷ 0 ∷ 0 ∷ 2 ∷ 4 ∷ 0 ∷ 1 ∷ 9 ∷ 1 ∷ 0 ∷ [])
    ∷ row 30 "end in an unfinished stream, at its start, and after the last word"
    (calls head (call true end ∷ call true end ∷ []) ++ calls (first_line show) (call true (feed (octets "0\r\n\r\n")) ∷ call true end ∷ []))
    ((5 ∷ 11 ∷ 0 ∷ 9 ∷ 1 ∷ 0 ∷ []) ++ (4 ∷ 0 ∷ 5 ∷ 9 ∷ 1 ∷ 0 ∷ []))
    ∷ row 35 "an empty piece is fed like any other" (calls (first_line show) (call true (feed []) ∷ call true (feed (octets "0\r\n")) ∷ call true (feed []) ∷ call true (feed (octets "\r\n")) ∷ call true (feed []) ∷ []))
    (0 ∷ 0 ∷ 0 ∷ 3 ∷ 0 ∷ 0 ∷ 4 ∷ 0 ∷ 2 ∷ 9 ∷ 1 ∷ 0 ∷ [])
    ∷ row 36 "the same stream byte by byte gives the same words"
    (calls (trailer show nothing 3) (bytewise (octets "A: b\r\n\r\n")))
    (0 ∷ 1 ∷ 0 ∷ 1 ∷ 0 ∷ 1 ∷ 0 ∷ 1 ∷ 0 ∷ 1 ∷ 0 ∷ 1 ∷ 0 ∷ 1 ∷ 4 ∷ 3 ∷ 1 ∷ [])
    ∷ []

pub called_rows_hold : broken 0 called_rows ≡ []
unfolding called_rows standing read_request read_call read_from read_calls is_base64 letter_value holds_three holds_two holds_one joined_letters base64_bytes cut sections reading_at reading is_whole_line carries_signature is_chunk_line chunk_size line_signature line_rules line_fault chained block_message all same lowered same_name among is_doubled is_protected is_protected_doubled names_of has_field value_of values_of ends_head is_whole_head head_with head_of status_digits injection_id injection_time block_size block_key head_key listed_names head_signature signed_of signing_string trusted_by text_rules caller_rules head_fault ends_with lines before_empty text_lines trimmed field_scan is_field_line field_of are_field_lines fields_of status_scan is_status_line status_of number_from is_decimal is_hex_number decimal_within decimal fits first_from found first_broken injection_scan is_injection bsigs_scan is_bsigs sig0_scan is_sig0 split_names are_fields is_name_list separated signed_fields joined_fields signing_line signing_text is_whole show_of head_question accept_head judge_head judge_first_line judge_data_end block_question accept_block judge_next_line all_fields is_claimed judge_end judge_trailer judge rules big_endian padding padded number parsed schedule round rounds sums compressed hashed unparsed digest round_words sha512 run past starts_with scan ends_trailer is_whole_trailer is_trailer carries_hash is_extension line_hash is_hash_due first_byte is_within range_of is_partial signed_status is_ranged start_from start_of released_with is_checked
called_rows_hold = refl
