-- The asked URI (request #105), by examples: each row is a name, what the definitions give, and what is due. One computed test covers the table.
-- The dues were written from the request and its readings. Assumes nothing.
use mathlib.Core.Bool.{true, false}
use mathlib.Core.List.{List, [], ◌∷◌, ◌++◌, map}
use mathlib.Core.Path.{◌≡◌, refl}
use Prim.Native.Nat.{ℕ}
use Prim.Native.String.{String}
use lib.ListN.{length, replicate, drop}
use Rattle.octets.specs.Octets.{octets}
use Rattle.base64_text.specs.Base64.{is_base64, letter_value, holds_three, holds_two, holds_one, joined_letters, base64_bytes}
use Rattle.hash.specs.Sha2.{big_endian, padding, padded, number, parsed, schedule, round, rounds, sums, compressed, hashed, unparsed, digest}
use Rattle.hash.specs.Sha512.{round_words, sha512}
use Rattle.scanner.specs.Form.{step_form, reach_form}
use Rattle.scanner.specs.Scanner.{reach, reach_from}
use Rattle.sections.specs.Reading.{cut, sections, reading_at}
use Rattle.stream.specs.Blocks.{is_whole_line, carries_signature, is_chunk_line, chunk_size, line_signature, line_rules, line_fault, chained, block_message, carries_hash, is_extension, is_hash_due, line_hash}
use Rattle.stream.specs.Bytes.{all, same, lowered, same_name}
use Rattle.stream.specs.Ends.{all_fields, is_claimed, is_checked}
use Rattle.stream.specs.Fields.{among, is_doubled, is_protected, is_protected_doubled, names_of, has_field, value_of, values_of}
use Rattle.stream.specs.Forms.{name_form, field_form, field_line_form, trailer_form, status_form, status_line_form, head_form}
use Rattle.stream.specs.Head.{ends_head, is_whole_head, head_with, head_of, status_digits, injection_id, injection_time, block_size, block_key, head_key, listed_names, head_signature, signed_of, signing_string, trusted_by, text_rules, caller_rules, head_fault, is_partial, is_ranged, range_of, signed_status}
use Rattle.stream.specs.Lines.{ends_with, lines, before_empty, text_lines, trimmed, field_scan, is_field_line, field_of, are_field_lines, fields_of, status_scan, is_status_line, status_of}
use Rattle.stream.specs.Numbers.{number_from, is_decimal, is_hex_number, decimal_within, decimal}
use Rattle.stream.specs.Places.{head_place}
use Rattle.stream.specs.Range.{first_byte, is_within}
use Rattle.stream.specs.Ring.{fits, first_from, found}
use Rattle.stream.specs.Rule.{first_broken}
use Rattle.stream.specs.Signatures.{injection_scan, is_injection, bsigs_scan, is_bsigs, sig0_scan, is_sig0, split_names, are_fields, is_name_list}
use Rattle.stream.specs.Signing.{separated, signed_fields, joined_fields, signing_line, signing_text}
use Rattle.stream.specs.Stream.{is_whole, show_of, head_question, accept_head, judge_head, judge_first_line, judge_data_end, block_question, accept_block, judge_next_line, judge_end, judge_trailer, judge, rules, released_with, start_from, start_of}
use Rattle.stream.specs.Template.{run, past, starts_with, scan}
use Rattle.stream.specs.Terms.{Terms}
use Rattle.stream.specs.Trailer.{ends_trailer, is_whole_trailer, is_trailer}
use Rattle.stream.proofs.Cases.{said, told, events, events_from, Case, case, holds_all}
use Rattle.stream.proofs.Example.{example_head, example_body, ring, terms}
use Rattle.stream.proofs.RepeatCases.{with_fields, signing}

-- ---- what is asked for: the example's URI, or another one

abbrev asking : List ℕ → Terms
asking uri = record { ring = ring; uri = uri }

-- another in one letter's case
abbrev other : Terms
other = asking (octets "https://example.com/Hello")

-- with a ring that trusts the example's key only until a second before the example's time, or with none
abbrev too_late : Terms → Terms
too_late t = record { ring = record { key = replicate 32 0; first = 0; last = 1_584_748_799 } ∷ []; uri = t.uri }

abbrev ringless : Terms → Terms
ringless t = record { ring = []; uri = t.uri }

-- ---- heads: the example's, with a text in another's stead

changed : List ℕ → List ℕ → List ℕ → List ℕ
changed old new [] = []
changed old new (b ∷ l) = elim (starts_with old (b ∷ l)) [ true ↦ new ++ drop (length old) (b ∷ l) | false ↦ b ∷ changed old new l ]

replaced : String → String → List ℕ
replaced old new = changed (octets old) (octets new) example_head

-- a key of 32 bytes that is not Sig0's
unlike_keys : List ℕ
unlike_keys = replaced "BSigs: keyId=\"ed25519=AAAA" "BSigs: keyId=\"ed25519=AAAB"

-- ---- what a row compares: a list of numbers

judged : Terms → List ℕ → List ℕ
judged t l = said (judge_head t l)

-- A field line as a head, by the caller's rules alone: 16 where the URI asked for is another, and else 12, for the ring is empty. It takes a
-- tenth of a whole head's time.
caller_fault : List ℕ → List ℕ → ℕ
caller_fault line uri = first_broken (caller_rules (ringless (asking uri)) (head_with [] [] (fields_of (line ∷ []))))

-- a line against each of these URIs
against : String → List String → List ℕ
against line asked = map (λ (s : String). caller_fault (octets line) (octets s)) asked

-- ---- the table

pub table : List Case
table =
    -- every byte counts
    case "the same" (against "X-Ouinet-URI: http://a/b" ("http://a/b" ∷ [])) (12 ∷ [])
    ∷ case "in other cases"
    (against "X-Ouinet-URI: http://a/b" ("http://a/B" ∷ "http://A/b" ∷ "HTTP://a/b" ∷ []) ++ against "X-Ouinet-URI: HTTP://A/B" ("http://a/b" ∷ []))
    (replicate 4 16)
    ∷ case "a beginning of it, one byte less, and an end of it"
    (against "X-Ouinet-URI: http://a/b" ("http://" ∷ "http://a/" ∷ "ttp://a/b" ∷ []))
    (replicate 3 16)
    ∷ case "a byte more, at either end"
    (against "X-Ouinet-URI: http://a/b" ("http://a/bc" ∷ "http://a/b/" ∷ "xhttp://a/b" ∷ []))
    (replicate 3 16)
    ∷ case "another byte: the first, the last, one between"
    (against "X-Ouinet-URI: http://a/b" ("Xttp://a/b" ∷ "http://a/c" ∷ "http:/_a/b" ∷ []))
    (replicate 3 16)
    ∷ case "what means the same elsewhere"
    (against "X-Ouinet-URI: http://a/b" ("http://a/%62" ∷ "http://a:80/b" ∷ "http://a/./b" ∷ "http://a/b#" ∷ []))
    (replicate 4 16)
    ∷ case "bytes above 127"
    (map (caller_fault (octets "X-Ouinet-URI:" ++ 97 ∷ 233 ∷ [])) ((97 ∷ 233 ∷ []) ∷ (97 ∷ 201 ∷ []) ∷ (97 ∷ 105 ∷ []) ∷ []))
    (12 ∷ 16 ∷ 16 ∷ [])
    -- the value is trimmed, and the asked bytes are not
    ∷ case "blanks around the value"
    (against "x-oUINET-uri:\t  http://a/b \t" ("http://a/b" ∷ []) ++ against "X-OUINET-URI:http://a/b" ("http://a/b" ∷ []))
    (12 ∷ 12 ∷ [])
    ∷ case "blanks around what is asked for"
    (against "X-Ouinet-URI: http://a/b" (" http://a/b" ∷ "http://a/b " ∷ "\thttp://a/b" ∷ "http://a/b\n" ∷ []))
    (replicate 4 16)
    ∷ case "the same blanks around both" (against "X-Ouinet-URI: http://a/b " (" http://a/b " ∷ "http://a/b " ∷ [])) (replicate 2 16)
    ∷ case "a blank within" (against "X-Ouinet-URI: a b" ("a b" ∷ "ab" ∷ "a  b" ∷ "a\tb" ∷ [])) (12 ∷ 16 ∷ 16 ∷ 16 ∷ [])
    ∷ case "nothing asked for" (against "X-Ouinet-URI: http://a/b" ("" ∷ [])) (16 ∷ [])
    ∷ case "of another field" (against "X-Ouinet-URI-A: http://a/b" ("http://a/b" ∷ [])) (16 ∷ [])
    ∷ case "of any length" (caller_fault (octets "X-Ouinet-URI: a") (replicate 9_000 97) ∷ []) (16 ∷ [])
    -- a whole head: the right one is asked about, another is 16, with no place
    ∷ case "asked for" (judged terms example_head) (0 ∷ 219 ∷ [])
    ∷ case "another" (judged other example_head) (16 ∷ 0 ∷ [])
    ∷ case "none" (judged (asking []) example_head) (16 ∷ 0 ∷ [])
    ∷ case "its value with blanks around it"
    (judged terms (replaced "URI: https://example.com/hello" "uri:\t https://example.com/hello \t"))
    (0 ∷ 219 ∷ [])
    -- after all of 3, 4 and 5
    ∷ case "another, and bad text" (judged other (replaced "Date" "Da te")) (3 ∷ 136 ∷ [])
    ∷ case "another, and twice there" (judged other (with_fields ("x-ouinet-uri: https://example.com/Hello" ∷ []))) (3 ∷ 746 ∷ [])
    ∷ case "another, and no version" (judged other (replaced "X-Ouinet-Version: 4\r\n" "")) (4 ∷ 0 ∷ [])
    ∷ case "another, and version 5" (judged other (replaced "Version: 4" "Version: 5")) (5 ∷ 0 ∷ [])
    ∷ case "another, and status 404" (judged other (replaced "200" "404")) (4 ∷ 0 ∷ [])
    ∷ case "the head has none, or an empty one"
    (judged other (replaced "URI:" "URI-A:")
    ++ (judged (asking []) (replaced " https://example.com/hello" "") ++ judged terms (replaced "https://example.com/hello" "\t")))
    (4 ∷ 0 ∷ 4 ∷ 0 ∷ 4 ∷ 0 ∷ [])
    ∷ case "another, and a bad list" (judged other (replaced " content-type\"" " vary\"")) (4 ∷ 0 ∷ [])
    -- before 12
    ∷ case "another, and no trust" (judged (ringless other) example_head ++ judged (too_late other) example_head) (16 ∷ 0 ∷ 16 ∷ 0 ∷ [])
    ∷ case "another, and keys unlike" (judged other unlike_keys) (16 ∷ 0 ∷ [])
    ∷ case "the right one, and no trust"
    (judged (ringless terms) example_head ++ judged (too_late terms) example_head)
    (12 ∷ 0 ∷ 12 ∷ 0 ∷ [])
    ∷ case "the right one, and keys unlike" (judged terms unlike_keys) (12 ∷ 0 ∷ [])
    -- a reading: another ends it at once, whatever is answered
    ∷ case "another is read"
    (events_from other example_head example_body (replicate 4 true)
    ++ (events_from other example_head example_body (false ∷ []) ++ events_from other example_head example_body []))
    (5 ∷ 16 ∷ 5 ∷ 16 ∷ 5 ∷ 16 ∷ [])
    ∷ case "the right one, and a no" (events_from terms example_head example_body (false ∷ [])) (1 ∷ 219 ∷ 5 ∷ 10 ∷ [])
    ∷ []

pub asked_for : holds_all table ≡ true
unfolding holds_all table changed replaced unlike_keys caller_fault against with_fields signing said judged told events events_from is_base64 letter_value holds_three holds_two holds_one joined_letters base64_bytes big_endian padding padded number parsed schedule round rounds sums compressed hashed unparsed digest round_words sha512 step_form reach_form reach reach_from cut sections reading_at is_whole_line carries_signature is_chunk_line chunk_size line_signature line_rules line_fault chained block_message all same lowered same_name among is_doubled is_protected is_protected_doubled names_of has_field value_of values_of name_form field_form field_line_form trailer_form status_form status_line_form head_form ends_head is_whole_head head_with head_of status_digits injection_id injection_time block_size block_key head_key listed_names head_signature signed_of signing_string trusted_by text_rules caller_rules head_fault ends_with lines before_empty text_lines trimmed field_scan is_field_line field_of are_field_lines fields_of status_scan is_status_line status_of number_from is_decimal is_hex_number decimal_within decimal head_place fits first_from found first_broken injection_scan is_injection bsigs_scan is_bsigs sig0_scan is_sig0 split_names are_fields is_name_list separated signed_fields joined_fields signing_line signing_text is_whole show_of head_question accept_head judge_head judge_first_line judge_data_end block_question accept_block judge_next_line all_fields is_claimed judge_end judge_trailer judge rules run past starts_with scan ends_trailer is_whole_trailer is_trailer carries_hash is_extension line_hash is_hash_due first_byte is_within range_of is_partial signed_status is_ranged start_from start_of released_with is_checked
asked_for = refl
