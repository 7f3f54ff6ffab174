-- The two SHA-256 that the table of request #101 is given, and document 000's example as it prints it, its trailer with the three fields. Assumes
-- nothing.
use mathlib.Core.Bool.{true}
use mathlib.Core.List.{[], ◌∷◌, ◌++◌}
use mathlib.Core.Path.{◌≡◌, refl}
use Rattle.octets.specs.Octets.{octets}
use Rattle.base64_text.specs.Base64.{is_base64, letter_value, holds_three, holds_two, holds_one, joined_letters, base64_bytes}
use Rattle.hash.specs.Sha2.{big_endian, padding, padded, number, parsed, schedule, round, rounds, sums, compressed, hashed, unparsed, digest}
use Rattle.hash.specs.Sha512.{round_words as round_words512, sha512}
use Rattle.sha256.specs.Sha256.{round_words, sha256}
use Rattle.sections.specs.Reading.{cut, sections, reading_at, reading}
use Rattle.stream.specs.Blocks.{is_whole_line, carries_signature, is_chunk_line, chunk_size, line_signature, line_rules, line_fault, chained, block_message, carries_hash, is_extension, is_hash_due, line_hash}
use Rattle.stream.specs.Bytes.{all, same, lowered, same_name}
use Rattle.stream.specs.Ends.{all_fields, is_claimed, is_digest, digest_bytes, ends_in, same_names, is_end_list, end_rules, end_fault, end_string, is_checked}
use Rattle.stream.specs.Fields.{among, is_doubled, is_protected, is_protected_doubled, names_of, has_field, value_of, values_of}
use Rattle.stream.specs.Head.{ends_head, is_whole_head, head_with, head_of, status_digits, injection_id, injection_time, block_size, block_key, head_key, listed_names, head_signature, signed_of, signing_string, trusted_by, text_rules, caller_rules, head_fault, is_partial, is_ranged, range_of, signed_status}
use Rattle.stream.specs.Lines.{ends_with, lines, before_empty, text_lines, trimmed, field_scan, is_field_line, field_of, are_field_lines, fields_of, status_scan, is_status_line, status_of}
use Rattle.stream.specs.Numbers.{number_from, is_decimal, is_hex_number, decimal_within, decimal}
use Rattle.stream.specs.Range.{first_byte, is_within}
use Rattle.stream.specs.Ring.{fits, first_from, found}
use Rattle.stream.specs.Rule.{first_broken}
use Rattle.stream.specs.Signatures.{injection_scan, is_injection, bsigs_scan, is_bsigs, sig0_scan, is_sig0, split_names, are_fields, is_name_list}
use Rattle.stream.specs.Signing.{separated, signed_fields, joined_fields, signing_line, signing_text}
use Rattle.stream.specs.Stream.{is_whole, show_of, head_question, accept_head, judge_head, judge_first_line, judge_data_end, block_question, accept_block, judge_next_line, end_question, judge_end, judge_trailer, judge, rules, plain_reading, released_with, start_from, start_of}
use Rattle.stream.specs.Template.{run, past, starts_with, scan}
use Rattle.stream.specs.Trailer.{ends_trailer, is_whole_trailer, is_trailer}
use Rattle.stream.proofs.Example.{terms}
use Rattle.ledger.proofs.Ledger.{placed, as_lines, document_head, document_body}
use Rattle.ledger.proofs.LedgerEnds.{body_hash, empty_hash, three}

pub hashes_are : (sha256 (octets "Hello world!") ≡ body_hash) × (sha256 [] ≡ empty_hash)
unfolding sha256 round_words big_endian padding padded number parsed schedule round rounds sums compressed hashed unparsed digest number_from
hashes_are = (refl, refl)

-- "Paper 01's example, with the three, then ends `question 303`, `complete 12`"
pub document_completes : placed (plain_reading terms (document_head ++ document_body ++ as_lines three) (true ∷ true ∷ true ∷ true ∷ true ∷ []) true)
    ≡ (705 ∷ 1 ∷ 219 ∷ 0 ∷ 705 ∷ 2 ∷ 200 ∷ 5 ∷ [])
    ++ (814 ∷ 1 ∷ 83 ∷ 0 ∷ 814 ∷ 3 ∷ 0 ∷ 5 ∷ [])
    ++ (920 ∷ 1 ∷ 83 ∷ 0 ∷ 920 ∷ 3 ∷ 5 ∷ 5 ∷ [])
    ++ (1_023 ∷ 1 ∷ 84 ∷ 0 ∷ 1_023 ∷ 3 ∷ 10 ∷ 2 ∷ 1_459 ∷ 1 ∷ 303 ∷ 0 ∷ 1_459 ∷ 6 ∷ 12 ∷ [])
unfolding sha256 round_words all_fields is_claimed is_digest digest_bytes ends_in same_names is_end_list end_rules end_fault end_string end_question is_base64 letter_value holds_three holds_two holds_one joined_letters base64_bytes cut sections reading_at reading is_whole_line carries_signature is_chunk_line chunk_size line_signature line_rules line_fault chained block_message all same lowered same_name among is_doubled is_protected is_protected_doubled names_of has_field value_of values_of ends_head is_whole_head head_with head_of status_digits injection_id injection_time block_size block_key head_key listed_names head_signature signed_of signing_string trusted_by text_rules caller_rules head_fault ends_with lines before_empty text_lines trimmed field_scan is_field_line field_of are_field_lines fields_of status_scan is_status_line status_of number_from is_decimal is_hex_number decimal_within decimal fits first_from found first_broken injection_scan is_injection bsigs_scan is_bsigs sig0_scan is_sig0 split_names are_fields is_name_list separated signed_fields joined_fields signing_line signing_text is_whole show_of head_question accept_head judge_head judge_first_line judge_data_end block_question accept_block judge_next_line judge_end judge_trailer judge rules plain_reading big_endian padding padded number parsed schedule round rounds sums compressed hashed unparsed digest round_words512 sha512 run past starts_with scan ends_trailer is_whole_trailer is_trailer carries_hash is_extension line_hash is_hash_due first_byte is_within range_of is_partial signed_status is_ranged start_from start_of released_with is_checked
document_completes = refl
