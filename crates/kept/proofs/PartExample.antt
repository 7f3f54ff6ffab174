-- Document 000's example under the rules of before request #104: its whole show was refused neither with 4 nor with 6, its part answer with 4, and a
-- first line with `ouihash` with 6. Assumes nothing.
use mathlib.Core.Bool.{true, false, ◌||◌}
use mathlib.Core.List.{List, [], ◌∷◌, ◌++◌}
use mathlib.Core.Path.{◌≡◌, refl}
use Prim.Native.Nat.{ℕ}
use lib.ListN.{replicate, drop}
use Rattle.octets.specs.Octets.{octets}
use Rattle.base64_text.specs.Base64.{is_base64, letter_value, holds_three, holds_two, holds_one, joined_letters, base64_bytes}
use Rattle.sections.specs.Reading.{Log, cut, sections, reading_at, reading}
use Rattle.stream.specs.Blocks.{is_whole_line, carries_signature, carries_hash, is_extension, is_chunk_line, chunk_size, is_hash_due, line_rules, line_fault}
use Rattle.stream.specs.Bytes.{all, same, lowered, same_name}
use Rattle.stream.specs.Ends.{all_fields, is_claimed}
use Rattle.stream.specs.Events.{Question, Release, LastWord}
use Rattle.stream.specs.Fields.{among, is_doubled, is_protected, is_protected_doubled, names_of, has_field, value_of, values_of}
use Rattle.stream.specs.Head.{ends_head, is_whole_head, head_with, head_of, status_digits, is_partial, signed_status, injection_time, block_size, block_key, head_key, listed_names, trusted_by, is_ranged, text_rules, caller_rules, head_fault}
use Rattle.stream.specs.Lines.{ends_with, lines, before_empty, text_lines, trimmed, field_scan, is_field_line, field_of, are_field_lines, fields_of, status_scan, is_status_line, status_of}
use Rattle.stream.specs.Numbers.{number_from, is_decimal, is_hex_number}
use Rattle.stream.specs.Range.{whole, first_byte, is_within, range_scan, range_said, is_aligned, is_content_range}
use Rattle.stream.specs.Ring.{fits, first_from, found}
use Rattle.stream.specs.Rule.{first_broken}
use Rattle.stream.specs.Signatures.{injection_scan, is_injection, bsigs_scan, is_bsigs, sig0_scan, is_sig0, split_names, are_fields, is_name_list}
use Rattle.stream.specs.Stream.{is_whole, show_of, judge_data_end}
use Rattle.stream.specs.Template.{run, past, starts_with, scan}
use Rattle.stream.specs.Trailer.{ends_trailer, is_whole_trailer, is_trailer}
use Rattle.stream.proofs.Example.{terms, signature, example_head, example_body}
use Rattle.stream.proofs.Truth.{left_fails, right_fails}
use Rattle.kept.specs.Kept.{NeverRefused}
use Rattle.kept.specs.WholeOnly.{whole_only_rules, whole_only_fault, whole_only_accept, whole_only_head, carries_any, is_signed, is_whole_only_line, whole_only_line_rules, whole_only_line_fault, whole_only_first, whole_only_block, whole_only_next, whole_only_end, whole_only_trailer, judge_whole_only, whole_only_reading}
use Rattle.kept.proofs.Example.{is_refused, never_refused}

-- the example's head as that of an answer with the second half: another status line, and the two fields after it
abbrev part_head : List ℕ
part_head = octets "HTTP/1.1 206 Partial Content\r\nContent-Range: bytes 5-11/12\r\nX-Ouinet-HTTP-Status: 200\r\n" ++ drop 17 example_head

abbrev hash_line : List ℕ
hash_line = octets "5;ouihash=" ++ (signature ++ octets "\r\n")

pub part_faults : whole_only_fault terms example_head ∷ whole_only_fault terms part_head ∷ head_fault terms part_head ∷ [] ≡ 0 ∷ 4 ∷ 0 ∷ []
unfolding is_base64 letter_value holds_three holds_two holds_one joined_letters base64_bytes all same lowered same_name among is_doubled is_protected is_protected_doubled names_of has_field value_of values_of ends_head head_with head_of status_digits is_partial signed_status injection_time block_size block_key head_key listed_names trusted_by is_ranged text_rules caller_rules head_fault ends_with lines before_empty text_lines trimmed field_scan is_field_line field_of are_field_lines fields_of status_scan is_status_line status_of number_from is_decimal range_scan range_said is_aligned is_content_range fits first_from found first_broken injection_scan is_injection bsigs_scan is_bsigs sig0_scan is_sig0 split_names are_fields is_name_list run past starts_with scan whole_only_rules whole_only_fault
part_faults = refl

pub hash_faults : whole_only_line_fault 5 false true 0 hash_line ∷ line_fault 5 whole false true 0 hash_line ∷ [] ≡ 6 ∷ 8 ∷ []
unfolding is_base64 letter_value holds_three holds_two holds_one all same ends_with number_from is_hex_number first_broken run past starts_with chunk_size carries_signature carries_hash is_extension is_chunk_line is_hash_due line_rules line_fault first_byte is_within carries_any is_signed is_whole_only_line whole_only_line_rules whole_only_line_fault
hash_faults = refl

abbrev example_whole_only : Log Question Release LastWord
example_whole_only = whole_only_reading terms (example_head ++ example_body) (replicate 4 true) true

unrefused : is_refused 4 example_whole_only || is_refused 6 example_whole_only ≡ false
unfolding is_base64 letter_value holds_three holds_two holds_one joined_letters base64_bytes all same lowered same_name among is_doubled is_protected is_protected_doubled names_of has_field value_of values_of ends_head head_with head_of status_digits is_partial signed_status injection_time block_size block_key head_key listed_names trusted_by is_ranged text_rules caller_rules head_fault ends_with lines before_empty text_lines trimmed field_scan is_field_line field_of are_field_lines fields_of status_scan is_status_line status_of number_from is_decimal range_scan range_said is_aligned is_content_range fits first_from found first_broken injection_scan is_injection bsigs_scan is_bsigs sig0_scan is_sig0 split_names are_fields is_name_list run past starts_with scan whole_only_rules whole_only_fault cut sections reading_at reading is_whole_line chunk_size is_whole_head is_hex_number all_fields is_claimed is_whole show_of judge_data_end ends_trailer is_whole_trailer is_trailer is_refused whole_only_accept whole_only_head carries_any is_signed is_whole_only_line whole_only_line_rules whole_only_line_fault whole_only_first whole_only_block whole_only_next whole_only_end whole_only_trailer judge_whole_only whole_only_reading
unrefused = refl

-- what is said of readings without refusals 4 and 6 is said of this one
pub example_whole_only_lem : NeverRefused 4 example_whole_only × NeverRefused 6 example_whole_only
example_whole_only_lem = (
  never_refused 4 example_whole_only (left_fails (is_refused 4 example_whole_only) (is_refused 6 example_whole_only) unrefused),
  never_refused 6 example_whole_only (right_fails (is_refused 4 example_whole_only) (is_refused 6 example_whole_only) unrefused),
)
