-- The older rules and the new ones on document 000's example, and on the same head with `Date`, a signed field, twice; and that the example's
-- older readings know no refusal 3, and that under the older limits none of 6. Assumes nothing.
use mathlib.Core.Bool.{Bool, true, false, ◌||◌, true≢false}
use mathlib.Core.List.{List, [], ◌∷◌, ◌++◌}
use mathlib.Core.Path.{◌≡◌, refl, sym, ap, ◌∙◌}
use Prim.Native.Nat.{ℕ}
use borrow.Author.Tests.{eq-eqb}
use lib.Dec.{eqb}
use lib.ListN.{replicate}
use Rattle.octets.specs.Octets.{octets}
use Rattle.base64_text.specs.Base64.{is_base64, letter_value, holds_three, holds_two, holds_one, joined_letters, base64_bytes}
use Rattle.hash.specs.Sha2.{big_endian, padding, padded, number, parsed, schedule, round, rounds, sums, compressed, hashed, unparsed, digest}
use Rattle.hash.specs.Sha512.{round_words, sha512}
use Rattle.sections.specs.Reading.{question, message, last, Log, cut, sections, reading_at, reading}
use Rattle.stream.specs.Blocks.{is_whole_line, carries_signature, is_chunk_line, chunk_size, line_signature, line_rules, line_fault, chained, block_message, carries_hash, is_extension, is_hash_due, line_hash}
use Rattle.stream.specs.Bytes.{all, same, lowered, same_name}
use Rattle.stream.specs.Ends.{all_fields, is_claimed, is_checked}
use Rattle.stream.specs.Events.{Question, Release, LastWord, closed, complete, refused}
use Rattle.stream.specs.Fields.{among, is_doubled, is_protected, is_protected_doubled, names_of, has_field, value_of}
use Rattle.stream.specs.Head.{ends_head, is_whole_head, head_with, head_of, status_digits, injection_id, injection_time, block_size, block_key, head_key, listed_names, head_signature, trusted_by, text_rules, caller_rules, head_fault, is_partial, is_ranged, range_of, signed_status}
use Rattle.stream.specs.Lines.{ends_with, lines, before_empty, text_lines, trimmed, field_scan, is_field_line, field_of, are_field_lines, fields_of, status_scan, is_status_line, status_of}
use Rattle.stream.specs.Numbers.{number_from, is_decimal, is_hex_number, decimal_within, decimal}
use Rattle.stream.specs.Range.{first_byte, is_within}
use Rattle.stream.specs.Ring.{fits, first_from, found}
use Rattle.stream.specs.Rule.{first_broken}
use Rattle.stream.specs.Signatures.{injection_scan, is_injection, bsigs_scan, is_bsigs, sig0_scan, is_sig0, split_names, are_fields, is_name_list}
use Rattle.stream.specs.Signing.{separated, signing_line, signing_text}
use Rattle.stream.specs.Stream.{is_whole, show_of, accept_head, judge_first_line, judge_data_end, block_question, accept_block, judge_next_line, judge_end, judge_trailer, judge, rules, released_with, start_from, start_of}
use Rattle.stream.specs.Template.{run, past, starts_with, scan}
use Rattle.stream.specs.Trailer.{ends_trailer, is_whole_trailer, is_trailer}
use Rattle.stream.proofs.Example.{terms, injection, example_head, example_body}
use Rattle.stream.proofs.Example as Written
use Rattle.stream.proofs.Truth.{left_fails, right_fails, or-true}
use Rattle.kept.specs.Kept.{NeverRefused}
use Rattle.kept.specs.Older.{older_rules, older_fault, single_fields, older_signed, older_string, older_question, older_accept, older_head, older_reading}
use Rattle.kept.specs.OtherHeads.{judge_with, reading_with}
use Rattle.kept.specs.OtherLimits.{paper_limits, is_whole_under, text_rules_under, fault_under, judge_head_under, reading_under}

abbrev twice : List ℕ
twice = Written.head_with (injection ++ octets "\r\nDate: Sat") (octets "5")

-- the example was good before; with the field twice it was refused with 3, and is good now
pub example_faults : older_fault terms example_head ∷ older_fault terms twice ∷ head_fault terms twice ∷ [] ≡ 0 ∷ 3 ∷ 0 ∷ []
unfolding is_base64 letter_value holds_three holds_two holds_one joined_letters base64_bytes all same lowered same_name among is_doubled is_protected is_protected_doubled names_of has_field value_of ends_head head_with head_of status_digits injection_time block_size block_key head_key listed_names trusted_by text_rules caller_rules head_fault ends_with lines before_empty text_lines trimmed field_scan is_field_line field_of are_field_lines fields_of status_scan is_status_line status_of number_from is_decimal fits first_from found first_broken injection_scan is_injection bsigs_scan is_bsigs sig0_scan is_sig0 split_names are_fields is_name_list run past starts_with scan older_rules older_fault is_partial signed_status is_ranged
example_faults = refl

-- ---- a reading without a refusal

-- some event is that refusal
unfoldable pub is_refused : ℕ → Log Question Release LastWord → Bool
is_refused n [] = false
is_refused n ((place, question q) ∷ log) = is_refused n log
is_refused n ((place, message e) ∷ log) = is_refused n log
is_refused n ((place, last (closed total)) ∷ log) = is_refused n log
is_refused n ((place, last (complete total)) ∷ log) = is_refused n log
is_refused n ((place, last (refused m at)) ∷ log) = eqb n m || is_refused n log

refused_there : (n place at : ℕ) (before after : Log Question Release LastWord) → is_refused n (before ++ (place, last (refused n at)) ∷ after) ≡ true
unfolding is_refused
refused_there n place at [] after = rw (eq-eqb n n refl)
refused_there n place at ((p, question q) ∷ before) after = refused_there n place at before after
refused_there n place at ((p, message e) ∷ before) after = refused_there n place at before after
refused_there n place at ((p, last (closed total)) ∷ before) after = refused_there n place at before after
refused_there n place at ((p, last (complete total)) ∷ before) after = refused_there n place at before after
refused_there n place at ((p, last (refused m a)) ∷ before) after = rw (refused_there n place at before after) (or-true (eqb n m))

pub never_refused : (n : ℕ) (log : Log Question Release LastWord) → is_refused n log ≡ false → NeverRefused n log
never_refused n log h place at s =
    true≢false (sym (refused_there n place at s.before s.after) ∙ ap (is_refused n) s.joined ∙ h)

abbrev example_reading : Log Question Release LastWord
example_reading = older_reading terms (example_head ++ example_body) (replicate 4 true) true

unrefused : is_refused 3 example_reading ≡ false
unfolding is_base64 letter_value holds_three holds_two holds_one joined_letters base64_bytes cut sections reading_at reading is_whole_line carries_signature is_chunk_line chunk_size line_signature line_rules line_fault chained block_message all same lowered same_name among is_doubled is_protected is_protected_doubled names_of has_field value_of ends_head is_whole_head head_with head_of status_digits injection_id injection_time block_size block_key head_key listed_names head_signature trusted_by text_rules caller_rules head_fault ends_with lines before_empty text_lines trimmed field_scan is_field_line field_of are_field_lines fields_of status_scan is_status_line status_of number_from is_decimal is_hex_number decimal_within decimal fits first_from found first_broken injection_scan is_injection bsigs_scan is_bsigs sig0_scan is_sig0 split_names are_fields is_name_list separated signing_line signing_text is_whole show_of judge_first_line judge_data_end block_question accept_block judge_next_line all_fields is_claimed judge_end judge_trailer judge rules big_endian padding padded number parsed schedule round rounds sums compressed hashed unparsed digest round_words sha512 run past starts_with scan ends_trailer is_whole_trailer is_trailer is_refused older_rules older_fault single_fields older_signed older_string older_question older_accept older_head older_reading judge_with reading_with carries_hash is_extension line_hash is_hash_due first_byte is_within range_of is_partial signed_status is_ranged start_from start_of released_with is_checked
unrefused = refl

-- what is said of readings without refusal 3 is said of this one
pub example_never : NeverRefused 3 example_reading
example_never = never_refused 3 example_reading unrefused

-- ---- under the limits of before request #108

abbrev example_under_paper : Log Question Release LastWord
example_under_paper = reading_under paper_limits terms (example_head ++ example_body) (replicate 4 true) true

unrefused_under_paper : is_refused 3 example_under_paper || is_refused 6 example_under_paper ≡ false
unfolding is_base64 letter_value holds_three holds_two holds_one joined_letters base64_bytes cut sections reading_at reading is_whole_line carries_signature is_chunk_line chunk_size line_signature line_rules line_fault chained block_message all same lowered same_name among is_doubled is_protected is_protected_doubled names_of has_field value_of ends_head is_whole_head head_with head_of status_digits injection_id injection_time block_size block_key head_key listed_names head_signature trusted_by text_rules caller_rules head_fault ends_with lines before_empty text_lines trimmed field_scan is_field_line field_of are_field_lines fields_of status_scan is_status_line status_of number_from is_decimal is_hex_number decimal_within decimal fits first_from found first_broken injection_scan is_injection bsigs_scan is_bsigs sig0_scan is_sig0 split_names are_fields is_name_list separated signing_line signing_text is_whole show_of judge_first_line judge_data_end block_question accept_block judge_next_line all_fields is_claimed judge_end judge_trailer judge rules big_endian padding padded number parsed schedule round rounds sums compressed hashed unparsed digest round_words sha512 run past starts_with scan ends_trailer is_whole_trailer is_trailer is_refused judge_with accept_head is_whole_under text_rules_under fault_under judge_head_under reading_under carries_hash is_extension line_hash is_hash_due first_byte is_within range_of is_partial signed_status is_ranged start_from start_of released_with is_checked
unrefused_under_paper = refl

-- what is said of readings under the older limits without refusals 3 and 6 is said of this one
pub example_under_paper_lem : NeverRefused 3 example_under_paper × NeverRefused 6 example_under_paper
example_under_paper_lem = (
  never_refused 3 example_under_paper (left_fails (is_refused 3 example_under_paper) (is_refused 6 example_under_paper) unrefused_under_paper),
  never_refused 6 example_under_paper (right_fails (is_refused 3 example_under_paper) (is_refused 6 example_under_paper) unrefused_under_paper),
)
