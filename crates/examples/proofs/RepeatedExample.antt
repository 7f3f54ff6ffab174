-- The example with signed fields that are there twice (request #102) is an honest show: so it comes out whole. Assumes nothing.
use mathlib.Core.Bool.{Bool, true, false}
use mathlib.Core.List.{List, [], ◌++◌}
use mathlib.Core.Path.{◌≡◌, refl}
use Prim.Native.Nat.{ℕ}
use lib.ListN.{replicate}
use Rattle.octets.specs.Octets.{octets}
use Rattle.base64_text.specs.Base64.{is_base64, letter_value, holds_three, holds_two, holds_one, joined_letters, base64_bytes}
use Rattle.sections.specs.Reading.{cut, cut_at}
use Rattle.stream.specs.Bytes.{all, same, lowered, same_name}
use Rattle.stream.specs.Ends.{all_fields, is_claimed, is_checked}
use Rattle.stream.specs.Fields.{among, is_doubled, is_protected, is_protected_doubled, names_of, has_field, value_of}
use Rattle.stream.specs.Head.{ends_head, is_whole_head, head_with, head_of, status_digits, is_partial, signed_status, range_of, injection_time, block_size, block_key, head_key, listed_names, trusted_by, is_ranged, text_rules, caller_rules, head_fault}
use Rattle.stream.specs.Lines.{ends_with, lines, before_empty, text_lines, trimmed, field_scan, is_field_line, field_of, are_field_lines, fields_of, status_scan, is_status_line, status_of}
use Rattle.stream.specs.Numbers.{number_from, is_decimal}
use Rattle.stream.specs.Range.{whole}
use Rattle.stream.specs.Ring.{fits, first_from, found}
use Rattle.stream.specs.Rule.{first_broken}
use Rattle.stream.specs.Signatures.{injection_scan, is_injection, bsigs_scan, is_bsigs, sig0_scan, is_sig0, split_names, are_fields, is_name_list}
use Rattle.stream.specs.Stream.{plain_reading}
use Rattle.stream.specs.Template.{run, past, starts_with, scan}
use Rattle.stream.specs.Terms.{Terms}
use Rattle.stream.proofs.Cases.{events, events_from}
use Rattle.stream.proofs.Example.{terms, example_body}
use Rattle.stream.proofs.GivenHeads.{given_head}
use Rattle.stream.proofs.RepeatCases.{with_fields, signing, repeated_head}
use Rattle.exactness.specs.Good.{claims}
use Rattle.exactness.specs.ShowEvents.{show_events}
use Rattle.exactness.specs.Shows.{Honest}
use Rattle.exactness.specs.Telling.{released}
use Rattle.examples.proofs.Example.{computed_head, no_fields, show_after, honest_after, whole_after, body_between}

head_cut : cut is_whole_head repeated_head ≡ cut_at repeated_head []
unfolding cut is_whole_head ends_head ends_with same with_fields signing repeated_head starts_with
head_cut = refl

pub repeated_given : (t : Terms) (rest : List ℕ) (answers : List Bool)
    → events_from t repeated_head rest answers ≡ events (plain_reading t (repeated_head ++ rest) answers false)
repeated_given t rest answers = given_head t repeated_head rest answers head_cut

head_faultless : head_fault terms repeated_head ≡ 0
unfolding is_base64 letter_value holds_three holds_two holds_one joined_letters base64_bytes all same lowered same_name among is_doubled is_protected is_protected_doubled names_of has_field value_of ends_head head_with head_of status_digits is_partial signed_status injection_time block_size block_key head_key listed_names trusted_by is_ranged text_rules caller_rules head_fault ends_with lines before_empty text_lines trimmed field_scan is_field_line field_of are_field_lines fields_of status_scan is_status_line status_of number_from is_decimal fits first_from found first_broken injection_scan is_injection bsigs_scan is_bsigs sig0_scan is_sig0 split_names are_fields is_name_list run past starts_with scan with_fields signing repeated_head
head_faultless = refl

size_five : block_size (head_of repeated_head) ≡ 5
unfolding head_with head_of block_size number_from lines before_empty text_lines trimmed field_scan field_of fields_of value_of same_name lowered same bsigs_scan injection_scan sig0_scan run past starts_with scan with_fields signing repeated_head
size_five = refl

range_whole : range_of (head_of repeated_head) ≡ whole
unfolding head_with head_of status_digits is_partial range_of lines before_empty text_lines same status_scan status_of run past starts_with scan with_fields signing repeated_head
range_whole = refl

none_claimed : claims (head_of repeated_head) no_fields ≡ false
unfolding all_fields is_checked is_claimed head_with head_of lines before_empty text_lines trimmed field_scan field_of fields_of names_of has_field among same_name lowered same run past starts_with scan with_fields signing repeated_head
none_claimed = rw range_whole

pub repeated_honest : Honest terms (show_after repeated_head)
repeated_honest = honest_after repeated_head (computed_head repeated_head head_cut head_faultless) size_five range_whole none_claimed

pub repeated_whole : (told : Bool) → plain_reading terms (repeated_head ++ example_body) (replicate 4 true) told ≡ show_events terms.ring (show_after repeated_head)
repeated_whole told = whole_after repeated_head repeated_honest none_claimed told

pub repeated_body : released (show_events terms.ring (show_after repeated_head)) ≡ octets "Hello world!"
repeated_body = body_between repeated_head no_fields repeated_honest
