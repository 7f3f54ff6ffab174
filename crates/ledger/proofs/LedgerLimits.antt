-- Request #108's cases as a table, with the numbers of their points: what paper 01's own limits said of a head or a trailer, and what is said
-- now. Each row is about a length or a number of fields, first under paper 01's limits, then by the rules as they are. Assumes nothing.
use mathlib.Core.Bool.{Bool}
use mathlib.Core.List.{List, [], ◌∷◌, ◌++◌}
use mathlib.Core.Path.{◌≡◌, refl}
use Prim.Native.Nat.{ℕ, ◌-◌}
use lib.ListN.{length, replicate, take}
use Rattle.octets.specs.Octets.{octets}
use Rattle.base64_text.specs.Base64.{is_base64, letter_value, holds_three, holds_two, holds_one, joined_letters, base64_bytes}
use Rattle.stream.specs.Bytes.{all, same, lowered, same_name}
use Rattle.stream.specs.Fields.{among, is_doubled, is_protected, is_protected_doubled, names_of, has_field, value_of}
use Rattle.stream.specs.Head.{ends_head, is_whole_head, head_with, head_of, status_digits, injection_time, block_key, head_key, listed_names, trusted_by, text_rules, caller_rules, head_fault, is_partial, is_ranged, signed_status}
use Rattle.stream.specs.Limits.{head_limit}
use Rattle.stream.specs.Lines.{ends_with, lines, before_empty, text_lines, trimmed, field_scan, is_field_line, field_of, are_field_lines, fields_of, status_scan, is_status_line, status_of}
use Rattle.stream.specs.Numbers.{number_from, is_decimal, decimal_within, decimal}
use Rattle.stream.specs.Ring.{fits, first_from, found}
use Rattle.stream.specs.Rule.{first_broken}
use Rattle.stream.specs.Signatures.{injection_scan, is_injection, bsigs_scan, is_bsigs, sig0_scan, is_sig0, split_names, are_fields, is_name_list}
use Rattle.stream.specs.Stream.{nothing, head, trailer}
use Rattle.stream.specs.Template.{run, past, starts_with, scan}
use Rattle.stream.specs.Trailer.{ends_trailer, is_whole_trailer, is_trailer}
use Rattle.stream.proofs.Example.{terms}
use Rattle.kept.specs.OtherLimits.{paper_limits, is_whole_under, text_rules_under, fault_under}
use Rattle.ledger.proofs.Ledger.{Row, row, broken, as_number, as_lines, head_lines, extra_names, extra_lines, long_head, show}

-- a head as far as it is taken: how many bytes that are, whether it is whole a byte before, whether it is whole there, and its refusal, 0 where
-- there is none
abbrev head_told : (List ℕ → Bool) → (List ℕ → ℕ) → List ℕ → List ℕ
head_told whole fault l = length l ∷ as_number (whole (take (length l - 1) l)) ∷ as_number (whole l) ∷ fault l ∷ []

abbrev heads : ℕ → List ℕ
heads n =
    head_told (is_whole_under paper_limits head) (fault_under paper_limits terms) (take paper_limits.bytes (long_head n))
    ++ head_told is_whole_head (head_fault terms) (take head_limit (long_head n))

-- a head of so many fields
abbrev fields : ℕ → List ℕ
fields n = let l = as_lines (head_lines ++ extra_lines (extra_names (n - 8))) in fault_under paper_limits terms l ∷ head_fault terms l ∷ []

-- a trailer of n bytes; the same of it, and whether it is good
abbrev trailer_text : ℕ → List ℕ
trailer_text n = octets "A:" ++ replicate (n - 6) 97 ++ octets "\r\n\r\n"

abbrev trailer_told : (List ℕ → Bool) → List ℕ → List ℕ
trailer_told whole l = length l ∷ as_number (whole (take (length l - 1) l)) ∷ as_number (whole l) ∷ as_number (is_trailer l) ∷ []

abbrev trailers : ℕ → List ℕ
trailers n =
    trailer_told (is_whole_under paper_limits (trailer show nothing 5)) (take paper_limits.bytes (trailer_text n))
    ++ trailer_told is_whole_trailer (take head_limit (trailer_text n))

pub limit_rows : List Row
limit_rows =
    row 1 "a head of 8,192 bytes" (heads 8_192) (8_192 ∷ 0 ∷ 1 ∷ 0 ∷ 8_192 ∷ 0 ∷ 1 ∷ 0 ∷ [])
    ∷ row 1 "a head of 8,193 bytes" (heads 8_193) (8_192 ∷ 0 ∷ 1 ∷ 3 ∷ 8_193 ∷ 0 ∷ 1 ∷ 0 ∷ [])
    ∷ row 1 "a head of 32,768 bytes" (heads 32_768) (8_192 ∷ 0 ∷ 1 ∷ 3 ∷ 32_768 ∷ 0 ∷ 1 ∷ 0 ∷ [])
    ∷ row 1 "a head of 32,769 bytes" (heads 32_769) (8_192 ∷ 0 ∷ 1 ∷ 3 ∷ 32_768 ∷ 0 ∷ 1 ∷ 3 ∷ [])
    ∷ row 8 "64 fields" (fields 64) (0 ∷ 0 ∷ [])
    ∷ row 8 "65 fields" (fields 65) (3 ∷ 0 ∷ [])
    ∷ row 8 "128 fields" (fields 128) (3 ∷ 0 ∷ [])
    ∷ row 8 "129 fields" (fields 129) (3 ∷ 3 ∷ [])
    ∷ row 5 "a trailer of 8,192 bytes" (trailers 8_192) (8_192 ∷ 0 ∷ 1 ∷ 1 ∷ 8_192 ∷ 0 ∷ 1 ∷ 1 ∷ [])
    ∷ row 5 "a trailer of 8,193 bytes" (trailers 8_193) (8_192 ∷ 0 ∷ 1 ∷ 0 ∷ 8_193 ∷ 0 ∷ 1 ∷ 1 ∷ [])
    ∷ row 5 "a trailer of 32,768 bytes" (trailers 32_768) (8_192 ∷ 0 ∷ 1 ∷ 0 ∷ 32_768 ∷ 0 ∷ 1 ∷ 1 ∷ [])
    ∷ row 5 "a trailer of 32,769 bytes" (trailers 32_769) (8_192 ∷ 0 ∷ 1 ∷ 0 ∷ 32_768 ∷ 0 ∷ 1 ∷ 0 ∷ [])
    ∷ []

-- Every row holds.
pub limits_hold : broken 0 limit_rows ≡ []
unfolding limit_rows is_whole_under text_rules_under fault_under is_whole_head head_fault is_whole_trailer is_base64 letter_value holds_three holds_two holds_one joined_letters base64_bytes all same lowered same_name among is_doubled is_protected is_protected_doubled names_of has_field value_of ends_head head_with head_of status_digits injection_time block_key head_key listed_names trusted_by text_rules caller_rules ends_with lines before_empty text_lines trimmed field_scan is_field_line field_of are_field_lines fields_of status_scan is_status_line status_of number_from is_decimal decimal_within decimal fits first_from found first_broken injection_scan is_injection bsigs_scan is_bsigs sig0_scan is_sig0 split_names are_fields is_name_list run past starts_with scan ends_trailer is_trailer is_partial signed_status is_ranged
limits_hold = refl
