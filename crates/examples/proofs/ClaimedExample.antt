-- Document 000's example with the trailer that it has there, `Digest`, `X-Ouinet-Data-Size` and `X-Ouinet-Sig1` (request #101): an honest show with
-- an end that is claimed and right: the SHA-256 of its body is what document 000 says. Assumes nothing.
use mathlib.Core.Bool.{Bool, true}
use mathlib.Core.List.{List, [], ◌∷◌, ◌++◌}
use mathlib.Core.Path.{◌≡◌, refl}
use Prim.Native.Nat.{ℕ}
use lib.ListN.{length, replicate}
use Rattle.octets.specs.Octets.{octets}
use Rattle.base64_text.specs.Base64.{is_base64, letter_value, holds_three, holds_two, holds_one, joined_letters, base64_bytes}
use Rattle.sections.specs.Reading.{cut, cut_at}
use Rattle.hash.specs.Sha2.{big_endian, padding, padded, number, parsed, schedule, round, rounds, sums, compressed, hashed, unparsed, digest}
use Rattle.sha256.specs.Sha256.{sha256, round_words}
use Rattle.stream.specs.Bytes.{all, same, lowered, same_name}
use Rattle.stream.specs.Ends.{all_fields, is_claimed, is_checked, is_digest, digest_bytes, ends_in, same_names, is_end_list, end_rules, end_fault, end_string}
use Rattle.stream.specs.Fields.{among, names_of, has_field, value_of, values_of}
use Rattle.stream.specs.Head.{head_with, head_of, status_digits, head_key, listed_names}
use Rattle.stream.specs.Lines.{ends_with, lines, before_empty, text_lines, trimmed, field_scan, is_field_line, field_of, are_field_lines, fields_of, status_scan, status_of}
use Rattle.stream.specs.Numbers.{number_from, is_decimal}
use Rattle.stream.specs.Rule.{first_broken}
use Rattle.stream.specs.Signatures.{injection_scan, bsigs_scan, sig0_scan, is_sig0, split_names}
use Rattle.stream.specs.Signing.{separated, joined_fields, signing_line, signing_text}
use Rattle.stream.specs.Stream.{plain_reading}
use Rattle.stream.specs.Template.{run, past, starts_with, scan}
use Rattle.stream.specs.Trailer.{ends_trailer, is_whole_trailer, is_trailer}
use Rattle.stream.proofs.Example.{key, signature, example_head, terms}
use Rattle.exactness.specs.Good.{claims, GoodClaim, well_claimed}
use Rattle.exactness.specs.ShowEvents.{show_events}
use Rattle.exactness.specs.Shows.{Sending, stream_of, Honest}
use Rattle.exactness.specs.Telling.{end_asks, released}
use Rattle.exactness.proofs.Faults.{faultless_claim}
use Rattle.examples.proofs.Example.{show_between, computed_head, computed_trailer, honest_between, yeses_between, honest_whole, body_between, head_cut, head_faultless, size_five, range_whole}

-- ---- its trailer

-- the three fields
abbrev pub end_fields : List ℕ
end_fields =
    octets "Digest: SHA-256=wFNeS+K3n/2TKRMFQ2v4iTFOSj+uwF7P/Lt98xrZ5Ro=\r\nX-Ouinet-Data-Size: 12\r\nX-Ouinet-Sig1: keyId=\"ed25519="
    ++ (key
    ++ (octets
    "\",algorithm=\"hs2019\",created=1584748800, headers=\"(response-status) (created) x-ouinet-version x-ouinet-uri x-ouinet-injection date content-type digest x-ouinet-data-size\",signature=\""
    ++ (signature ++ octets "\"\r\n")))

abbrev pub trailer : List ℕ
trailer = end_fields ++ octets "\r\n"

trailer_cut : cut is_whole_trailer trailer ≡ cut_at trailer []
unfolding cut is_whole_trailer ends_trailer ends_with same
trailer_cut = refl

trailer_is : is_trailer trailer ≡ true
unfolding is_trailer ends_trailer ends_with same all are_field_lines is_field_line text_lines before_empty lines field_scan run past starts_with scan
trailer_is = refl

-- ---- its end

-- the 32 bytes of the digest
abbrev pub body_hash : List ℕ
body_hash =
    0xc0 ∷ 0x53 ∷ 0x5e ∷ 0x4b ∷ 0xe2 ∷ 0xb7 ∷ 0x9f ∷ 0xfd ∷ 0x93 ∷ 0x29 ∷ 0x13 ∷ 0x05 ∷ 0x43 ∷ 0x6b ∷ 0xf8 ∷ 0x89
    ∷ 0x31 ∷ 0x4e ∷ 0x4a ∷ 0x3f ∷ 0xae ∷ 0xc0 ∷ 0x5e ∷ 0xcf ∷ 0xfc ∷ 0xbb ∷ 0x7d ∷ 0xf3 ∷ 0x1a ∷ 0xd9 ∷ 0xe5 ∷ 0x1a ∷ []

body_hash_lem : sha256 (octets "Hello world!") ≡ body_hash
unfolding sha256 round_words digest padded padding big_endian number parsed schedule round rounds sums compressed hashed unparsed
body_hash_lem = refl

all_claimed : claims (head_of example_head) trailer ≡ true
unfolding all_fields is_checked is_claimed head_with head_of lines before_empty text_lines trimmed field_scan field_of fields_of names_of has_field among same_name lowered same run past starts_with scan
all_claimed = rw range_whole

end_faultless : end_fault (head_of example_head) (all_fields (head_of example_head) trailer) 12 body_hash ≡ 0
unfolding is_base64 letter_value holds_three holds_two holds_one joined_letters base64_bytes all same lowered same_name all_fields is_digest digest_bytes ends_in same_names is_end_list end_rules end_fault among value_of values_of head_with head_of head_key listed_names lines before_empty text_lines trimmed field_scan field_of fields_of status_scan status_of number_from is_decimal first_broken injection_scan bsigs_scan sig0_scan is_sig0 split_names run past starts_with scan
end_faultless = refl

-- "Paper 01's example, with the three, then ends `question 303`"
pub end_question : length (end_asks terms.ring (head_of example_head) trailer).message ≡ 303
unfolding end_asks ends_in end_string all_fields same lowered same_name value_of values_of head_with head_of status_digits listed_names lines before_empty text_lines trimmed field_scan field_of fields_of status_scan status_of injection_scan bsigs_scan sig0_scan split_names separated joined_fields signing_line signing_text run past starts_with scan
end_question = refl

-- ---- the show

pub claimed : Sending
claimed = show_between example_head trailer

abbrev pub claimed_stream : List ℕ
claimed_stream = stream_of claimed

good_claim : GoodClaim (head_of example_head) (octets "Hello world!") trailer
good_claim = faultless_claim (head_of example_head) (octets "Hello world!") trailer all_claimed (rw body_hash_lem end_faultless)

pub claimed_honest : Honest terms claimed
unfolding claimed
claimed_honest =
    honest_between example_head trailer (computed_head example_head head_cut head_faultless) size_five range_whole (computed_trailer trailer trailer_cut trailer_is)
    (well_claimed good_claim)

-- with five yeses it comes out whole
pub claimed_whole : (told : Bool) → plain_reading terms claimed_stream (replicate 5 true) told ≡ show_events terms.ring claimed
unfolding claimed
claimed_whole told = honest_whole claimed claimed_stream 5 claimed_honest refl (yeses_between example_head trailer true all_claimed) told

pub claimed_body : released (show_events terms.ring claimed) ≡ octets "Hello world!"
unfolding claimed
claimed_body = body_between example_head trailer claimed_honest
