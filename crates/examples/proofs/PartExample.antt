-- Document 000's example of a part answer, `bytes 5-11/12` (request #104): the last two blocks of its show, with the hash of the first. It is an honest
-- part of an honest show, so it comes out whole, with the three fields of an end in its head, which are not looked at. Assumes nothing.
use mathlib.Core.Bool.{Bool, true}
use mathlib.Core.List.{List, [], ◌∷◌, ◌++◌, append-nil}
use mathlib.Core.Path.{◌≡◌, refl, sym, ◌∙◌}
use Prim.Native.Nat.{ℕ, ◌+◌}
use native.Mathlib.Omega.{arith}
use lib.ListN.{length, replicate, length-append}
use Rattle.octets.specs.Octets.{octets}
use Rattle.base64_text.specs.Base64.{is_base64, letter_value, holds_three, holds_two, holds_one, joined_letters, base64_bytes, text_of}
use Rattle.hash.specs.Sha2.{big_endian, padding, padded, number, parsed, schedule, round, rounds, sums, compressed, hashed, unparsed, digest}
use Rattle.hash.specs.Sha512.{sha512, round_words}
use Rattle.hash.proofs.DigestLaws.{length_sha512}
use Rattle.sections.specs.Reading.{cut, cut_at}
use Rattle.stream.specs.Blocks.{chained, block_message}
use Rattle.stream.specs.Bytes.{all, same, lowered, same_name}
use Rattle.stream.specs.Ends.{is_checked}
use Rattle.stream.specs.Fields.{among, is_doubled, is_protected, is_protected_doubled, names_of, has_field, value_of, values_of}
use Rattle.stream.specs.Head.{ends_head, is_whole_head, head_with, head_of, status_digits, is_partial, signed_status, range_of, signing_string, signed_of, injection_id, injection_time, block_size, block_key, head_key, listed_names, trusted_by, is_ranged, text_rules, caller_rules, head_fault}
use Rattle.stream.specs.Lines.{ends_with, lines, before_empty, text_lines, trimmed, field_scan, is_field_line, field_of, are_field_lines, fields_of, status_scan, is_status_line, status_of}
use Rattle.stream.specs.Numbers.{number_from, is_decimal, is_hex_number, decimal_within, decimal}
use Rattle.stream.specs.Range.{part, first_byte, range_scan, range_said, is_aligned, is_content_range}
use Rattle.stream.specs.Ring.{fits, first_from, found}
use Rattle.stream.specs.Rule.{first_broken}
use Rattle.stream.specs.Signatures.{injection_scan, is_injection, bsigs_scan, is_bsigs, sig0_scan, is_sig0, split_names, are_fields, is_name_list}
use Rattle.stream.specs.Signing.{separated, joined_fields, signing_line, signing_text}
use Rattle.stream.specs.Stream.{plain_reading}
use Rattle.stream.specs.Template.{run, past, starts_with, scan}
use Rattle.stream.proofs.Cases.{told, events}
use Rattle.stream.proofs.Example.{key, signature, signed_line, example_head, terms}
use Rattle.exactness.specs.Parts.{chain_of, PartOf, PartWhole}
use Rattle.exactness.specs.ShowEvents.{chunk_asks, chunk_events, show_events}
use Rattle.exactness.specs.Shows.{Sending, body_of, chunks_written, stream_of}
use Rattle.exactness.specs.Telling.{head_asks, head_tells}
use Rattle.exactness.proofs.Parts.{part_whole}
use Rattle.examples.proofs.ClaimedExample.{end_fields}
use Rattle.examples.proofs.Example.{computed_head, computed_trailer, chunk, chunks, show_between, no_fields, trailer_cut, trailer_is, size_five, range_whole, example, example_honest}

-- ---- its head

abbrev pub part_head : List ℕ
part_head =
    octets "HTTP/1.1 206 Partial Content\r\nX-Ouinet-Version: 4\r\nX-Ouinet-URI: https://example.com/hello\r\nX-Ouinet-Injection: id=qwertyuiop-12345,ts=1584748800\r\nDate: Sat, 21 Mar 2020 00:00:00 GMT\r\nContent-Type: text/plain\r\nX-Ouinet-Sig0: keyId=\"ed25519="
    ++ (key
    ++ (octets
    "\",algorithm=\"hs2019\",created=1584748800, headers=\"(response-status) (created) x-ouinet-version x-ouinet-uri x-ouinet-injection date content-type\",signature=\""
    ++ (signature
    ++ (octets "\"\r\nX-Ouinet-BSigs: keyId=\"ed25519="
    ++ (key
    ++ (octets "\",algorithm=\"hs2019\",size=5\r\n"
    ++ (end_fields ++ octets "Transfer-Encoding: chunked\r\nContent-Range: bytes 5-11/12\r\nX-Ouinet-HTTP-Status: 200\r\n\r\n")))))))

head_cut : cut is_whole_head part_head ≡ cut_at part_head []
unfolding cut is_whole_head ends_head ends_with same
head_cut = refl

head_faultless : head_fault terms part_head ≡ 0
unfolding is_base64 letter_value holds_three holds_two holds_one joined_letters base64_bytes all same lowered same_name among is_doubled is_protected is_protected_doubled names_of has_field value_of values_of ends_head head_with head_of status_digits is_partial signed_status injection_time block_size block_key head_key listed_names trusted_by is_ranged range_scan range_said is_aligned is_content_range text_rules caller_rules head_fault ends_with lines before_empty text_lines trimmed field_scan is_field_line field_of are_field_lines fields_of status_scan is_status_line status_of number_from is_decimal fits first_from found first_broken injection_scan is_injection bsigs_scan is_bsigs sig0_scan is_sig0 split_names are_fields is_name_list run past starts_with scan
head_faultless = refl

-- the id, N and the key's record are those of the whole show
same_id : injection_id (head_of part_head) ≡ injection_id (head_of example_head)
unfolding head_with head_of injection_id lines before_empty text_lines trimmed field_scan field_of fields_of value_of same_name lowered same bsigs_scan injection_scan sig0_scan run past starts_with scan
same_id = refl

same_size : block_size (head_of part_head) ≡ 5
unfolding head_with head_of block_size number_from lines before_empty text_lines trimmed field_scan field_of fields_of value_of same_name lowered same bsigs_scan injection_scan sig0_scan run past starts_with scan
same_size = refl

same_key : trusted_by terms.ring (head_of part_head) ≡ trusted_by terms.ring (head_of example_head)
unfolding is_base64 letter_value holds_three holds_two holds_one joined_letters base64_bytes head_with head_of injection_time head_key trusted_by fits first_from found number_from lines before_empty text_lines trimmed field_scan field_of fields_of value_of same_name lowered same bsigs_scan injection_scan sig0_scan run past starts_with scan
same_key = refl

sent_range : range_of (head_of part_head) ≡ part 5 11 12
unfolding head_with head_of status_digits is_partial range_of range_scan range_said number_from lines before_empty text_lines trimmed field_scan field_of fields_of value_of same_name lowered same status_scan status_of run past starts_with scan
sent_range = refl

-- ---- its blocks

-- the `ouihash` that document 000 prints
abbrev hello_text : List ℕ
hello_text = octets "NhX4DJ0pPtdAJof5SyLVjlKbjMeRb4+sf933+9WvTPd309eVp6AKFr9+fz+5Vh7puq5IDan+ehh2nnGIawPzFQ=="

-- is the hash of the block before
hello_hash : base64_bytes 64 hello_text ≡ chained [] (octets "Hello")
unfolding base64_bytes joined_letters letter_value chained sha512 round_words digest padded padding big_endian number parsed schedule round rounds sums compressed hashed unparsed
hello_hash = refl

unfoldable pub part_show : Sending
part_show =
    record {
      head = part_head;
      before = base64_bytes 64 hello_text;
      chunks = chunk (octets "5") (octets " worl") ∷ chunk (octets "2") (octets "d!") ∷ [];
      zeros = octets "0";
      trailer = no_fields;
    }

-- it is written as the document has it
abbrev pub part_body : List ℕ
part_body =
    octets "5;ouihash="
    ++ (hello_text
    ++ (octets "\r\n worl\r\n" ++ (signed_line (octets "2") ++ (octets "d!\r\n" ++ (signed_line (octets "0") ++ octets "\r\n")))))

stream_is : stream_of part_show ≡ part_head ++ part_body
unfolding part_show chunk chunks_written text_of base64_bytes joined_letters letter_value
stream_is = refl

-- ---- the part

pub part_of : PartOf terms example part_show
unfolding part_show example show_between chunks chunk body_of chain_of is_hex_number all number_from
part_of =
    record {
      all_sent = range_whole;
      head = computed_head part_head head_cut head_faultless;
      same_id = same_id;
      same_size = same_size ∙ sym size_five;
      same_key = rw same_key;
      earlier = chunk (octets "5") (octets "Hello") ∷ [];
      later = [];
      run = refl;
      last_byte = 11;
      range = sent_range;
      sent = refl;
      before = hello_hash;
      zeros = record { text = refl; value = refl };
      trailer = computed_trailer no_fields trailer_cut trailer_is;
    }

pub part_comes_out : PartWhole terms example part_show part_of
part_comes_out = part_whole terms example part_show example_honest part_of

pub part_read_lem : (told : Bool) → plain_reading terms (part_head ++ part_body) (replicate 3 true) told ≡ show_events terms.ring part_show
unfolding part_show
part_read_lem told = rw (← stream_is) (rw (append-nil (stream_of part_show)) at (part_comes_out.read [] [] told))

-- ---- its events, line by line

-- a block's message, whatever its hash
message_size : (id : List ℕ) (o : ℕ) (before b : List ℕ) → length (block_message id o (chained before b)) ≡ length id + length (decimal o) + 66
unfolding block_message chained
message_size id o before b = simp length-append (omega (arith, length_sha512 (before ++ b)))

-- "`bytes 5-11/12` .. ends `closed 7`": question 219, head 206, question 83, block 5 5, question 84, block 10 2, closed 7
pub part_events : events (show_events terms.ring part_show)
    ≡ 1 ∷ 219 ∷ 2 ∷ 206 ∷ 1 ∷ 83 ∷ 3 ∷ 5 ∷ 5 ∷ 1 ∷ 84 ∷ 3 ∷ 10 ∷ 2 ∷ 4 ∷ 7 ∷ []
unfolding events told show_events chunk_events head_asks head_tells chunk_asks is_checked first_byte part_show chunk body_of signed_status signing_string separated joined_fields signing_line signing_text signed_of decimal decimal_within injection_id block_size head_with head_of status_digits is_partial range_of range_scan range_said listed_names number_from lines before_empty text_lines trimmed field_scan field_of fields_of value_of values_of same_name lowered same status_scan status_of injection_scan bsigs_scan sig0_scan split_names run past starts_with scan
part_events = simp message_size
