-- Request #101's cases as a table, with the numbers that the tests of the second reader have in their names (rust/second/tests/ends.rs): what
-- the end of a show says, by the lines of its head and of its trailer. The rules of the end are given the length of the body and its SHA-256,
-- so that no row computes one: that the two hashes here are those of `Hello world!` and of nothing is said in LedgerDigests. The dues were
-- written from the request, not from the definitions. Assumes nothing.
use mathlib.Core.Bool.{true, false}
use mathlib.Core.List.{List, [], ◌∷◌, ◌++◌}
use mathlib.Core.Path.{◌≡◌, refl}
use Prim.Native.Nat.{ℕ}
use Prim.Native.String.{String}
use lib.ListN.{length, replicate}
use Rattle.octets.specs.Octets.{octets}
use Rattle.base64_text.specs.Base64.{is_base64, letter_value, holds_three, holds_two, holds_one, joined_letters, base64_bytes}
use Rattle.hash.specs.Sha2.{big_endian, padding, padded, number, parsed, schedule, round, rounds, sums, compressed, hashed, unparsed, digest}
use Rattle.hash.specs.Sha512.{round_words, sha512}
use Rattle.sections.specs.Reading.{question, last, go, tell, ask, stop, granted, final, judged, cut, sections, reading_at, reading}
use Rattle.stream.specs.Blocks.{is_whole_line, carries_signature, is_chunk_line, chunk_size, line_signature, line_rules, line_fault, chained, block_message, carries_hash, is_extension, is_hash_due, line_hash}
use Rattle.stream.specs.Buffers.{with_section, pending, with_last_word}
use Rattle.stream.specs.Bytes.{all, same, lowered, same_name}
use Rattle.stream.specs.Ends.{all_fields, is_claimed, is_digest, digest_bytes, ends_in, same_names, is_end_list, end_rules, end_fault, end_string, is_checked}
use Rattle.stream.specs.Events.{LastWord, closed, complete, refused}
use Rattle.stream.specs.Fields.{among, is_doubled, is_protected, is_protected_doubled, names_of, has_field, value_of, values_of}
use Rattle.stream.specs.Head.{Head, ends_head, is_whole_head, head_with, head_of, status_digits, injection_id, injection_time, block_size, block_key, head_key, listed_names, head_signature, signed_of, signing_string, trusted_by, text_rules, caller_rules, head_fault, is_partial, is_ranged, range_of, signed_status}
use Rattle.stream.specs.Lines.{ends_with, lines, before_empty, text_lines, trimmed, field_scan, is_field_line, field_of, are_field_lines, fields_of, status_scan, is_status_line, status_of}
use Rattle.stream.specs.Numbers.{number_from, is_decimal, is_hex_number, decimal_within, decimal}
use Rattle.stream.specs.Range.{first_byte, is_within}
use Rattle.stream.specs.Ring.{Ring, fits, first_from, found}
use Rattle.stream.specs.Rule.{first_broken}
use Rattle.stream.specs.Signatures.{injection_scan, is_injection, bsigs_scan, is_bsigs, sig0_scan, is_sig0, split_names, are_fields, is_name_list}
use Rattle.stream.specs.Signing.{separated, signed_fields, joined_fields, signing_line, signing_text}
use Rattle.stream.specs.Stream.{Past, nothing, after, trailer, is_whole, Says, show_of, head_question, accept_head, judge_head, judge_first_line, judge_data_end, block_question, accept_block, judge_next_line, end_question, judge_end, judge_trailer, judge, rules, plain_reading, released_with, start_from, start_of}
use Rattle.stream.specs.Template.{run, past, starts_with, scan}
use Rattle.stream.specs.Trailer.{ends_trailer, is_whole_trailer, is_trailer}
use Rattle.stream.proofs.Example.{key, signature, terms}
use Rattle.ledger.proofs.Ledger.{Row, row, broken, as_number, told, placed, as_lines, key_is, sig0, middle, names, head_lines, sig0s, put, extra_names, extra_text, listing, show, hello, signed, hex_bytes}

-- ---- what is given and what is said

-- the SHA-256 of `Hello world!`, and of nothing
abbrev pub body_hash : List ℕ
body_hash = hex_bytes (octets "c0535e4be2b79ffd93291305436bf889314e4a3faec05ecffcbb7df31ad9e51a")

abbrev pub empty_hash : List ℕ
empty_hash = hex_bytes (octets "e3b0c44298fc1c149afbf4c8996fb92427ae41e4649b934ca495991b7852b855")

-- *closed* or a refusal; or a question, with its length and its record, and the last word that a yes gives
abbrev said : Says → List ℕ
said (go c) = []
said (tell e c) = []
said (ask q (granted e c)) = []
said (ask q (final l)) = told (question q) ++ told (last l)
said (stop l) = told (last l)

-- of a head, with this ring, and of the lines of a trailer; the body has `total` bytes and the hash
abbrev said_by : Ring → ℕ → List ℕ → Head → List (List ℕ) → List ℕ
said_by ring total hash h ts = said (judge_end (show_of ring h) total hash (all_fields h (as_lines ts)))

-- of document 000's body
abbrev ended : Head → List (List ℕ) → List ℕ
ended h ts = said_by terms.ring 12 body_hash h ts

abbrev each_ended : Head → List (List (List ℕ)) → List ℕ
each_ended h [] = []
each_ended h (ts ∷ tss) = ended h ts ++ each_ended h tss

-- of the whole trailer, with its text
abbrev trailer_says : Head → List (List ℕ) → List ℕ
trailer_says h ts = said (judge_trailer (show_of terms.ring h) nothing 12 (as_lines ts))

-- the message of the question
abbrev message_of : Head → List (List ℕ) → List ℕ
message_of h ts = (end_question (show_of terms.ring h) (all_fields h (as_lines ts))).message

-- ---- the three fields

abbrev digest_line : String → List ℕ
digest_line s = octets "Digest: " ++ octets s

abbrev good_digest : List ℕ
good_digest = digest_line "SHA-256=wFNeS+K3n/2TKRMFQ2v4iTFOSj+uwF7P/Lt98xrZ5Ro="

abbrev empty_digest : List ℕ
empty_digest = digest_line "SHA-256=47DEQpj8HBSa+/TImW+5JCeuQeRkm5NMpJWZG3hSuFU="

abbrev size_line : String → List ℕ
size_line s = octets "X-Ouinet-Data-Size: " ++ octets s

abbrev sig1 : List ℕ → List ℕ → List ℕ → List ℕ → List ℕ
sig1 k between list sig =
    octets "X-Ouinet-Sig1: "
    ++ (key_is k ++ (between ++ (octets "headers=\"" ++ (list ++ (octets "\",signature=\"" ++ (sig ++ octets "\""))))))

-- with this list after the names of Sig0
abbrev listing1 : String → List ℕ
listing1 s = sig1 key middle (names ++ octets s) signature

abbrev good_sig1 : List ℕ
good_sig1 = listing1 " digest x-Ouinet-data-size"

-- by another key
abbrev other_sig1 : List ℕ
other_sig1 = sig1 (replicate 42 65 ++ octets "E=") middle (names ++ octets " digest x-Ouinet-data-size") signature

abbrev pub three : List (List ℕ)
three = good_digest ∷ size_line "12" ∷ good_sig1 ∷ []

-- the three, with another digest, another size or another list
abbrev digests : List String → List (List (List ℕ))
digests [] = []
digests (s ∷ ss) = (digest_line s ∷ size_line "12" ∷ good_sig1 ∷ []) ∷ digests ss

abbrev sizes : List String → List (List (List ℕ))
sizes [] = []
sizes (s ∷ ss) = (good_digest ∷ size_line s ∷ good_sig1 ∷ []) ∷ sizes ss

abbrev lists : List String → List (List (List ℕ))
lists [] = []
lists (s ∷ ss) = (good_digest ∷ size_line "12" ∷ sig1 key middle (octets s) signature ∷ []) ∷ lists ss

-- or another text between the key and the list of Sig1
abbrev betweens : List String → List (List (List ℕ))
betweens [] = []
betweens (s ∷ ss) = (good_digest ∷ size_line "12" ∷ sig1 key (octets s) (names ++ octets " digest x-Ouinet-data-size") signature ∷ []) ∷ betweens ss

-- ---- heads

abbrev with_lines : List (List ℕ) → Head
with_lines ls = head_of (as_lines (head_lines ++ ls))

-- whose Sig0 lists these names too
abbrev listing_too : String → List (List ℕ) → List ℕ
listing_too s ls = as_lines (put sig0s (sig0 key middle (names ++ octets s) signature) (head_lines ++ ls))

-- a ring in which the head's key comes second, after the other one
abbrev two_keys : Ring
two_keys = record { key = replicate 31 0 ++ 1 ∷ []; first = 0; last = 9_999_999_999 } ∷ terms.ring

-- ---- what is due

-- "ends `question 303`, `complete 12`"
abbrev whole : List ℕ
whole = 1 ∷ 303 ∷ 0 ∷ 6 ∷ 12 ∷ []

abbrev refusals : List ℕ → List ℕ
refusals [] = []
refusals (n ∷ ns) = 5 ∷ n ∷ refusals ns

-- ---- the rest of the rows' inputs

-- the body after these blocks
abbrev body_after : Past → List (List ℕ) → List ℕ
body_after p [] = p.body
body_after p (b ∷ bs) = body_after (after p b) bs

-- what a last word leaves of a bare CR LF in the block hold
abbrev leaves : LastWord → List ℕ
leaves word =
    let c = trailer show nothing 12 in
    (with_last_word c (octets "\r\n") word (with_section c (octets "\r\n") (record { head = []; block = replicate 4 9; question = [] }))).block

-- ---- the table

pub end_rows : List Row
end_rows =
    let h = head_of (as_lines head_lines) in
    row 0 "paper 01's example, with the three; and with none of them" (ended h three ++ ended h []) (whole ++ 4 ∷ 12 ∷ [])
    ∷ row 0 "a yes gives *complete*, a no is 10, both at the question's place"
    (placed (judged (rules terms) (judge_end (show_of terms.ring h) 12 body_hash (all_fields h (as_lines three))) 9 (true ∷ []) (λ c answers. []))
    ++ placed (judged (rules terms) (judge_end (show_of terms.ring h) 12 body_hash (all_fields h (as_lines three))) 9 (false ∷ []) (λ c answers. []))
    ++ placed (judged (rules terms) (judge_end (show_of terms.ring h) 12 body_hash (all_fields h (as_lines three))) 9 [] (λ c answers. [])))
    ((9 ∷ 1 ∷ 303 ∷ 0 ∷ 9 ∷ 6 ∷ 12 ∷ []) ++ (9 ∷ 1 ∷ 303 ∷ 0 ∷ 9 ∷ 5 ∷ 10 ∷ []) ++ (9 ∷ 1 ∷ 303 ∷ 0 ∷ []))
    ∷ row 1 "its key as Sig0's or 12, though the ring has both; the record is the head's"
    (said_by two_keys 12 body_hash h three ++ said_by two_keys 12 body_hash h (good_digest ∷ size_line "12" ∷ other_sig1 ∷ []))
    ((1 ∷ 303 ∷ 1 ∷ 6 ∷ 12 ∷ []) ++ refusals (12 ∷ []))
    ∷ row 1 "12 goes after 13, 14 and 15"
    (said_by two_keys 12 body_hash h (empty_digest ∷ size_line "12" ∷ other_sig1 ∷ [])
    ++ said_by two_keys 12 body_hash h (good_digest ∷ size_line "13" ∷ other_sig1 ∷ [])
    ++ said_by two_keys 12 body_hash h (good_digest ∷ size_line "x" ∷ other_sig1 ∷ []))
    (refusals (15 ∷ 14 ∷ 13 ∷ []))
    ∷ row 2 "`(created)` is Sig1's own; the added names take the values given, the others the head's"
    (message_of h (good_digest ∷ size_line "12" ∷ sig1 key (octets ",algorithm=\"hs2019\",created=7,") (names ++ octets " DIGEST X-OUINET-DATA-SIZE") signature ∷ []))
    (octets
    "(response-status): 200\n(created): 7\nx-ouinet-version: 4\nx-ouinet-uri: https://example.com/hello\nx-ouinet-injection: id=qwertyuiop-12345,ts=1584748800\ndate: Sat, 21 Mar 2020 00:00:00 GMT\ncontent-type: text/plain\ndigest: SHA-256=wFNeS+K3n/2TKRMFQ2v4iTFOSj+uwF7P/Lt98xrZ5Ro=\nx-ouinet-data-size: 12")
    ∷ row 2 "it need not equal Sig0's, nor lie in the span of the key's record" (each_ended h (betweens (",algorithm=\"hs2019\",created=7," ∷ ",algorithm=\"hs2019\",created=999999999999," ∷ [])))
    ((1 ∷ 294 ∷ 0 ∷ 6 ∷ 12 ∷ []) ++ (1 ∷ 305 ∷ 0 ∷ 6 ∷ 12 ∷ []))
    ∷ row 3 "a head with a bad one gives all its blocks, then 13, at the bare CR LF"
    (placed (plain_reading terms (as_lines (head_lines ++ (octets "X-Ouinet-Sig1: x") ∷ []) ++ hello ++ signed "0" ++ octets "\r\n") (true ∷ true ∷ true ∷ []) true))
    ((671 ∷ 1 ∷ 219 ∷ 0 ∷ 671 ∷ 2 ∷ 200 ∷ 5 ∷ []) ++ (780 ∷ 1 ∷ 83 ∷ 0 ∷ 780 ∷ 3 ∷ 0 ∷ 5 ∷ []) ++ (782 ∷ 5 ∷ 13 ∷ []))
    ∷ row 3 "all three in the head, or some of them"
    (ended (with_lines three) []
    ++ ended (with_lines (good_digest ∷ [])) (good_sig1 ∷ size_line "12" ∷ [])
    ++ ended (with_lines (good_sig1 ∷ size_line "12" ∷ [])) (good_digest ∷ []))
    (whole ++ whole ++ whole)
    ∷ row 4 "any of them by its name is a claim, some but not all are 13"
    (each_ended h
    ((digest_line "MD5=x" ∷ [])
    ∷ (digest_line "" ∷ [])
    ∷ (good_digest ∷ [])
    ∷ (size_line "12" ∷ [])
    ∷ (good_sig1 ∷ [])
    ∷ (good_digest ∷ size_line "12" ∷ [])
    ∷ (good_digest ∷ good_sig1 ∷ [])
    ∷ (size_line "12" ∷ good_sig1 ∷ [])
    ∷ [])
    ++ ended (with_lines (digest_line "MD5=x" ∷ [])) []
    ++ each_ended h (((octets "Digests: x") ∷ (octets "X-Ouinet-Sig: x") ∷ (octets "X-Ouinet-Sig10: x") ∷ []) ∷ []))
    (refusals (13 ∷ 13 ∷ 13 ∷ 13 ∷ 13 ∷ 13 ∷ 13 ∷ 13 ∷ 13 ∷ []) ++ 4 ∷ 12 ∷ [])
    ∷ row 5 "one given twice: in head and trailer, or twice in the trailer, even byte-equal"
    (ended (with_lines (good_digest ∷ [])) three
    ++ ended (with_lines (size_line "12" ∷ [])) three
    ++ ended (with_lines (good_sig1 ∷ [])) three
    ++ each_ended h ((good_digest ∷ three) ∷ (size_line "12" ∷ three) ∷ (good_sig1 ∷ three) ∷ []))
    (refusals (13 ∷ 13 ∷ 13 ∷ 13 ∷ 13 ∷ 13 ∷ []))
    ∷ row 5 "twice in the head: `X-Ouinet-` is 3; `Digest` is a good head, and 13 at the end, signed or not"
    (head_fault terms (as_lines (head_lines ++ size_line "12" ∷ size_line "12" ∷ []))
    ∷ head_fault terms (as_lines (head_lines ++ good_sig1 ∷ good_sig1 ∷ []))
    ∷ head_fault terms (as_lines (head_lines ++ good_digest ∷ good_digest ∷ []))
    ∷ head_fault terms (listing_too " digest" (good_digest ∷ good_digest ∷ []))
    ∷ ended (with_lines (good_digest ∷ good_digest ∷ [])) (size_line "12" ∷ good_sig1 ∷ [])
    ++ ended (head_of (listing_too " digest" (good_digest ∷ good_digest ∷ []))) (size_line "12" ∷ listing1 " digest digest x-ouinet-data-size" ∷ []))
    ((3 ∷ 3 ∷ 0 ∷ 0 ∷ []) ++ refusals (13 ∷ 13 ∷ []))
    ∷ row 6 "either name already in Sig0's list"
    (ended (head_of (listing_too " digest" (good_digest ∷ []))) (size_line "12" ∷ listing1 " digest digest x-ouinet-data-size" ∷ [])
    ++ ended (head_of (listing_too " digest" (good_digest ∷ []))) (size_line "12" ∷ listing1 " digest x-ouinet-data-size" ∷ [])
    ++ ended (head_of (listing_too " X-Ouinet-Data-SIZE" (size_line "12" ∷ []))) (good_digest ∷ listing1 " x-ouinet-data-size digest x-ouinet-data-size" ∷ []))
    (refusals (13 ∷ 13 ∷ 13 ∷ []))
    ∷ row 6 "Sig1's own name may be in it"
    (head_fault terms (listing_too " x-ouinet-sig1" (listing1 " x-ouinet-sig1 digest x-ouinet-data-size" ∷ []))
    ∷ ended (head_of (listing_too " x-ouinet-sig1" (listing1 " x-ouinet-sig1 digest x-ouinet-data-size" ∷ []))) (good_digest ∷ size_line "12" ∷ []))
    (0 ∷ 1 ∷ 664 ∷ 0 ∷ 6 ∷ 12 ∷ [])
    ∷ row 7 "the list is Sig0's with the two at its end, without case"
    (each_ended h
    (lists
    ("(RESPONSE-STATUS) (Created) X-OUINET-VERSION x-ouinet-uri x-ouinet-injection DATE Content-Type Digest X-Ouinet-Data-Size"
    ∷ "(response-status) (created) x-ouinet-version x-ouinet-uri x-ouinet-injection date content-type x-ouinet-data-size digest"
    ∷ "(response-status) (created) x-ouinet-version x-ouinet-uri x-ouinet-injection content-type date digest x-ouinet-data-size"
    ∷ "digest x-ouinet-data-size (response-status) (created) x-ouinet-version x-ouinet-uri x-ouinet-injection date content-type"
    ∷ "(response-status) (created) x-ouinet-version x-ouinet-uri x-ouinet-injection date digest x-ouinet-data-size"
    ∷ "(response-status) (created) x-ouinet-version x-ouinet-uri x-ouinet-injection date content-type digest"
    ∷ "(response-status) (created) x-ouinet-version x-ouinet-uri x-ouinet-injection date content-type"
    ∷ "(response-status) (created) x-ouinet-version x-ouinet-uri x-ouinet-injection date content-type digest x-ouinet-data-size transfer-encoding"
    ∷ "(response-status) (created) x-ouinet-version x-ouinet-uri x-ouinet-injection date content-type digest x-ouinet-data-size digest"
    ∷ "(response-status) (created) x-ouinet-version x-ouinet-uri x-ouinet-injection date content-typ digest x-ouinet-data-size"
    ∷ ""
    ∷ [])))
    (whole ++ refusals (13 ∷ 13 ∷ 13 ∷ 13 ∷ 13 ∷ 13 ∷ 13 ∷ 13 ∷ 13 ∷ 13 ∷ []))
    ∷ row 7 "one space between"
    (each_ended h
    (lists
    ("(response-status) (created) x-ouinet-version x-ouinet-uri x-ouinet-injection date content-type digest  x-ouinet-data-size"
    ∷ "(response-status) (created) x-ouinet-version x-ouinet-uri x-ouinet-injection date content-type digest\tx-ouinet-data-size"
    ∷ "(response-status) (created) x-ouinet-version x-ouinet-uri x-ouinet-injection date content-type digest, x-ouinet-data-size"
    ∷ " (response-status) (created) x-ouinet-version x-ouinet-uri x-ouinet-injection date content-type digest x-ouinet-data-size"
    ∷ "(response-status) (created) x-ouinet-version x-ouinet-uri x-ouinet-injection date content-type digest x-ouinet-data-size "
    ∷ [])))
    (refusals (13 ∷ 13 ∷ 13 ∷ 13 ∷ 13 ∷ []))
    ∷ row 7 "34 names, where Sig0 has 32"
    (ended (head_of (as_lines (listing 25))) (good_digest ∷ size_line "12" ∷ sig1 key middle (names ++ (extra_text (extra_names 25) ++ octets " digest x-ouinet-data-size")) signature ∷ []))
    (1 ∷ 443 ∷ 0 ∷ 6 ∷ 12 ∷ [])
    ∷ row 7 "Sig1 is written as Sig0"
    (each_ended h
    (betweens
    (",\t\talgorithm=\"hs2019\", created=1584748800, \t"
    ∷ ",algorithm=\"HS2019\",created=1584748800,"
    ∷ ",algorithm=\"hs2019\",created=01,"
    ∷ ",algorithm=\"hs2019\",created=,"
    ∷ ",algorithm=\"hs2019\",created=1,expires=2,"
    ∷ ",created=1,algorithm=\"hs2019\","
    ∷ [])
    ++ (good_digest ∷ size_line "12" ∷ sig1 (replicate 42 65 ++ octets "B=") middle (names ++ octets " digest x-ouinet-data-size") signature ∷ [])
    ∷ (good_digest ∷ size_line "12" ∷ sig1 key middle (names ++ octets " digest x-ouinet-data-size") (replicate 85 65 ++ octets "B==") ∷ [])
    ∷ []))
    (whole ++ refusals (13 ∷ 13 ∷ 13 ∷ 13 ∷ 13 ∷ 13 ∷ 13 ∷ []))
    ∷ row 8 "`SHA-256=` as written, and 44 base64 characters with spare bits zero, alone"
    (each_ended h
    (digests
    ("sha-256=wFNeS+K3n/2TKRMFQ2v4iTFOSj+uwF7P/Lt98xrZ5Ro="
    ∷ "SHA-256=wFNeS+K3n/2TKRMFQ2v4iTFOSj+uwF7P/Lt98xrZ5Ro=, MD5=x"
    ∷ "MD5=x, SHA-256=wFNeS+K3n/2TKRMFQ2v4iTFOSj+uwF7P/Lt98xrZ5Ro="
    ∷ "SHA-256= wFNeS+K3n/2TKRMFQ2v4iTFOSj+uwF7P/Lt98xrZ5Ro="
    ∷ "SHA-256=wFNeS+K3n/2TKRMFQ2v4iTFOSj+uwF7P/Lt98xrZ5Rp="
    ∷ "SHA-256=wFNeS+K3n/2TKRMFQ2v4iTFOSj+uwF7P/Lt98xrZ5Ro"
    ∷ "SHA-256=wFNeS+K3n/2TKRMFQ2v4iTFOSj+uwF7P/Lt98xrZ5RoA"
    ∷ "SHA-256=wFNeS-K3n_2TKRMFQ2v4iTFOSj-uwF7P_Lt98xrZ5Ro="
    ∷ "SHA-256="
    ∷ "wFNeS+K3n/2TKRMFQ2v4iTFOSj+uwF7P/Lt98xrZ5Ro="
    ∷ "MD5=x"
    ∷ ""
    ∷ [])))
    (refusals (13 ∷ 13 ∷ 13 ∷ 13 ∷ 13 ∷ 13 ∷ 13 ∷ 13 ∷ 13 ∷ 13 ∷ 13 ∷ 13 ∷ []))
    ∷ row 9 "ten digits pass 32 bits: 14; another size is 14; eleven digits, a leading zero or other text are 13"
    (each_ended h (sizes ("4294967308" ∷ "9999999999" ∷ "11" ∷ "13" ∷ "0" ∷ "1" ∷ "42949672960" ∷ "00000000012" ∷ "00" ∷ "012" ∷ "" ∷ "+12" ∷ "12 12" ∷ "0xC" ∷ "12." ∷ [])))
    (refusals (14 ∷ 14 ∷ 14 ∷ 14 ∷ 14 ∷ 14 ∷ 13 ∷ 13 ∷ 13 ∷ 13 ∷ 13 ∷ 13 ∷ 13 ∷ 13 ∷ 13 ∷ []))
    ∷ row 10 "a listed name of the trailer's own is not read; names compare without case, and values are trimmed"
    (message_of h ((octets "X-Ouinet-URI: x") ∷ (octets "dIGEST:\t SHA-256=wFNeS+K3n/2TKRMFQ2v4iTFOSj+uwF7P/Lt98xrZ5Ro=\t ") ∷ (octets "x-OUINET-data-SIZE:12 ") ∷ good_sig1 ∷ (octets "Date: y") ∷ [])
    ++ ended h ((octets "X-Ouinet-URI: x") ∷ (octets "dIGEST:\t SHA-256=wFNeS+K3n/2TKRMFQ2v4iTFOSj+uwF7P/Lt98xrZ5Ro=\t ") ∷ (octets "x-OUINET-data-SIZE:12 ") ∷ good_sig1 ∷ (octets "Date: y") ∷ []))
    (octets
    "(response-status): 200\n(created): 1584748800\nx-ouinet-version: 4\nx-ouinet-uri: https://example.com/hello\nx-ouinet-injection: id=qwertyuiop-12345,ts=1584748800\ndate: Sat, 21 Mar 2020 00:00:00 GMT\ncontent-type: text/plain\ndigest: SHA-256=wFNeS+K3n/2TKRMFQ2v4iTFOSj+uwF7P/Lt98xrZ5Ro=\nx-ouinet-data-size: 12"
    ++ whole)
    ∷ row 10 "the trailer's text is judged first: 6 goes before 13, and none of the three closes"
    (trailer_says h (three ++ (octets "A b") ∷ [])
    ++ trailer_says h ((octets "A b") ∷ three)
    ++ trailer_says h (digest_line "x" ∷ (octets "A b") ∷ [])
    ++ trailer_says (with_lines (digest_line "x" ∷ [])) ((octets "A b") ∷ [])
    ++ trailer_says h (digest_line "x" ∷ [])
    ++ trailer_says h ((octets "A: b") ∷ []))
    (refusals (6 ∷ 6 ∷ 6 ∷ 6 ∷ 13 ∷ []) ++ 4 ∷ 12 ∷ [])
    ∷ row 11 "what is handed out is Sig0's list: the date, and never the digest"
    (length (signed_of (with_lines three)) ∷ as_number (among (octets "date") (names_of (signed_of (with_lines three)))) ∷ as_number (among (octets "digest") (names_of (signed_of (with_lines three)))) ∷ [])
    (5 ∷ 1 ∷ 0 ∷ [])
    ∷ row 12 "the string has two lines of the trailer, and is shorter than its head" (length (message_of h three) ∷ length (as_lines head_lines) ∷ []) (303 ∷ 653 ∷ [])
    ∷ row 13 "an empty body: size 0 and the digest of nothing"
    (said_by terms.ring 0 empty_hash h (empty_digest ∷ size_line "0" ∷ good_sig1 ∷ [])
    ++ said_by terms.ring 0 empty_hash h three
    ++ said_by terms.ring 0 empty_hash h (good_digest ∷ size_line "0" ∷ good_sig1 ∷ [])
    ++ said_by terms.ring 0 empty_hash h [])
    ((1 ∷ 302 ∷ 0 ∷ 6 ∷ 0 ∷ []) ++ refusals (14 ∷ 15 ∷ []) ++ 4 ∷ 0 ∷ [])
    ∷ row 14 "the hash is of the whole body, however it is cut into blocks"
    (body_after nothing (octets "Hello" ∷ octets " worl" ∷ octets "d!" ∷ []) ++ body_after nothing (octets "Hello world!" ∷ []) ++ body_after nothing [])
    (octets "Hello world!Hello world!")
    ∷ row 15 "the order: 13, 14, 15, 12, then the question; each with all that comes after it broken too"
    (said_by two_keys 12 body_hash h (empty_digest ∷ size_line "13" ∷ [])
    ++ said_by two_keys 12 body_hash h (empty_digest ∷ size_line "13" ∷ other_sig1 ∷ other_sig1 ∷ [])
    ++ said_by two_keys 12 body_hash h (digest_line "x" ∷ size_line "13" ∷ other_sig1 ∷ [])
    ++ said_by two_keys 12 body_hash h (empty_digest ∷ size_line "13" ∷ sig1 (replicate 42 65 ++ octets "E=") middle names signature ∷ [])
    ++ said_by two_keys 12 body_hash (head_of (listing_too " digest" (empty_digest ∷ []))) (size_line "13" ∷ listing1 " digest digest x-ouinet-data-size" ∷ [])
    ++ said_by two_keys 12 body_hash h (empty_digest ∷ size_line "13" ∷ other_sig1 ∷ [])
    ++ said_by two_keys 12 body_hash h (empty_digest ∷ size_line "12" ∷ other_sig1 ∷ [])
    ++ said_by two_keys 12 body_hash h (good_digest ∷ size_line "12" ∷ other_sig1 ∷ []))
    (refusals (13 ∷ 13 ∷ 13 ∷ 13 ∷ 13 ∷ 14 ∷ 15 ∷ 12 ∷ []))
    ∷ row 16 "10, 12, 13, 14 and 15 set the trailer's bytes to zero, a bare CR LF too; *complete* and *closed* set none"
    (leaves (refused 10 0) ++ leaves (refused 12 0) ++ leaves (refused 13 0) ++ leaves (refused 14 0) ++ leaves (refused 15 0) ++ leaves (complete 12) ++ leaves (closed 12))
    (0 ∷ 0 ∷ 9 ∷ 9 ∷ 0 ∷ 0 ∷ 9 ∷ 9 ∷ 0 ∷ 0 ∷ 9 ∷ 9 ∷ 0 ∷ 0 ∷ 9 ∷ 9 ∷ 0 ∷ 0 ∷ 9 ∷ 9 ∷ 13 ∷ 10 ∷ 9 ∷ 9 ∷ 13 ∷ 10 ∷ 9 ∷ 9 ∷ [])
    ∷ []

-- Every row holds.
pub ends_hold : broken 0 end_rows ≡ []
unfolding end_rows with_section pending with_last_word all_fields is_claimed is_digest digest_bytes ends_in same_names is_end_list end_rules end_fault end_string end_question is_base64 letter_value holds_three holds_two holds_one joined_letters base64_bytes cut sections reading_at reading is_whole_line carries_signature is_chunk_line chunk_size line_signature line_rules line_fault chained block_message all same lowered same_name among is_doubled is_protected is_protected_doubled names_of has_field value_of values_of ends_head is_whole_head head_with head_of status_digits injection_id injection_time block_size block_key head_key listed_names head_signature signed_of signing_string trusted_by text_rules caller_rules head_fault ends_with lines before_empty text_lines trimmed field_scan is_field_line field_of are_field_lines fields_of status_scan is_status_line status_of number_from is_decimal is_hex_number decimal_within decimal fits first_from found first_broken injection_scan is_injection bsigs_scan is_bsigs sig0_scan is_sig0 split_names are_fields is_name_list separated signed_fields joined_fields signing_line signing_text is_whole show_of head_question accept_head judge_head judge_first_line judge_data_end block_question accept_block judge_next_line judge_end judge_trailer judge rules plain_reading big_endian padding padded number parsed schedule round rounds sums compressed hashed unparsed digest round_words sha512 run past starts_with scan ends_trailer is_whole_trailer is_trailer carries_hash is_extension line_hash is_hash_due first_byte is_within range_of is_partial signed_status is_ranged start_from start_of released_with is_checked
ends_hold = refl
