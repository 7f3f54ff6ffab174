-- The points of the rules ledger that concern what is read, as a second table about the definitions: each row is one input,
-- with the number of its point, what the definitions make of it and what paper 01 says is due. One computed test covers the
-- table. The dues were written from the paper, and from the requests that amend it, not from the definitions. Assumes nothing.
use mathlib.Core.Bool.{Bool, true, false}
use mathlib.Core.List.{List, [], ◌∷◌, ◌++◌}
use mathlib.Core.Path.{◌≡◌, refl}
use Prim.Native.Nat.{ℕ, zero, suc, ◌-◌}
use Prim.Native.String.{String}
use lib.ListN.{length, replicate, take, drop, set}
use Rattle.octets.specs.Octets.{octets}
use Rattle.base64_text.specs.Base64.{is_base64, letter_value, holds_three, holds_two, holds_one, joined_letters, base64_bytes}
use Rattle.hash.specs.Sha2.{big_endian, padding, padded, number, parsed, schedule, round, rounds, sums, compressed, hashed, unparsed, digest}
use Rattle.hash.specs.Sha512.{round_words, sha512}
use Rattle.sections.specs.Reading.{Event, question, message, last, Log, cut, sections, reading_at, reading}
use Rattle.stream.specs.Blocks.{is_whole_line, carries_signature, is_chunk_line, chunk_size, line_signature, line_rules, line_fault, chained, block_message, carries_hash, is_extension, is_hash_due, line_hash}
use Rattle.stream.specs.Bytes.{all, same, lowered, same_name}
use Rattle.stream.specs.Ends.{all_fields, is_claimed, is_checked}
use Rattle.stream.specs.Events.{Question, Release, head_accepted, block, LastWord, closed, complete, refused}
use Rattle.stream.specs.Fields.{among, is_doubled, is_protected, is_protected_doubled, names_of, has_field, value_of, values_of}
use Rattle.stream.specs.Head.{ends_head, is_whole_head, head_with, head_of, status_digits, injection_id, injection_time, block_size, block_key, head_key, listed_names, head_signature, signed_of, signing_string, trusted_by, text_rules, caller_rules, head_fault, is_partial, is_ranged, range_of, signed_status}
use Rattle.stream.specs.Lines.{ends_with, lines, before_empty, text_lines, trimmed, field_scan, is_field_line, field_of, are_field_lines, fields_of, status_scan, is_status_line, status_of}
use Rattle.stream.specs.Numbers.{number_from, hex_value, is_decimal, is_hex_number, decimal_within, decimal}
use Rattle.stream.specs.Range.{whole, first_byte, is_within}
use Rattle.stream.specs.Ring.{Ring, fits, first_from, found}
use Rattle.stream.specs.Rule.{first_broken}
use Rattle.stream.specs.Signatures.{injection_scan, is_injection, bsigs_scan, is_bsigs, sig0_scan, is_sig0, split_names, are_fields, is_name_list}
use Rattle.stream.specs.Signing.{separated, signed_fields, joined_fields, signing_line, signing_text}
use Rattle.stream.specs.Stream.{Show, nothing, first_line, next_line, trailer, is_whole, show_of, head_question, accept_head, judge_head, judge_first_line, judge_data_end, block_question, accept_block, judge_next_line, judge_end, judge_trailer, judge, rules, plain_reading, released_with, start_from, start_of}
use Rattle.stream.specs.Template.{run, past, starts_with, scan}
use Rattle.stream.specs.Terms.{Terms}
use Rattle.stream.specs.Trailer.{ends_trailer, is_whole_trailer, is_trailer}
use Rattle.stream.proofs.Example.{key, signature, signed_line, injection, example_head, terms}

-- ---- rows

pub record Row : Type 0 where
  pub point : ℕ
  pub says : String
  pub got : List ℕ
  pub due : List ℕ

abbrev pub row : ℕ → String → List ℕ → List ℕ → Row
row point says got due = record { point = point; says = says; got = got; due = due }

-- the points whose rows do not hold, each with the row's number
abbrev pub broken : ℕ → List Row → List (ℕ × ℕ)
broken i [] = []
broken i (r ∷ rs) = elim (same r.got r.due) [ true ↦ broken (suc i) rs | false ↦ (r.point, i) ∷ broken (suc i) rs ]

-- ---- what is compared, as numbers

abbrev pub as_number : Bool → ℕ
as_number true = 1
as_number false = 0

-- an event: a code for the word, and its numbers
abbrev pub told : Event Question Release LastWord → List ℕ
told (question q) = 1 ∷ length q.message ∷ q.key_number ∷ []
told (message (head_accepted status signed)) = 2 ∷ status ∷ length signed ∷ []
told (message (block offset bytes)) = 3 ∷ offset ∷ length bytes ∷ []
told (last (closed total)) = 4 ∷ total ∷ []
told (last (complete total)) = 6 ∷ total ∷ []
told (last (refused n at)) = 5 ∷ n ∷ []

-- each event after its place
abbrev pub placed : Log Question Release LastWord → List ℕ
placed [] = []
placed (x ∷ log) = x.0 ∷ told x.1 ++ placed log

-- the messages that are asked about, and the bytes that are released
abbrev pub asked : Log Question Release LastWord → List ℕ
asked [] = []
asked ((at, question q) ∷ log) = q.message ++ asked log
asked ((at, message e) ∷ log) = asked log
asked ((at, last l) ∷ log) = asked log

abbrev pub released : Log Question Release LastWord → List ℕ
released [] = []
released ((at, question q) ∷ log) = released log
released ((at, message (head_accepted status signed)) ∷ log) = released log
released ((at, message (block offset bytes)) ∷ log) = bytes ++ released log
released ((at, last l) ∷ log) = released log

-- ---- heads: the example's lines, some of them changed

abbrev pub as_lines : List (List ℕ) → List ℕ
as_lines [] = octets "\r\n"
as_lines (l ∷ ls) = l ++ (octets "\r\n" ++ as_lines ls)

abbrev pub key_is : List ℕ → List ℕ
key_is k = octets "keyId=\"ed25519=" ++ (k ++ octets "\"")

abbrev pub bsigs : List ℕ → List ℕ → List ℕ
bsigs k rest = octets "X-Ouinet-BSigs: " ++ (key_is k ++ rest)

abbrev pub sig0 : List ℕ → List ℕ → List ℕ → List ℕ → List ℕ
sig0 k middle names sig =
    octets "X-Ouinet-Sig0: "
    ++ (key_is k ++ (middle ++ (octets "headers=\"" ++ (names ++ (octets "\",signature=\"" ++ (sig ++ octets "\""))))))

abbrev pub middle : List ℕ
middle = octets ",algorithm=\"hs2019\",created=1584748800, "

-- the list as document 000 prints it, with capitals
abbrev pub names : List ℕ
names = octets "(response-status) (created) x-Ouinet-version x-Ouinet-uri x-Ouinet-injection date content-type"

abbrev pub head_lines : List (List ℕ)
head_lines =
    octets "HTTP/1.1 200 OK"
    ∷ octets "X-Ouinet-Version: 4"
    ∷ octets "X-Ouinet-URI: https://example.com/hello"
    ∷ (octets "X-Ouinet-Injection: " ++ injection)
    ∷ octets "Date: Sat, 21 Mar 2020 00:00:00 GMT"
    ∷ octets "Content-Type: text/plain"
    ∷ sig0 key middle names signature
    ∷ bsigs key (octets ",algorithm=\"hs2019\",size=5")
    ∷ octets "Transfer-Encoding: chunked"
    ∷ []

-- where each line stands
abbrev pub status : ℕ
status = 0

abbrev pub version : ℕ
version = 1

abbrev uri : ℕ
uri = 2

abbrev inject : ℕ
inject = 3

abbrev date : ℕ
date = 4

abbrev type : ℕ
type = 5

abbrev pub sig0s : ℕ
sig0s = 6

abbrev pub bsigss : ℕ
bsigss = 7

abbrev coding : ℕ
coding = 8

abbrev pub put : ℕ → List ℕ → List (List ℕ) → List (List ℕ)
put k l ls = set ls k l

abbrev pub without : ℕ → List (List ℕ) → List (List ℕ)
without k ls = take k ls ++ drop (suc k) ls

-- the terms with this URI, or with this ring
abbrev pub asking : String → Terms
asking s = record { ring = terms.ring; uri = octets s }

abbrev pub trusting : Ring → Terms
trusting r = record { ring = r; uri = terms.uri }

-- the refusal's number, 0 where the head is good
abbrev pub fault_by : Terms → List (List ℕ) → List ℕ
fault_by t ls = head_fault t (as_lines ls) ∷ []

abbrev pub fault : List (List ℕ) → List ℕ
fault ls = fault_by terms ls

-- of heads with one line changed
abbrev faults : ℕ → List String → List ℕ
faults k [] = []
faults k (s ∷ ss) = fault (put k (octets s) head_lines) ++ faults k ss

-- of heads with another list of names
abbrev list_faults : List String → List ℕ
list_faults [] = []
list_faults (s ∷ ss) = fault (put sig0s (sig0 key middle (octets s) signature) head_lines) ++ list_faults ss

-- of heads with other text after the key of BSigs, or between the key of Sig0 and its list
abbrev bsigs_faults : List String → List ℕ
bsigs_faults [] = []
bsigs_faults (s ∷ ss) = fault (put bsigss (bsigs key (octets s)) head_lines) ++ bsigs_faults ss

abbrev sig0_faults : List String → List ℕ
sig0_faults [] = []
sig0_faults (s ∷ ss) = fault (put sig0s (sig0 key (octets s) names signature) head_lines) ++ sig0_faults ss

-- a head of n bytes
abbrev pub long_head : ℕ → List ℕ
long_head n = as_lines (put type (octets "Content-Type: " ++ replicate (n - 643) 97) head_lines)

-- so many more field lines, each of its own name; the list of names with so many of them
abbrev pub extra_names : ℕ → List (List ℕ)
extra_names zero = []
extra_names (suc n) = (octets "x" ++ decimal n) ∷ extra_names n

abbrev pub extra_lines : List (List ℕ) → List (List ℕ)
extra_lines [] = []
extra_lines (n ∷ ns) = (n ++ octets ":") ∷ extra_lines ns

abbrev pub extra_text : List (List ℕ) → List ℕ
extra_text [] = []
extra_text (n ∷ ns) = octets " " ++ (n ++ extra_text ns)

abbrev pub listing : ℕ → List (List ℕ)
listing n =
    put sig0s (sig0 key middle (names ++ extra_text (extra_names n)) signature) (head_lines ++ extra_lines (extra_names n))

-- what a ring makes of the example's head: the refusal's number, or 0, and the number of the record found
abbrev ring_says : Ring → List ℕ
ring_says r = head_fault (trusting r) example_head ∷ (head_question r (head_of example_head)).key_number ∷ []

abbrev pub other_key : List ℕ
other_key = 1 ∷ replicate 31 0

-- ---- bodies: block size 5, and neither ring nor URI, since both are "read only when the head is judged"

abbrev pub no_terms : Terms
no_terms = record { ring = []; uri = [] }

abbrev pub show : Show
show = record { id = octets "abc"; size = 5; key_number = 7; head = head_of [] }

abbrev body : List Bool → Bool → List ℕ → List ℕ
body answers end bytes = placed (reading (rules no_terms) (first_line show) bytes answers end)

abbrev pub yes : List Bool
yes = true ∷ true ∷ true ∷ []

abbrev pub hello : List ℕ
hello = octets "5\r\nHello\r\n"

-- first lines, and lines after the block `Hello`, each by itself
abbrev first_lines : List String → List ℕ
first_lines [] = []
first_lines (s ∷ ss) = line_fault 5 whole false true 0 (octets s ++ octets "\r\n") ∷ first_lines ss

abbrev pub signed : String → List ℕ
signed s = signed_line (octets s)

-- a trailer by itself, of a body of 5 bytes
abbrev trailers : List String → List ℕ
trailers [] = []
trailers (s ∷ ss) = placed (reading (rules no_terms) (trailer show nothing 5) (octets s) [] false) ++ trailers ss

-- document 000's example, as it prints it, but for key and signatures
abbrev pub document_head : List ℕ
document_head = as_lines (head_lines ++ (octets "Trailer: Digest, X-Ouinet-Data-Size, X-Ouinet-Sig1") ∷ [])

abbrev pub document_body : List ℕ
document_body = hello ++ signed "5" ++ octets " worl\r\n" ++ signed "2" ++ octets "d!\r\n" ++ signed "0"

-- hex digits as bytes, two to a byte
abbrev pub hex_bytes : List ℕ → List ℕ
hex_bytes [] = []
hex_bytes (a ∷ []) = []
hex_bytes (a ∷ b ∷ l) = hex_value (a ∷ b ∷ []) ∷ hex_bytes l

-- ---- the table, in four parts, each tested at once

-- a section's end, and the head as text
pub head_texts : List Row
head_texts =
    -- sections and their ends
    row 1 "a bad byte changes nothing until the end has come, which is at the first empty line"
    (placed (plain_reading terms (0 ∷ octets "x\r\n\n\r\r\n") [] false)
    ++ placed (plain_reading terms (0 ∷ octets "x\r\n\n\r\r\n\r\n\r\n") [] false)
    ++ placed (plain_reading terms (octets "\r\n\r\n") [] false))
    (10 ∷ 5 ∷ 3 ∷ 4 ∷ 5 ∷ 3 ∷ [])
    ∷ row 1 "the end told within it is 11, at the number of all bytes" (placed (plain_reading terms (octets "HT") [] true) ++ placed (plain_reading terms [] [] true))
    (2 ∷ 5 ∷ 11 ∷ 0 ∷ 5 ∷ 11 ∷ [])
    ∷ row 2 "a line without its end is 6 at 128 bytes"
    (body yes false (replicate 127 48) ++ body yes false (replicate 200 48) ++ body yes false (replicate 127 48 ++ octets "\r\n"))
    (128 ∷ 5 ∷ 6 ∷ 128 ∷ 5 ∷ 6 ∷ [])
    ∷ row 2 "a line that ends at its 128th byte is judged by its text"
    (body yes false (octets "5" ++ replicate 125 59 ++ octets "\r\n") ++ (as_number (is_whole_line (octets "5\r")) ∷ []))
    (128 ∷ 5 ∷ 6 ∷ 0 ∷ [])
    ∷ row 2 "CR or LF alone end no line" (body yes false (octets "5\rx\r\n") ++ body yes false (octets "5\nHello\r\n") ++ body yes false (octets "5\n\rx"))
    (5 ∷ 5 ∷ 6 ∷ 9 ∷ 5 ∷ 6 ∷ [])
    ∷ row 3 "data is whole at its size, whatever it is" (body yes false (octets "5\r\n\r\n\r\n\r\r\n" ++ signed "0"))
    (109 ∷ 1 ∷ 70 ∷ 7 ∷ 109 ∷ 3 ∷ 0 ∷ 5 ∷ [])
    ∷ row 4 "a data end is judged when both bytes have come"
    (body yes false (octets "5\r\nHelloX")
    ++ body yes false (octets "5\r\nHelloX\n")
    ++ body yes false (octets "5\r\nHello\rX")
    ++ body yes false (octets "5\r\nHello\n\r")
    ++ body yes true (octets "5\r\nHello\r"))
    (10 ∷ 5 ∷ 6 ∷ 10 ∷ 5 ∷ 6 ∷ 10 ∷ 5 ∷ 6 ∷ 9 ∷ 5 ∷ 11 ∷ [])
    ∷ row 5 "CR LF at once is a trailer, whatever follows" (trailers ("\r\n" ∷ "\r\n\r\n" ∷ "\r\nX" ∷ "\r" ∷ []))
    (2 ∷ 4 ∷ 5 ∷ 2 ∷ 4 ∷ 5 ∷ 2 ∷ 4 ∷ 5 ∷ [])
    ∷ row 5 "else it goes on to CR LF CR LF"
    (trailers ("A: b\r\n" ∷ "A: b\r\n\r\n" ∷ "A:\r\na:\r\n\r\nX" ∷ "\rA: b\r\n" ∷ "\rA: b\r\n\r\n" ∷ "\n\r\n\r\n" ∷ "A\r\n\r\n" ∷ " A: b\r\n\r\n" ∷ ": b\r\n\r\n" ∷ []))
    (8 ∷ 4 ∷ 5 ∷ 10 ∷ 4 ∷ 5 ∷ 9 ∷ 5 ∷ 6 ∷ 5 ∷ 5 ∷ 6 ∷ 5 ∷ 5 ∷ 6 ∷ 9 ∷ 5 ∷ 6 ∷ 7 ∷ 5 ∷ 6 ∷ [])
    ∷ row 5 "its fields are not counted" (as_number (is_trailer (as_lines (extra_lines (extra_names 129)))) ∷ []) (1 ∷ [])
    ∷ row 6 "what comes after the last word is not read" (body yes true (hello ++ signed "0" ++ octets "\r\nHTTP/1.1"))
    (109 ∷ 1 ∷ 70 ∷ 7 ∷ 109 ∷ 3 ∷ 0 ∷ 5 ∷ 111 ∷ 4 ∷ 5 ∷ [])
    -- the head's text
    ∷ row 8 "the status line's text"
    (faults status
    ("HTTP/1.1 200 " ∷ "HTTP/1.1 200  \t9" ∷ "HTTP/1.1 200" ∷ "HTTP/1.0 200 OK" ∷ "http/1.1 200 OK" ∷ "HTTP/1.1  200 OK" ∷ "HTTP/1.1\t200 OK" ∷ " HTTP/1.1 200 OK" ∷ "HTTP/1.1 20 OK" ∷ "HTTP/1.1 2000 OK" ∷ "HTTP/1.1 20x OK" ∷ "HTTP/1.1 200\tOK" ∷ "HTTP/1.1 200 O\rK" ∷ "HTTP/1.1 200 O\nK" ∷ "" ∷ []))
    (0 ∷ 0 ∷ 3 ∷ 3 ∷ 3 ∷ 3 ∷ 3 ∷ 3 ∷ 3 ∷ 3 ∷ 3 ∷ 3 ∷ 3 ∷ 3 ∷ 3 ∷ [])
    ∷ row 8 "any three digits are good text" (faults status ("HTTP/1.1 000 OK" ∷ "HTTP/1.1 999 OK" ∷ [])) (4 ∷ 4 ∷ [])
    ∷ row 8 "bytes of a reason and a value: tab, 32 to 126, 128 to 255"
    (fault (put status (octets "HTTP/1.1 200 " ++ 9 ∷ 32 ∷ 126 ∷ 128 ∷ 255 ∷ []) head_lines)
    ++ fault (put date (octets "Date:" ++ 255 ∷ 128 ∷ 126 ∷ 34 ∷ 9 ∷ []) head_lines)
    ++ fault (put status (octets "HTTP/1.1 200 " ++ 127 ∷ []) head_lines)
    ++ fault (put date (octets "Date: " ++ 127 ∷ []) head_lines)
    ++ fault (put date (octets "Date: " ++ 0 ∷ []) head_lines)
    ++ fault (put date (octets "Date: a" ++ 31 ∷ 97 ∷ []) head_lines))
    (0 ∷ 0 ∷ 3 ∷ 3 ∷ 3 ∷ 3 ∷ [])
    ∷ row 8 "field lines"
    (faults date
    ("Date:" ∷ "Date: \t " ∷ "Date::" ∷ "Date" ∷ "Date : x" ∷ "Da te: x" ∷ " Date: x" ∷ "\tfold" ∷ ": x" ∷ ":" ∷ "Da(te: x" ∷ "Da\"te: x" ∷ "Date: x\ry" ∷ "Date: x\ny" ∷ "Date: x\r" ∷ "\rDate: x" ∷ []))
    (0 ∷ 0 ∷ 0 ∷ 3 ∷ 3 ∷ 3 ∷ 3 ∷ 3 ∷ 3 ∷ 3 ∷ 3 ∷ 3 ∷ 3 ∷ 3 ∷ 3 ∷ 3 ∷ [])
    ∷ row 8 "every tchar is good in a name, and no other byte"
    (fault (head_lines ++ (octets "!#$%&'*+-.^_`|~09AZaz:") ∷ [])
    ++ fault (head_lines ++ (octets "a@:") ∷ [])
    ++ fault (head_lines ++ (octets "a[:") ∷ [])
    ++ fault (head_lines ++ (octets "a{:") ∷ [])
    ++ fault (head_lines ++ (octets "a/:") ∷ [])
    ++ fault (head_lines ++ (97 ∷ 128 ∷ 58 ∷ []) ∷ []))
    (0 ∷ 3 ∷ 3 ∷ 3 ∷ 3 ∷ 3 ∷ [])
    ∷ row 8 "no field is good text, an empty line for the status line is not"
    (head_fault terms (octets "HTTP/1.1 200 OK\r\n\r\n") ∷ head_fault terms (octets "\r\nHTTP/1.1 200 OK\r\n\r\n") ∷ head_fault terms (octets "\r\n\r\n") ∷ [])
    (4 ∷ 3 ∷ 3 ∷ [])
    ∷ row 8 "a doubled name, in another case, signed or not, and names that are only alike"
    (fault (head_lines ++ (octets "X-OUINET-URI: x") ∷ [])
    ++ fault (head_lines ++ (octets "x-ouinet-a: x") ∷ (octets "X-Ouinet-A: y") ∷ [])
    ++ fault (head_lines ++ (octets "transfer-encoding: chunked") ∷ [])
    ++ fault (head_lines ++ (octets "Content-Length: 1") ∷ (octets "content-length: 1") ∷ [])
    ++ fault (head_lines ++ (octets "a@b") ∷ [])
    ++ fault (head_lines ++ (octets "a^: x") ∷ (octets "a~: x") ∷ (octets "date-: x") ∷ (octets "dat: x") ∷ []))
    (3 ∷ 3 ∷ 3 ∷ 3 ∷ 3 ∷ 0 ∷ [])
    ∷ row 8 "as request #102 amends it: any other name may be doubled, signed or not, and the rules after it are then tested"
    (fault (head_lines ++ (octets "DATE: x") ∷ [])
    ++ fault (head_lines ++ (octets "Via: x") ∷ (octets "vIA: y") ∷ [])
    ++ fault (put version (octets "X-Ouinet-Version: 5") head_lines ++ (octets "date: x") ∷ [])
    ++ fault (without coding head_lines ++ (octets "date: x") ∷ []))
    (0 ∷ 0 ∷ 5 ∷ 4 ∷ [])
    ∷ row 8 "3 goes before all else"
    (fault (put version (octets "X-Ouinet-Version: 5") head_lines ++ (octets "x-ouinet-version: 4") ∷ [])
    ++ fault (put status (octets "HTTP/1.1 404 x") head_lines ++ (octets "Bad") ∷ [])
    ++ fault (without version head_lines ++ extra_lines (extra_names 122)))
    (3 ∷ 3 ∷ 3 ∷ [])
    ∷ []

-- the head's rules
pub head_rules : List Row
head_rules =
    -- the head's rules, in their order
    row 9 "the version" (faults version ("X-Ouinet-Version: 5" ∷ "X-Ouinet-Version:" ∷ "X-Ouinet-Version: 04" ∷ "X-Ouinet-Version: 4 4" ∷ "X-Ouinet-Version: 44" ∷ "x-ouinet-vERSION:4" ∷ "Version: 4" ∷ []))
    (5 ∷ 5 ∷ 5 ∷ 5 ∷ 5 ∷ 0 ∷ 4 ∷ [])
    ∷ row 9 "5 goes before status, key and all of 4 that comes after it"
    (fault (put status (octets "HTTP/1.1 404 x") (put version (octets "X-Ouinet-Version: 5") head_lines))
    ++ fault_by no_terms (put version (octets "X-Ouinet-Version: 5") (without bsigss head_lines))
    ++ fault (put status (octets "HTTP/1.1 404 x") (without version head_lines)))
    (5 ∷ 5 ∷ 4 ∷ [])
    ∷ row 9 "the statuses" (faults status ("HTTP/1.1 301 x" ∷ "HTTP/1.1 302 x" ∷ "HTTP/1.1 307 x" ∷ "HTTP/1.1 206 x" ∷ "HTTP/1.1 304 x" ∷ "HTTP/1.1 404 x" ∷ []))
    (0 ∷ 0 ∷ 0 ∷ 4 ∷ 4 ∷ 4 ∷ [])
    ∷ row 9 "coding, length and URI"
    (faults coding ("transfer-encoding:CHUNKED" ∷ "Transfer-Encoding: gzip, chunked" ∷ "Transfer-Encoding: chunked;q=1" ∷ "Transfer-Encoding:" ∷ "Coding: chunked" ∷ [])
    ++ fault (head_lines ++ (octets "content-LENGTH:") ∷ [])
    ++ fault_by (asking "x") (put uri (octets "X-Ouinet-URI:x") head_lines)
    ++ faults uri ("X-Ouinet-URI:" ∷ "X-Ouinet-URI: \t" ∷ []))
    (0 ∷ 4 ∷ 4 ∷ 4 ∷ 4 ∷ 4 ∷ 0 ∷ 4 ∷ 4 ∷ [])
    ∷ row 9 "a field that a rule needs, absent" (fault (without uri head_lines) ++ fault (without inject head_lines) ++ fault (without bsigss head_lines) ++ fault (without sig0s head_lines) ++ fault (without coding head_lines))
    (4 ∷ 4 ∷ 4 ∷ 4 ∷ 4 ∷ [])
    ∷ row 9 "as request #105 amends it: a URI that differs in any byte from the one asked for is 16"
    (faults uri ("X-Ouinet-URI: https://example.com/Hello" ∷ "X-Ouinet-URI: https://example.com/hell" ∷ "X-Ouinet-URI: https://example.com/hello/" ∷ "X-Ouinet-URI: x" ∷ [])
    ++ fault_by (asking "HTTPS://EXAMPLE.COM/HELLO") head_lines
    ++ fault_by (asking "https://example.com/") head_lines
    ++ fault_by (asking "") head_lines)
    (16 ∷ 16 ∷ 16 ∷ 16 ∷ 16 ∷ 16 ∷ 16 ∷ [])
    ∷ row 9 "and 16 goes after all of 3, 4 and 5, and before 12"
    (fault_by (asking "x") (head_lines ++ (octets "Bad") ∷ [])
    ++ fault_by (asking "x") (head_lines ++ (octets "x-ouinet-uri: x") ∷ [])
    ++ fault_by (asking "x") (without version head_lines)
    ++ fault_by (asking "x") (put version (octets "X-Ouinet-Version: 5") head_lines)
    ++ fault_by (asking "x") (put status (octets "HTTP/1.1 404 x") head_lines)
    ++ fault_by (asking "x") (without coding head_lines)
    ++ fault_by (asking "") (put uri (octets "X-Ouinet-URI:") head_lines)
    ++ fault_by (asking "x") (without bsigss head_lines)
    ++ fault_by (asking "x") (put sig0s (sig0 key middle (octets "(response-status) (created)") signature) head_lines)
    ++ fault_by no_terms head_lines
    ++ fault_by (asking "x") (put bsigss (bsigs (replicate 42 65 ++ octets "E=") (octets ",algorithm=\"hs2019\",size=5")) head_lines))
    (3 ∷ 3 ∷ 4 ∷ 5 ∷ 4 ∷ 4 ∷ 4 ∷ 4 ∷ 4 ∷ 16 ∷ 16 ∷ [])
    ∷ row 9 "it ends the reading where the head ends, and asks nothing"
    (placed (plain_reading (asking "https://example.com/Hello") (as_lines head_lines ++ hello) yes true) ++ placed (plain_reading terms (as_lines head_lines ++ hello) (false ∷ []) true))
    (653 ∷ 5 ∷ 16 ∷ 653 ∷ 1 ∷ 219 ∷ 0 ∷ 653 ∷ 5 ∷ 10 ∷ [])
    ∷ row 9 "12 goes last" (fault_by (trusting []) head_lines ++ fault_by (trusting []) (without coding head_lines)) (12 ∷ 4 ∷ [])
    ∷ row 9 "the injection"
    (faults inject
    ("X-Ouinet-Injection: id=aZ09-_,ts=1584748800" ∷ "X-Ouinet-Injection: id=a.b,ts=0" ∷ "X-Ouinet-Injection: id=a, ts=0" ∷ "X-Ouinet-Injection: id=a,ts=" ∷ "X-Ouinet-Injection: id=a,ts=00" ∷ "X-Ouinet-Injection: id=a,ts=0x" ∷ "X-Ouinet-Injection: id=a,ts=1,x=1" ∷ "X-Ouinet-Injection: ts=0,id=a" ∷ "X-Ouinet-Injection: ID=a,ts=0" ∷ "X-Ouinet-Injection: id=a,ts=1234567890123" ∷ "X-Ouinet-Injection: id=a,ts=123456789012" ∷ []))
    (0 ∷ 4 ∷ 4 ∷ 4 ∷ 4 ∷ 4 ∷ 4 ∷ 4 ∷ 4 ∷ 4 ∷ 12 ∷ [])
    ∷ row 9 "an id of 64 letters, and of 65"
    (fault (put inject (octets "X-Ouinet-Injection: id=" ++ replicate 64 97 ++ octets ",ts=0") head_lines)
    ++ fault (put inject (octets "X-Ouinet-Injection: id=" ++ replicate 65 97 ++ octets ",ts=0") head_lines))
    (0 ∷ 4 ∷ [])
    ∷ row 10 "spaces and tabs at a value's ends are cut first; of what is asked for nothing is cut"
    (fault (put uri (octets "X-Ouinet-URI:\t https://example.com/hello\t ") head_lines)
    ++ fault_by (asking "https://example.com/hello ") head_lines
    ++ fault_by (asking " https://example.com/hello ") (put uri (octets "X-Ouinet-URI: https://example.com/hello ") head_lines)
    ++ fault (put version (octets "X-Ouinet-Version:\t 4 \t") (put coding (octets "Transfer-Encoding:chunked\t ") (put inject (octets "X-Ouinet-Injection: id=a,ts=0 ") head_lines)))
    ++ fault (put bsigss (bsigs key (octets ",algorithm=\"hs2019\",size=5 \t")) head_lines))
    (0 ∷ 16 ∷ 16 ∷ 0 ∷ 0 ∷ [])
    -- the key ring, keys and signatures
    ∷ row 11 "both bounds of the span are inside it"
    (ring_says (record { key = replicate 32 0; first = 1_584_748_800; last = 1_584_748_800 } ∷ [])
    ++ ring_says (record { key = replicate 32 0; first = 0; last = 1_584_748_799 } ∷ [])
    ++ ring_says (record { key = replicate 32 0; first = 1_584_748_801; last = 1_999_999_999 } ∷ [])
    ++ ring_says [])
    (0 ∷ 0 ∷ 12 ∷ 0 ∷ 12 ∷ 0 ∷ 12 ∷ 0 ∷ [])
    ∷ row 11 "the first record that has the key and the span, counted from 0"
    (ring_says
    (record { key = other_key; first = 0; last = 9_999_999_999 }
    ∷ record { key = replicate 32 0; first = 0; last = 5 }
    ∷ record { key = replicate 32 0; first = 5; last = 9_999_999_999 }
    ∷ record { key = replicate 32 0; first = 0; last = 9_999_999_999 }
    ∷ []))
    (0 ∷ 2 ∷ [])
    ∷ row 11 "`ts` picks it, not `created`"
    (fault_by (trusting (record { key = replicate 32 0; first = 7; last = 7 } ∷ [])) (put inject (octets "X-Ouinet-Injection: id=a,ts=7") head_lines)
    ++ fault_by (trusting (record { key = replicate 32 0; first = 7; last = 7 } ∷ [])) (put sig0s (sig0 key (octets ",algorithm=\"hs2019\",created=7,") names signature) head_lines))
    (0 ∷ 12 ∷ [])
    ∷ row 12 "a good key unlike Sig0's is 12; spare bits, wrong length or wrong letters are 4"
    (fault (put bsigss (bsigs (replicate 42 65 ++ octets "E=") (octets ",algorithm=\"hs2019\",size=5")) head_lines)
    ++ fault (put bsigss (bsigs (replicate 42 65 ++ octets "B=") (octets ",algorithm=\"hs2019\",size=5")) head_lines)
    ++ fault (put bsigss (bsigs (replicate 42 65 ++ octets "C=") (octets ",algorithm=\"hs2019\",size=5")) head_lines)
    ++ fault (put bsigss (bsigs (replicate 44 65) (octets ",algorithm=\"hs2019\",size=5")) head_lines)
    ++ fault (put bsigss (bsigs (replicate 43 65) (octets ",algorithm=\"hs2019\",size=5")) head_lines)
    ++ fault (put bsigss (bsigs (replicate 42 65 ++ octets "==") (octets ",algorithm=\"hs2019\",size=5")) head_lines)
    ++ fault (put bsigss (bsigs (octets "-" ++ drop 1 key) (octets ",algorithm=\"hs2019\",size=5")) head_lines)
    ++ fault (put bsigss (bsigs (octets "AAA=" ++ drop 4 key) (octets ",algorithm=\"hs2019\",size=5")) head_lines)
    ++ fault (put bsigss (bsigs (key ++ octets " ") (octets ",algorithm=\"hs2019\",size=5")) head_lines)
    ++ fault (put bsigss (bsigs [] (octets ",algorithm=\"hs2019\",size=5")) head_lines))
    (12 ∷ 4 ∷ 4 ∷ 4 ∷ 4 ∷ 4 ∷ 4 ∷ 4 ∷ 4 ∷ 4 ∷ [])
    ∷ row 12 "a signature's spare bits and length; a key that no record has"
    (fault (put sig0s (sig0 key middle names (replicate 85 65 ++ octets "Q==")) head_lines)
    ++ fault (put sig0s (sig0 key middle names (replicate 85 65 ++ octets "B==")) head_lines)
    ++ fault (put sig0s (sig0 key middle names (replicate 85 65 ++ octets "I==")) head_lines)
    ++ fault (put sig0s (sig0 key middle names (replicate 87 65 ++ octets "=")) head_lines)
    ++ fault (put sig0s (sig0 key middle names (replicate 84 65)) head_lines)
    ++ fault (put sig0s (sig0 key middle names []) head_lines)
    ++ fault (put sig0s (sig0 (replicate 42 65 ++ octets "E=") middle names signature) head_lines)
    ++ fault (put sig0s (sig0 (replicate 42 65 ++ octets "F=") middle names signature) head_lines))
    (0 ∷ 4 ∷ 4 ∷ 4 ∷ 4 ∷ 4 ∷ 12 ∷ 4 ∷ [])
    ∷ row 12 "RFC 4648, section 10, and texts with spare bits"
    (base64_bytes 1 (octets "Zg==")
    ++ base64_bytes 2 (octets "Zm8=")
    ++ base64_bytes 4 (octets "Zm9vYg==")
    ++ base64_bytes 3 (octets "+/+/")
    ++ (as_number (is_base64 1 (octets "Zg==")) ∷ as_number (is_base64 1 (octets "Zh==")) ∷ as_number (is_base64 2 (octets "Zm8=")) ∷ as_number (is_base64 2 (octets "Zm9=")) ∷ as_number (is_base64 3 (octets "Zm8=")) ∷ as_number (is_base64 0 []) ∷ []))
    (102 ∷ 102 ∷ 111 ∷ 102 ∷ 111 ∷ 111 ∷ 98 ∷ 251 ∷ 255 ∷ 191 ∷ 1 ∷ 0 ∷ 1 ∷ 0 ∷ 0 ∷ 1 ∷ [])
    -- the list of names
    ∷ row 13 "the first two names, in any case"
    (list_faults
    ("(RESPONSE-status) (Created) X-OUINET-VERSION x-ouinet-uri x-ouinet-injection"
    ∷ "(created) (response-status) x-ouinet-version x-ouinet-uri x-ouinet-injection"
    ∷ "(response-status) x-ouinet-version (created) x-ouinet-uri x-ouinet-injection"
    ∷ "(created) x-ouinet-version x-ouinet-uri x-ouinet-injection"
    ∷ "(response-status) x-ouinet-version x-ouinet-uri x-ouinet-injection"
    ∷ "x-ouinet-version x-ouinet-uri x-ouinet-injection"
    ∷ "(response-status) (created)"
    ∷ ""
    ∷ []))
    (0 ∷ 4 ∷ 4 ∷ 4 ∷ 4 ∷ 4 ∷ 4 ∷ 4 ∷ [])
    ∷ row 13 "one space between"
    (list_faults
    ("(response-status)  (created) x-ouinet-version x-ouinet-uri x-ouinet-injection"
    ∷ "(response-status) (created) x-ouinet-version  x-ouinet-uri x-ouinet-injection"
    ∷ " (response-status) (created) x-ouinet-version x-ouinet-uri x-ouinet-injection"
    ∷ "(response-status) (created) x-ouinet-version x-ouinet-uri x-ouinet-injection "
    ∷ "(response-status) (created) x-ouinet-version\tx-ouinet-uri x-ouinet-injection"
    ∷ "(response-status) (created) x-ouinet-version, x-ouinet-uri x-ouinet-injection"
    ∷ []))
    (4 ∷ 4 ∷ 4 ∷ 4 ∷ 4 ∷ 4 ∷ [])
    ∷ row 13 "fields of this head, none twice, the three among them, Sig0 never"
    (list_faults
    ("(response-status) (created) x-ouinet-injection date x-ouinet-uri x-ouinet-version"
    ∷ "(response-status) (created) x-ouinet-version x-ouinet-uri x-ouinet-injection digest"
    ∷ "(response-status) (created) digest x-ouinet-version x-ouinet-uri x-ouinet-injection"
    ∷ "(response-status) (created) x-ouinet-version x-ouinet-uri x-ouinet-injection date DATE"
    ∷ "(response-status) (created) x-ouinet-version x-ouinet-uri x-ouinet-injection (created)"
    ∷ "(response-status) (created) x-ouinet-uri x-ouinet-injection"
    ∷ "(response-status) (created) x-ouinet-version x-ouinet-injection"
    ∷ "(response-status) (created) x-ouinet-version x-ouinet-uri"
    ∷ "(response-status) (created) x-ouinet-version x-ouinet-uri x-ouinet-injection x-ouinet-sig0"
    ∷ "(response-status) (created) x-ouinet-version x-ouinet-uri x-ouinet-injection X-Ouinet-SIG0"
    ∷ []))
    (0 ∷ 4 ∷ 4 ∷ 4 ∷ 4 ∷ 4 ∷ 4 ∷ 4 ∷ 4 ∷ 4 ∷ [])
    ∷ row 13 "32 names in all, and 33" (fault (listing 25) ++ fault (listing 26)) (0 ∷ 4 ∷ [])
    ∷ row 14 "BSigs and the coding may be listed, and need not be"
    (list_faults
    ("(response-status) (created) x-ouinet-version x-ouinet-uri x-ouinet-injection"
    ∷ "(response-status) (created) x-ouinet-version x-ouinet-uri x-ouinet-injection x-ouinet-bsigs transfer-encoding"
    ∷ []))
    (0 ∷ 0 ∷ [])
    -- the parameters, and the signing string
    ∷ row 15 "BSigs"
    (bsigs_faults
    (",algorithm=\"hs2019\",size=5"
    ∷ ", \t algorithm=\"hs2019\",\tsize=5"
    ∷ " ,algorithm=\"hs2019\",size=5"
    ∷ ",algorithm=\"hs2019\" ,size=5"
    ∷ ",algorithm =\"hs2019\",size=5"
    ∷ ",algorithm= \"hs2019\",size=5"
    ∷ ",algorithm=\"hs2019\",size= 5"
    ∷ ",algorithm=\"HS2019\",size=5"
    ∷ ",Algorithm=\"hs2019\",size=5"
    ∷ ",algorithm=hs2019,size=5"
    ∷ ",algorithm=\"hs2019 \",size=5"
    ∷ ",algorithm=\"hs2019\",size=\"5\""
    ∷ ",algorithm=\"hs2019\",size=05"
    ∷ ",algorithm=\"hs2019\",size="
    ∷ ",algorithm=\"hs2019\",size=5,"
    ∷ ",algorithm=\"hs2019\",size=5,x=1"
    ∷ ",algorithm=\"hs2019\",,size=5"
    ∷ ",size=5,algorithm=\"hs2019\""
    ∷ ",algorithm=\"hs2019\",size=1"
    ∷ ",algorithm=\"hs2019\",size=99999"
    ∷ ",algorithm=\"hs2019\",size=065536"
    ∷ ",algorithm=\"hs2019\",size=4294967297"
    ∷ []))
    (0 ∷ 0 ∷ 4 ∷ 4 ∷ 4 ∷ 4 ∷ 4 ∷ 4 ∷ 4 ∷ 4 ∷ 4 ∷ 4 ∷ 4 ∷ 4 ∷ 4 ∷ 4 ∷ 4 ∷ 4 ∷ 0 ∷ 4 ∷ 4 ∷ 4 ∷ [])
    ∷ row 15 "Sig0"
    (sig0_faults
    (",algorithm=\"hs2019\",created=1,"
    ∷ ",\t\talgorithm=\"hs2019\", created=0, \t"
    ∷ ",algorithm=\"hs2019\",created=01,"
    ∷ ",algorithm=\"hs2019\",created=,"
    ∷ ",algorithm=\"hs2019\",created=\"1\","
    ∷ ",algorithm=\"hs2019\",created=1 ,"
    ∷ ",algorithm=\"hs2019\",created =1,"
    ∷ ",algorithm=\"hs2019\",created=123456789012,"
    ∷ ",algorithm=\"hs2019\",created=1234567890123,"
    ∷ ",algorithm=\"hs2019\",created=1,expires=2,"
    ∷ ",algorithm=\"hs2019\","
    ∷ ",created=1,algorithm=\"hs2019\","
    ∷ ",algorithm=\"hs2018\",created=1,"
    ∷ ",algorithm=\"hs2019\",created=-1,"
    ∷ []))
    (0 ∷ 0 ∷ 4 ∷ 4 ∷ 4 ∷ 4 ∷ 4 ∷ 0 ∷ 4 ∷ 4 ∷ 4 ∷ 4 ∷ 4 ∷ 4 ∷ [])
    ∷ row 15 "around the quotes, and the key's own name"
    (fault (put sig0s (octets "X-Ouinet-Sig0:" ++ key_is key ++ middle ++ octets "headers=\"" ++ names ++ octets "\", \tsignature=\"" ++ signature ++ octets "\" ") head_lines)
    ++ fault (put sig0s (octets "X-Ouinet-Sig0:" ++ key_is key ++ middle ++ octets "headers=\"" ++ names ++ octets "\" ,signature=\"" ++ signature ++ octets "\"") head_lines)
    ++ fault (put sig0s (octets "X-Ouinet-Sig0:" ++ key_is key ++ middle ++ octets "headers=\"" ++ names ++ octets "\",signature=\"" ++ signature ++ octets "\",") head_lines)
    ++ fault (put sig0s (octets "X-Ouinet-Sig0:" ++ key_is key ++ middle ++ octets "headers=\"" ++ names ++ octets "\",signature=\"" ++ signature) head_lines)
    ++ fault (put sig0s (octets "X-Ouinet-Sig0:" ++ key_is key ++ middle ++ octets "signature=\"" ++ signature ++ octets "\",headers=\"" ++ names ++ octets "\"") head_lines)
    ++ fault (put bsigss (octets "X-Ouinet-BSigs: keyId=\"ED25519=" ++ key ++ octets "\",algorithm=\"hs2019\",size=5") head_lines)
    ++ fault (put bsigss (octets "X-Ouinet-BSigs: keyid=\"ed25519=" ++ key ++ octets "\",algorithm=\"hs2019\",size=5") head_lines)
    ++ fault (put bsigss (octets "X-Ouinet-BSigs: keyId=\"" ++ key ++ octets "\",algorithm=\"hs2019\",size=5") head_lines))
    (0 ∷ 4 ∷ 4 ∷ 4 ∷ 4 ∷ 4 ∷ 4 ∷ 4 ∷ [])
    ∷ row 16 "names in lower case as listed, values as trimmed, `created` as given"
    (signing_string (head_of (as_lines (put status (octets "HTTP/1.1 301 ") (put date (octets "DATE:\t a\tB  c \t") (put sig0s (sig0 key (octets ",algorithm=\"hs2019\",created=0,") (octets "(Response-Status) (CREATED) Date X-OUINET-INJECTION x-ouinet-uri X-Ouinet-Version x-e") signature) head_lines)) ++ (octets "X-E:") ∷ []))))
    (octets "(response-status): 301\n(created): 0\ndate: a\tB  c\nx-ouinet-injection: id=qwertyuiop-12345,ts=1584748800\nx-ouinet-uri: https://example.com/hello\nx-ouinet-version: 4\nx-e: ")
    ∷ row 16 "as request #102 amends it: the values of a field that is there more than once, in order, with a comma and a space"
    (signing_string (head_of (as_lines (put date (octets "DATE: a \t") (put sig0s (sig0 key middle (octets "(response-status) (created) Date x-ouinet-uri") signature) head_lines) ++ (octets "date:") ∷ (octets "dATE:\tb") ∷ []))))
    (octets "(response-status): 200\n(created): 1584748800\ndate: a, , b\nx-ouinet-uri: https://example.com/hello")
    ∷ []

-- chunk lines, blocks and their messages
pub block_rules : List Row
block_rules =
    -- blocks
    row 18 "order at a line: 6, 8, 7, 9"
    (line_fault 5 whole false true 0 (octets "5;ouisig=" ++ replicate 88 61 ++ octets "\r\n")
    ∷ line_fault 5 whole false true 0 (signed "6")
    ∷ line_fault 5 whole true true 5 (octets "6\r\n")
    ∷ line_fault 5 whole true true 4_294_967_295 (signed "6")
    ∷ line_fault 5 whole true false 4_294_967_295 (signed "5")
    ∷ line_fault 5 whole true true 4_294_967_295 (signed "5")
    ∷ [])
    (6 ∷ 8 ∷ 8 ∷ 7 ∷ 7 ∷ 9 ∷ [])
    ∷ row 18 "on a refusal the block before is not asked about"
    (body yes false (hello ++ signed "6") ++ body yes false (hello ++ octets "0\r\n\r\n") ++ body yes false (hello ++ octets "x\r\n"))
    (109 ∷ 5 ∷ 7 ∷ 13 ∷ 5 ∷ 8 ∷ 13 ∷ 5 ∷ 6 ∷ [])
    ∷ row 19 "size above N; a short block, then more, or none"
    (first_lines ("5" ∷ "6" ∷ "00000006" ∷ "FFFFFFFF" ∷ [])
    ++ body yes false (octets "4\r\nHell\r\n" ++ signed "1")
    ++ body yes false (octets "4\r\nHell\r\n" ++ signed "5")
    ++ body yes false (octets "4\r\nHell\r\n" ++ signed "0" ++ octets "\r\n"))
    (0 ∷ 7 ∷ 7 ∷ 7 ∷ 108 ∷ 5 ∷ 7 ∷ 108 ∷ 5 ∷ 7 ∷ 108 ∷ 1 ∷ 70 ∷ 7 ∷ 108 ∷ 3 ∷ 0 ∷ 4 ∷ 110 ∷ 4 ∷ 4 ∷ [])
    ∷ row 20 "`ouisig` on the first line, and none on a later one"
    (body yes false (signed "5") ++ body yes false (signed "0") ++ body yes false (hello ++ octets "5\r\n") ++ body yes false (hello ++ octets "0\r\n"))
    (99 ∷ 5 ∷ 8 ∷ 99 ∷ 5 ∷ 8 ∷ 13 ∷ 5 ∷ 8 ∷ 13 ∷ 5 ∷ 8 ∷ [])
    ∷ row 21 "a body of 4,294,967,296 bytes is good, one more is 9; the offset is in bytes"
    (line_fault 65_536 whole true true 4_294_901_760 (signed "10000")
    ∷ line_fault 65_536 whole true true 4_294_901_761 (signed "10000")
    ∷ line_fault 65_536 whole true true 4_294_967_296 (signed "0")
    ∷ placed (reading (rules no_terms) (next_line show (record { blocks = 858_993_458; hash = replicate 64 1; body = [] }) (octets "Hello")) (signed "1") yes false)
    ++ placed (reading (rules no_terms) (next_line show (record { blocks = 858_993_458; hash = replicate 64 1; body = [] }) (octets "Hello")) (signed "2") yes false))
    (0 ∷ 9 ∷ 0 ∷ 99 ∷ 1 ∷ 79 ∷ 7 ∷ 99 ∷ 3 ∷ 4_294_967_290 ∷ 5 ∷ 99 ∷ 5 ∷ 9 ∷ [])
    ∷ row 22 "sizes" (first_lines ("05" ∷ "00000000" ∷ "0000000a" ∷ "" ∷ "G" ∷ "5 " ∷ "\t5" ∷ "+5" ∷ "0x5" ∷ "5;" ∷ "5;x=y" ∷ "5;ouisig=" ∷ "123456789" ∷ "5\r" ∷ []))
    (0 ∷ 0 ∷ 7 ∷ 6 ∷ 6 ∷ 6 ∷ 6 ∷ 6 ∷ 6 ∷ 6 ∷ 6 ∷ 6 ∷ 6 ∷ 6 ∷ [])
    ∷ row 22 "every hex digit of either case" (chunk_size (octets "01234567\r\n") ∷ chunk_size (octets "89aBcDeF\r\n") ∷ chunk_size (octets "fEdCbA98\r\n") ∷ [])
    (19_088_743 ∷ 2_309_737_967 ∷ 4_275_878_552 ∷ [])
    ∷ row 22 "what follows the size"
    (line_fault 5 whole true true 5 (octets "5;OUISIG=" ++ signature ++ octets "\r\n")
    ∷ line_fault 5 whole true true 5 (octets ";ouisig=" ++ signature ++ octets "\r\n")
    ∷ line_fault 5 whole true true 5 (octets "5; ouisig=" ++ signature ++ octets "\r\n")
    ∷ line_fault 5 whole true true 5 (octets "5 ;ouisig=" ++ signature ++ octets "\r\n")
    ∷ line_fault 5 whole true true 5 (octets "5;ouisig=" ++ signature ++ octets " \r\n")
    ∷ line_fault 5 whole true true 5 (octets "5;ouisig=" ++ signature ++ octets ";a\r\n")
    ∷ line_fault 5 whole true true 5 (octets "5;ouisig=" ++ replicate 85 65 ++ octets "B==\r\n")
    ∷ line_fault 5 whole true true 5 (octets "5;ouisig=" ++ replicate 88 65 ++ octets "\r\n")
    ∷ line_fault 5 whole true true 5 (octets "5;ouisig=\"" ++ signature ++ octets "\"\r\n")
    ∷ line_fault 5 whole true true 5 (signed "00000005")
    ∷ [])
    (6 ∷ 6 ∷ 6 ∷ 6 ∷ 6 ∷ 6 ∷ 6 ∷ 6 ∷ 6 ∷ 0 ∷ [])
    ∷ row 23 "document 000's messages: id, offset in bytes, and the chain of hashes, each over the 64 bytes of the one before"
    (asked (reading (rules no_terms) (first_line show) (hello ++ signed "5" ++ octets " worl\r\n" ++ signed "2" ++ octets "d!\r\n" ++ signed "0") yes false))
    (octets "abc"
    ++ 0 ∷ 48 ∷ 0 ∷ hex_bytes (octets "3615f80c9d293ed7402687f94b22d58e529b8cc7916f8fac7fddf7fbd5af4cf777d3d795a7a00a16bf7e7f3fb9561ee9baae480da9fe7a18769e71886b03f315")
    ++ octets "abc"
    ++ 0 ∷ 53 ∷ 0 ∷ hex_bytes (octets "9f3cda2fa89c046c51a5635693a5c8e26a8a19fa0675c785bb1b318910db4ea49ee281e264d1f1461533f48e81d81eb53dd6addd21ad9e42ec46182b93c37d5e")
    ++ octets "abc"
    ++ 0 ∷ 49 ∷ 48 ∷ 0 ∷ hex_bytes (octets "a5424a9d7faf90c636fe14686de2b44e490d36e94113aec176d68cd7e86b59e4d8df7712e62f967c27a54e7216f812b6371d456e94529b46423ac1acd797572c"))
    ∷ row 24 "an open question ends the reading; a no is 10, at the question's place; a yes gives the block before, then the size announced"
    (body [] true (hello ++ signed "2" ++ octets "d!\r\n")
    ++ body (false ∷ []) true (hello ++ signed "2" ++ octets "d!\r\n")
    ++ body (true ∷ []) true (hello ++ signed "2" ++ octets "d!\r")
    ++ released (reading (rules no_terms) (first_line show) (hello ++ signed "2" ++ octets "d!\r\n" ++ signed "0") yes false))
    ((109 ∷ 1 ∷ 70 ∷ 7 ∷ [])
    ++ (109 ∷ 1 ∷ 70 ∷ 7 ∷ 109 ∷ 5 ∷ 10 ∷ [])
    ++ (109 ∷ 1 ∷ 70 ∷ 7 ∷ 109 ∷ 3 ∷ 0 ∷ 5 ∷ 112 ∷ 5 ∷ 11 ∷ [])
    ++ octets "Hellod!")
    ∷ row 25 "an empty body asks nothing" (body [] false (octets "0\r\n\r\n") ++ body [] false (octets "00000000\r\nA: b\r\n\r\n") ++ body [] true (octets "0\r\n"))
    (5 ∷ 4 ∷ 0 ∷ 18 ∷ 4 ∷ 0 ∷ 3 ∷ 5 ∷ 11 ∷ [])
    ∷ row 26 "document 000's example as it prints it, its list with capitals, up to its trailer; *closed* has the total"
    (placed (plain_reading terms (document_head ++ document_body ++ octets "\r\n") (true ∷ yes) true))
    ((705 ∷ 1 ∷ 219 ∷ 0 ∷ 705 ∷ 2 ∷ 200 ∷ 5 ∷ [])
    ++ (814 ∷ 1 ∷ 83 ∷ 0 ∷ 814 ∷ 3 ∷ 0 ∷ 5 ∷ [])
    ++ (920 ∷ 1 ∷ 83 ∷ 0 ∷ 920 ∷ 3 ∷ 5 ∷ 5 ∷ [])
    ++ (1_023 ∷ 1 ∷ 84 ∷ 0 ∷ 1_023 ∷ 3 ∷ 10 ∷ 2 ∷ 1_025 ∷ 4 ∷ 12 ∷ []))
    ∷ []

-- SHA-512, against another program and against FIPS 180-4's own examples
pub hashes : List Row
hashes =
    row 23 "the standard's first example" (sha512 (octets "abc"))
    (hex_bytes (octets "ddaf35a193617abacc417349ae20413112e6fa4e89a97ea20a9eeee64b55d39a2192992a274fc1a836ba3c23a3feebbd454d4423643ce80e2a9ac94fa54ca49f"))
    ∷ row 23 "111 bytes, the most that one block has room for" (sha512 (replicate 111 97))
    (hex_bytes (octets "fa9121c7b32b9e01733d034cfc78cbf67f926c7ed83e82200ef86818196921760b4beff48404df811b953828274461673c68d04e297b0eb7b2b4d60fc6b566a2"))
    ∷ row 23 "the standard's example of 112 bytes, which takes two"
    (sha512 (octets "abcdefghbcdefghicdefghijdefghijkefghijklfghijklmghijklmnhijklmnoijklmnopjklmnopqklmnopqrlmnopqrsmnopqrstnopqrstu"))
    (hex_bytes (octets "8e959b75dae313da8cf4f72814fc143f8f7779c6eb9f7fa17299aeadb6889018501d289e4900f7e4331b99dec4b5433ac7d329eeb6dd26545e96e55b874be909"))
    ∷ []

head_texts_hold : broken 0 head_texts ≡ []
unfolding head_texts is_base64 letter_value holds_three holds_two holds_one joined_letters base64_bytes cut sections reading_at reading is_whole_line carries_signature is_chunk_line chunk_size line_signature line_rules line_fault chained block_message all same lowered same_name among is_doubled is_protected is_protected_doubled names_of has_field value_of values_of ends_head is_whole_head head_with head_of status_digits injection_id injection_time block_size block_key head_key listed_names head_signature signed_of signing_string trusted_by text_rules caller_rules head_fault ends_with lines before_empty text_lines trimmed field_scan is_field_line field_of are_field_lines fields_of status_scan is_status_line status_of number_from is_decimal is_hex_number decimal_within decimal fits first_from found first_broken injection_scan is_injection bsigs_scan is_bsigs sig0_scan is_sig0 split_names are_fields is_name_list separated signed_fields joined_fields signing_line signing_text is_whole show_of head_question accept_head judge_head judge_first_line judge_data_end block_question accept_block judge_next_line all_fields is_claimed judge_end judge_trailer judge rules plain_reading big_endian padding padded number parsed schedule round rounds sums compressed hashed unparsed digest round_words sha512 run past starts_with scan ends_trailer is_whole_trailer is_trailer carries_hash is_extension line_hash is_hash_due first_byte is_within range_of is_partial signed_status is_ranged start_from start_of released_with is_checked
head_texts_hold = refl

head_rules_hold : broken 0 head_rules ≡ []
unfolding head_rules is_base64 letter_value holds_three holds_two holds_one joined_letters base64_bytes cut sections reading_at reading is_whole_line carries_signature is_chunk_line chunk_size line_signature line_rules line_fault chained block_message all same lowered same_name among is_doubled is_protected is_protected_doubled names_of has_field value_of values_of ends_head is_whole_head head_with head_of status_digits injection_id injection_time block_size block_key head_key listed_names head_signature signed_of signing_string trusted_by text_rules caller_rules head_fault ends_with lines before_empty text_lines trimmed field_scan is_field_line field_of are_field_lines fields_of status_scan is_status_line status_of number_from is_decimal is_hex_number decimal_within decimal fits first_from found first_broken injection_scan is_injection bsigs_scan is_bsigs sig0_scan is_sig0 split_names are_fields is_name_list separated signed_fields joined_fields signing_line signing_text is_whole show_of head_question accept_head judge_head judge_first_line judge_data_end block_question accept_block judge_next_line all_fields is_claimed judge_end judge_trailer judge rules plain_reading big_endian padding padded number parsed schedule round rounds sums compressed hashed unparsed digest round_words sha512 run past starts_with scan ends_trailer is_whole_trailer is_trailer carries_hash is_extension line_hash is_hash_due first_byte is_within range_of is_partial signed_status is_ranged start_from start_of released_with is_checked
head_rules_hold = refl

block_rules_hold : broken 0 block_rules ≡ []
unfolding block_rules is_base64 letter_value holds_three holds_two holds_one joined_letters base64_bytes cut sections reading_at reading is_whole_line carries_signature is_chunk_line chunk_size line_signature line_rules line_fault chained block_message all same lowered same_name among is_doubled is_protected is_protected_doubled names_of has_field value_of values_of ends_head is_whole_head head_with head_of status_digits injection_id injection_time block_size block_key head_key listed_names head_signature signed_of signing_string trusted_by text_rules caller_rules head_fault ends_with lines before_empty text_lines trimmed field_scan is_field_line field_of are_field_lines fields_of status_scan is_status_line status_of number_from is_decimal is_hex_number decimal_within decimal fits first_from found first_broken injection_scan is_injection bsigs_scan is_bsigs sig0_scan is_sig0 split_names are_fields is_name_list separated signed_fields joined_fields signing_line signing_text is_whole show_of head_question accept_head judge_head judge_first_line judge_data_end block_question accept_block judge_next_line all_fields is_claimed judge_end judge_trailer judge rules plain_reading big_endian padding padded number parsed schedule round rounds sums compressed hashed unparsed digest round_words sha512 run past starts_with scan ends_trailer is_whole_trailer is_trailer carries_hash is_extension line_hash is_hash_due first_byte is_within range_of is_partial signed_status is_ranged start_from start_of released_with is_checked
block_rules_hold = refl

hashes_hold : broken 0 hashes ≡ []
unfolding hashes same number_from big_endian padding padded number parsed schedule round rounds sums compressed hashed unparsed digest round_words sha512
hashes_hold = refl

-- Every row holds.
pub ledger_holds : (broken 0 head_texts ≡ []) × (broken 0 head_rules ≡ []) × (broken 0 block_rules ≡ []) × (broken 0 hashes ≡ [])
ledger_holds = (head_texts_hold, head_rules_hold, block_rules_hold, hashes_hold)
