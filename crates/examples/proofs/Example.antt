-- Document 000's example, with size 5 and the body `Hello world!`, is an honest show: so it comes out whole. Assumes nothing.
use mathlib.Core.Bool.{Bool, true, false}
use mathlib.Core.List.{List, [], ◌∷◌, ◌++◌, append-nil}
use mathlib.Core.Path.{◌≡◌, refl, ◌∙◌}
use Prim.Native.Nat.{ℕ, ◌≤◌}
use native.Mathlib.Omega.{arith}
use lib.ListN.{length, replicate}
use Rattle.octets.specs.Octets.{octets}
use Rattle.base64_text.specs.Base64.{is_base64, letter_value, holds_three, holds_two, holds_one, joined_letters, base64_bytes, text_of}
use Rattle.sections.specs.Reading.{cut, cut_at}
use Rattle.sections.proofs.Cuts.{cut_is}
use Rattle.stream.specs.Bytes.{all, same, lowered, same_name}
use Rattle.stream.specs.Ends.{all_fields, is_claimed, is_checked}
use Rattle.stream.specs.Fields.{among, is_doubled, is_protected, is_protected_doubled, names_of, has_field, value_of}
use Rattle.stream.specs.Head.{ends_head, is_whole_head, head_with, head_of, status_digits, is_partial, signed_status, range_of, injection_time, block_size, block_key, head_key, listed_names, trusted_by, is_ranged, text_rules, caller_rules, head_fault}
use Rattle.stream.specs.Limits.{body_limit}
use Rattle.stream.specs.Lines.{ends_with, lines, before_empty, text_lines, trimmed, field_scan, is_field_line, field_of, are_field_lines, fields_of, status_scan, is_status_line, status_of}
use Rattle.stream.specs.Numbers.{number_from, is_decimal, is_hex_number}
use Rattle.stream.specs.Range.{whole, first_byte}
use Rattle.stream.specs.Ring.{fits, first_from, found}
use Rattle.stream.specs.Rule.{first_broken}
use Rattle.stream.specs.Signatures.{injection_scan, is_injection, bsigs_scan, is_bsigs, sig0_scan, is_sig0, split_names, are_fields, is_name_list}
use Rattle.stream.specs.Stream.{plain_reading}
use Rattle.stream.specs.Template.{run, past, starts_with, scan}
use Rattle.stream.specs.Terms.{Terms}
use Rattle.stream.specs.Trailer.{ends_trailer, is_whole_trailer, is_trailer}
use Rattle.stream.proofs.Cases.{events, events_from}
use Rattle.stream.proofs.Example.{terms, example_head, example_body}
use Rattle.stream.proofs.GivenHeads.{given_head}
use Rattle.exactness.specs.Beginning.{with_end}
use Rattle.exactness.specs.Good.{GoodHead, GoodTrailer, claims, GoodEnd, unclaimed}
use Rattle.exactness.specs.ShowEvents.{show_events}
use Rattle.exactness.specs.Shows.{Chunk, Sending, body_of, chunks_written, stream_of, Writes, HonestChunk, HonestChunks, Sized, Honest, yeses_of}
use Rattle.exactness.specs.Telling.{released}
use Rattle.exactness.proofs.Completeness.{show_complete, show_released}
use Rattle.exactness.proofs.Faults.{faultless_head, faultless_trailer}

-- ---- the example's body, after any good head with its size, and before any good trailer

pub computed_head : (head : List ℕ) → cut is_whole_head head ≡ cut_at head [] → head_fault terms head ≡ 0 → GoodHead terms head
computed_head head c f = faultless_head terms head (rw c at (cut_is is_whole_head head)).3 f

unfoldable pub chunk : List ℕ → List ℕ → Chunk
chunk digits block = record { block = block; digits = digits; signature = replicate 64 0 }

unfoldable pub chunks : List Chunk
chunks = chunk (octets "5") (octets "Hello") ∷ chunk (octets "5") (octets " worl") ∷ chunk (octets "2") (octets "d!") ∷ []

unfoldable pub show_between : List ℕ → List ℕ → Sending
show_between head trailer = record { head = head; before = []; chunks = chunks; zeros = octets "0"; trailer = trailer }

abbrev pub no_fields : List ℕ
no_fields = octets "\r\n"

abbrev pub show_after : List ℕ → Sending
show_after head = show_between head no_fields

-- it is written as the example is
stream_after : (head : List ℕ) → stream_of (show_after head) ≡ head ++ example_body
unfolding show_between chunks chunk chunks_written text_of
stream_after head = refl

pub computed_trailer : (trailer : List ℕ) → cut is_whole_trailer trailer ≡ cut_at trailer [] → is_trailer trailer ≡ true → GoodTrailer trailer
computed_trailer trailer c i = faultless_trailer trailer (rw c at (cut_is is_whole_trailer trailer)).3 i

pub trailer_cut : cut is_whole_trailer no_fields ≡ cut_at no_fields []
unfolding cut is_whole_trailer ends_trailer ends_with same
trailer_cut = refl

pub trailer_is : is_trailer no_fields ≡ true
unfolding is_trailer ends_trailer same are_field_lines text_lines before_empty lines
trailer_is = refl

chunk_honest : (digits block : List ℕ) → 1 ≤ length block → Writes digits (length block) → HonestChunk (chunk digits block)
unfolding chunk
chunk_honest digits block i w = record { some = i; size = w; bytes = refl; sixty_four = refl }

chunks_honest : HonestChunks chunks
unfolding chunks is_hex_number all number_from
chunks_honest = (
  chunk_honest (octets "5") (octets "Hello") (omega arith) (record { text = refl; value = refl }),
  (
    chunk_honest (octets "5") (octets " worl") (omega arith) (record { text = refl; value = refl }),
    (chunk_honest (octets "2") (octets "d!") (omega arith) (record { text = refl; value = refl }), tt),
  ),
)

chunks_sized : (N : ℕ) → N ≡ 5 → Sized N chunks
unfolding chunks chunk
chunks_sized N e = (omega arith, (omega arith, omega arith))

chunks_total : length (body_of chunks) ≤ body_limit
unfolding chunks chunk body_of
chunks_total = omega arith

body_joined : body_of chunks ≡ octets "Hello world!"
unfolding chunks chunk body_of
body_joined = refl

pub honest_between : (head trailer : List ℕ) → GoodHead terms head → block_size (head_of head) ≡ 5 → range_of (head_of head) ≡ whole → GoodTrailer trailer
    → GoodEnd (head_of head) (octets "Hello world!") trailer → Honest terms (show_between head trailer)
unfolding show_between is_hex_number all number_from first_byte
honest_between head trailer good five all_sent good_trailer good_end =
    record {
      head = good;
      chunks = chunks_honest;
      sized = chunks_sized (block_size (head_of head)) five;
      before = rw all_sent refl;
      total = rw all_sent chunks_total;
      zeros = record { text = refl; value = refl };
      trailer = good_trailer;
      end = rw body_joined good_end;
    }

pub honest_after : (head : List ℕ) → GoodHead terms head → block_size (head_of head) ≡ 5 → range_of (head_of head) ≡ whole
    → claims (head_of head) no_fields ≡ false → Honest terms (show_after head)
honest_after head good five all_sent none = honest_between head no_fields good five all_sent (computed_trailer no_fields trailer_cut trailer_is) (unclaimed none)

-- where no end is claimed, four yeses will do, and else one more
pub yeses_between : (head trailer : List ℕ) (x : Bool) → claims (head_of head) trailer ≡ x → yeses_of (show_between head trailer) ≡ with_end x 4
unfolding show_between chunks
yeses_between head trailer x e = rw e

-- with them it comes out whole
pub honest_whole : (s : Sending) (S : List ℕ) (n : ℕ) → Honest terms s → stream_of s ≡ S → yeses_of s ≡ n
    → (told : Bool) → plain_reading terms S (replicate n true) told ≡ show_events terms.ring s
honest_whole s S n honest stream yeses told =
    rw (← stream, ← yeses)
    (rw (append-nil (stream_of s), append-nil (replicate (yeses_of s) true)) at (show_complete terms s [] [] told honest))

pub whole_after : (head : List ℕ) → Honest terms (show_after head) → claims (head_of head) no_fields ≡ false
    → (told : Bool) → plain_reading terms (head ++ example_body) (replicate 4 true) told ≡ show_events terms.ring (show_after head)
whole_after head honest none told = honest_whole (show_after head) (head ++ example_body) 4 honest (stream_after head) (yeses_between head no_fields false none) told

pub body_between : (head trailer : List ℕ) → Honest terms (show_between head trailer)
    → released (show_events terms.ring (show_between head trailer)) ≡ octets "Hello world!"
unfolding show_between
body_between head trailer honest = show_released terms (show_between head trailer) honest ∙ body_joined

-- ---- the example's head

pub head_cut : cut is_whole_head example_head ≡ cut_at example_head []
unfolding cut is_whole_head ends_head ends_with same
head_cut = refl

-- so what a table says of it, given apart from what follows, is said of the plain reading
pub example_given : (t : Terms) (rest : List ℕ) (answers : List Bool)
    → events_from t example_head rest answers ≡ events (plain_reading t (example_head ++ rest) answers false)
example_given t rest answers = given_head t example_head rest answers head_cut

pub head_faultless : head_fault terms example_head ≡ 0
unfolding is_base64 letter_value holds_three holds_two holds_one joined_letters base64_bytes all same lowered same_name among is_doubled is_protected is_protected_doubled names_of has_field value_of ends_head head_with head_of status_digits is_partial signed_status injection_time block_size block_key head_key listed_names trusted_by is_ranged text_rules caller_rules head_fault ends_with lines before_empty text_lines trimmed field_scan is_field_line field_of are_field_lines fields_of status_scan is_status_line status_of number_from is_decimal fits first_from found first_broken injection_scan is_injection bsigs_scan is_bsigs sig0_scan is_sig0 split_names are_fields is_name_list run past starts_with scan
head_faultless = refl

pub size_five : block_size (head_of example_head) ≡ 5
unfolding head_with head_of block_size number_from lines before_empty text_lines trimmed field_scan field_of fields_of value_of same_name lowered same bsigs_scan injection_scan sig0_scan run past starts_with scan
size_five = refl

-- all of the body is sent
pub range_whole : range_of (head_of example_head) ≡ whole
unfolding head_with head_of status_digits is_partial range_of lines before_empty text_lines same status_scan status_of run past starts_with scan
range_whole = refl

-- none of the three fields of an end is in it, or after it
pub none_claimed : claims (head_of example_head) no_fields ≡ false
unfolding all_fields is_checked is_claimed head_with head_of lines before_empty text_lines trimmed field_scan field_of fields_of names_of has_field among same_name lowered same run past starts_with scan
none_claimed = rw range_whole

-- ---- the show

unfoldable pub example : Sending
example = show_after example_head

pub example_honest : Honest terms example
unfolding example
example_honest = honest_after example_head (computed_head example_head head_cut head_faultless) size_five range_whole none_claimed

pub example_whole : (told : Bool) → plain_reading terms (example_head ++ example_body) (replicate 4 true) told ≡ show_events terms.ring example
unfolding example
example_whole told = whole_after example_head example_honest none_claimed told

pub example_body_lem : released (show_events terms.ring example) ≡ octets "Hello world!"
unfolding example
example_body_lem = body_between example_head no_fields example_honest
