-- The stream as a row of sections, and its plain reading (paper 01, "The plain reading"): head, then chunk line, data and
-- data end by turns, after the 0 line the trailer. Assumes nothing.
use Rattle.std.specs.Prelude.{Bool, true, false, List, [], ◌++◌, ℕ, zero, suc, ◌+◌, ◌-◌, ◌/◌, eqb, leb, length}
use Rattle.sections.specs.Reading.{Log, Verdict, go, ask, stop, granted, final, Rules, reading}
use Rattle.sha256.specs.Sha256.{sha256}
use Rattle.stream.specs.Blocks.{is_whole_line, chunk_size, line_signature, line_hash, line_fault, chained, block_message, offset_of}
use Rattle.stream.specs.Bytes.{same}
use Rattle.stream.specs.Ends.{all_fields, is_checked, ends_in, end_signature, end_fault, end_string}
use Rattle.stream.specs.Events.{Question, Release, head_accepted, block, LastWord, closed, complete, refused, place_of}
use Rattle.stream.specs.Head.{Head, is_whole_head, head_of, head_fault, status_digits, range_of, injection_id, block_size, head_signature, signed_of, signing_string, trusted_by}
use Rattle.stream.specs.Lines.{crlf, Field}
use Rattle.stream.specs.Numbers.{decimal_value}
use Rattle.stream.specs.Places.{head_place, line_place, data_end_place, trailer_place}
use Rattle.stream.specs.Range.{Range, first_byte}
use Rattle.stream.specs.Ring.{Ring, number_of}
use Rattle.stream.specs.Terms.{Terms}
use Rattle.stream.specs.Trailer.{is_whole_trailer, is_trailer}

-- what the head fixes for all that comes after it: the id, N, the number of the key's record in the ring, and all that it says, which the end of
-- the show is held against
pub record Show : Type 0 where
  pub id : List ℕ
  pub size : ℕ
  pub key_number : ℕ
  pub head : Head

-- the bytes of the body that the answer carries: whole and part answers are read alike (request #104)
abbrev pub range : Show → Range
range s = range_of s.head

-- what comes before a block: how many blocks of the show, the hash of the last of them, nothing where there is none, and the bytes of those that this
-- answer carries. The chain of hashes is started and continued here alone; a block's message takes the hash that it comes to.
pub record Past : Type 0 where
  pub blocks : ℕ
  pub hash : List ℕ
  pub body : List ℕ

abbrev pub nothing : Past
nothing = record { blocks = 0; hash = []; body = [] }

-- "Offsets start at a": before the part's first block come a / N blocks, since a is divisible by N; the hash of the last of them is given
unfoldable pub start_from : ℕ → ℕ → List ℕ → Past
start_from zero N hash = nothing
start_from (suc a) N hash = record { blocks = suc a / N; hash = hash; body = [] }

-- request #104: "If a is above 0 the first chunk line carries `;ouihash=` and 88 characters", where l is that line
unfoldable pub start_of : Show → List ℕ → Past
start_of s l = start_from (first_byte (range s)) s.size (line_hash l)

abbrev pub after : Past → List ℕ → Past
after p b = record { blocks = suc p.blocks; hash = chained p.hash b; body = p.body ++ b }

-- what the sections before tell about the section to come
pub data Context : Type 0 where
  head : Context
  first_line : Show → Context
  -- a block's data, of so many bytes; then its data end
  block_data : Show → Past → ℕ → Context
  data_end : Show → Past → List ℕ → Context
  -- the line after that block, which carries its signature
  next_line : Show → Past → List ℕ → Context
  -- the blocks are over, and the body has so many bytes
  trailer : Show → Past → ℕ → Context

-- a section is whole at its end, or at its length limit
unfoldable pub is_whole : Context → List ℕ → Bool
is_whole head l = is_whole_head l
is_whole (first_line s) l = is_whole_line l
is_whole (block_data s p n) l = leb n (length l)
is_whole (data_end s p b) l = leb 2 (length l)
is_whole (next_line s p b) l = is_whole_line l
is_whole (trailer s p total) l = is_whole_trailer l

abbrev pub Says : Type 0
Says = Verdict Context Question Release LastWord

-- where no rule is broken, what is said; else the refusal, with the place of the section's text
abbrev pub unless_broken : ℕ → ℕ → Says → Says
unless_broken zero place says = says
unless_broken (suc n) place says = stop (refused (suc n) (place_of (suc n) place))

-- after a line that announces n bytes: a block, or, "size 0 ends the body", the trailer of a body of `total` bytes
abbrev pub announced : Show → Past → ℕ → ℕ → Context
announced s p total zero = trailer s p total
announced s p total (suc n) = block_data s p (suc n)

-- ---- what each whole section says

-- "A good head gives question: signing string, Sig0's signature, the record found"; a yes gives *head accepted*
unfoldable pub show_of : Ring → Head → Show
show_of ring h = record { id = injection_id h; size = block_size h; key_number = number_of (trusted_by ring h); head = h }

unfoldable pub head_question : Ring → Head → Question
head_question ring h = record { message = signing_string h; signature = head_signature h; key_number = number_of (trusted_by ring h) }

unfoldable pub accept_head : Ring → Head → Says
accept_head ring h =
    ask (head_question ring h) (granted (head_accepted (decimal_value (status_digits h)) (signed_of h)) (first_line (show_of ring h)))

unfoldable pub judge_head : Terms → List ℕ → Says
judge_head terms l = unless_broken (head_fault terms l) (head_place l) (accept_head terms.ring (head_of l))

-- "The first line carries no `ouisig`"; nothing is asked. No signature is due (false); there is no block before it that could be short
-- (true); the answer's bytes begin here; and none has come (0).
unfoldable pub judge_first_line : Show → List ℕ → Says
judge_first_line s l =
    unless_broken (line_fault s.size (range s) false true (first_byte (range s)) l) (line_place l) (go (announced s (start_of s l) 0 (chunk_size l)))

-- "judged when both have come"
unfoldable pub judge_data_end : Show → Past → List ℕ → List ℕ → Says
judge_data_end s p b l = elim (same l crlf) [ true ↦ go (next_line s p b) | false ↦ stop (refused 6 (data_end_place l)) ]

abbrev pub block_offset : Show → Past → ℕ
block_offset s p = offset_of p.blocks s.size

-- the bytes of the body up to and with the block b; and those of them that this answer carries: "Its total is the bytes released"
abbrev pub body_with : Show → Past → List ℕ → ℕ
body_with s p b = block_offset s p + length b

unfoldable pub released_with : Show → Past → List ℕ → ℕ
released_with s p b = body_with s p b - first_byte (range s)

-- "A good line with `ouisig` gives one for the block before: block message, that signature, the same record"
unfoldable pub block_question : Show → Past → List ℕ → List ℕ → Question
block_question s p b l =
    record {
      message = block_message s.id (block_offset s p) (chained p.hash b);
      signature = line_signature l;
      key_number = s.key_number;
    }

unfoldable pub accept_block : Show → Past → List ℕ → List ℕ → Says
accept_block s p b l =
    ask (block_question s p b l)
    (granted (block (block_offset s p) b) (announced s (after p b) (released_with s p b) (chunk_size l)))

unfoldable pub judge_next_line : Show → Past → List ℕ → List ℕ → Says
judge_next_line s p b l =
    unless_broken (line_fault s.size (range s) true (eqb (length b) s.size) (body_with s p b) l) (line_place l) (accept_block s p b l)

-- "then a question over Sig1", with the head's record, since the ring is read only when the head is judged
unfoldable pub end_question : Show → List Field → Question
end_question s fs =
    record { message = end_string s.head (ends_in fs); signature = end_signature (ends_in fs); key_number = s.key_number }

-- The end of the show, by the fields of its head and its trailer, where the body has `total` bytes and the SHA-256 `hash`: request #101's "none of
-- the three, *closed* as today", the rules of the end, and "A yes gives a new last word, *complete*, with the total". A part answer is closed unchecked.
unfoldable pub judge_end : Show → ℕ → List ℕ → List Field → Says
judge_end s total hash fs =
    elim (is_checked (range s) fs) [
      | true ↦ unless_broken (end_fault s.head fs total hash) 0 (ask (end_question s fs) (final (complete total)))
      | false ↦ stop (closed total)
    ]

-- "A good trailer gives *closed*", and since request #101 the end that it claims is judged: "At the trailer's end"
unfoldable pub judge_trailer : Show → Past → ℕ → List ℕ → Says
judge_trailer s p total l =
    elim (is_trailer l) [
      | true ↦ judge_end s total (sha256 p.body) (all_fields s.head l)
      | false ↦ stop (refused 6 (trailer_place l))
    ]

unfoldable pub judge : Terms → Context → List ℕ → Says
judge terms head l = judge_head terms l
judge terms (first_line s) l = judge_first_line s l
judge terms (block_data s p n) l = go (data_end s p l)
judge terms (data_end s p b) l = judge_data_end s p b l
judge terms (next_line s p b) l = judge_next_line s p b l
judge terms (trailer s p total) l = judge_trailer s p total l

-- ---- the plain reading

-- "a no gives refusal 10"; "a told end gives refusal 11"
unfoldable pub rules : Terms → Rules Context Question Release LastWord
rules terms = record { whole = is_whole; judge = judge terms; denied = refused 10 0; unfinished = refused 11 0 }

-- "It is given stream bytes, ring, answers and whether the end was told"; request #105: and "that URI as one more fixed input"
unfoldable pub plain_reading : Terms → List ℕ → List Bool → Bool → Log Question Release LastWord
plain_reading terms stream answers told = reading (rules terms) head stream answers told
