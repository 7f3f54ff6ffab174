-- The reader's state as bytes. Assumes nothing.
use Rattle.std.specs.Prelude.{List, [], ◌∷◌, ◌++◌, ℕ, ◌%◌, ◌^◌, ◌<◌, eqb, leb, length}
use Rattle.std.proofs.lemmas.List.Edits.{sets}
use Rattle.octets.specs.Choice.{pick}
use Rattle.ranges.specs.declared.extent.Extent.{Extent}
use Rattle.ranges.specs.declared.extent.Extent.TheVariants.{Whole, Part}
use Rattle.sha256.specs.declared.Midstate.{Midstate}
use Rattle.stream.specs.Limits.{id_limit, line_limit}
use Rattle.state.specs.declared.phase.Phase.{Phase}
use Rattle.state.specs.declared.phase.Phase.TheVariants as P
use Rattle.state.specs.declared.reader.Chain.{Chain}
use Rattle.state.specs.declared.reader.Fixed.{Fixed}
use Rattle.state.specs.declared.reader.Reader.{Reader}
use Rattle.packing.specs.Parts.{little_endian, all_bytes, part, number_at, words_at}

-- how many bytes a state takes
abbrev pub state_size : ℕ
state_size = 504

-- ---- a phase as three numbers

abbrev pub tag_of : Phase → ℕ
tag_of (P.Head n) = 0
tag_of (P.HeadAsked n) = 1
tag_of (P.FirstLine n) = 2
tag_of (P.Data have size) = 3
tag_of (P.DataEnd have size) = 4
tag_of (P.NextLine have size) = 5
tag_of (P.BlockAsked size next) = 6
tag_of (P.Trailer have total) = 7
tag_of (P.EndAsked have total) = 10
tag_of (P.Closed total) = 8
tag_of (P.Complete total) = 11
tag_of (P.Refused n) = 9

abbrev pub first_of : Phase → ℕ
first_of (P.Head n) = n
first_of (P.HeadAsked n) = n
first_of (P.FirstLine n) = n
first_of (P.Data have size) = have
first_of (P.DataEnd have size) = have
first_of (P.NextLine have size) = have
first_of (P.BlockAsked size next) = size
first_of (P.Trailer have total) = have
first_of (P.EndAsked have total) = have
first_of (P.Closed total) = total
first_of (P.Complete total) = total
first_of (P.Refused n) = n

abbrev pub second_of : Phase → ℕ
second_of (P.Head n) = 0
second_of (P.HeadAsked n) = 0
second_of (P.FirstLine n) = 0
second_of (P.Data have size) = size
second_of (P.DataEnd have size) = size
second_of (P.NextLine have size) = size
second_of (P.BlockAsked size next) = next
second_of (P.Trailer have total) = total
second_of (P.EndAsked have total) = total
second_of (P.Closed total) = 0
second_of (P.Complete total) = 0
second_of (P.Refused n) = 0

-- the number of a refusal, 0 where there is none
abbrev pub refusal_of : Phase → ℕ
refusal_of (P.Head n) = 0
refusal_of (P.HeadAsked n) = 0
refusal_of (P.FirstLine n) = 0
refusal_of (P.Data have size) = 0
refusal_of (P.DataEnd have size) = 0
refusal_of (P.NextLine have size) = 0
refusal_of (P.BlockAsked size next) = 0
refusal_of (P.Trailer have total) = 0
refusal_of (P.EndAsked have total) = 0
refusal_of (P.Closed total) = 0
refusal_of (P.Complete total) = 0
refusal_of (P.Refused n) = n

-- the counts are numbers of 64 bits, and the number of a refusal is one byte
pub record InPhase (p : Phase) : Type 0 where
  pub first : first_of p < 2 ^ 64
  pub second : second_of p < 2 ^ 64
  pub refusal : refusal_of p < 256

-- the number of a refusal is one byte: of a larger one the lowest byte counts; any other tag is a refusal
unfoldable pub phase_of : ℕ → ℕ → ℕ → Phase
phase_of tag a b =
    pick (eqb tag 0) (P.Head a)
    (pick (eqb tag 1) (P.HeadAsked a)
    (pick (eqb tag 2) (P.FirstLine a)
    (pick (eqb tag 3) (P.Data a b)
    (pick (eqb tag 4) (P.DataEnd a b)
    (pick (eqb tag 5) (P.NextLine a b)
    (pick (eqb tag 6) (P.BlockAsked a b)
    (pick (eqb tag 7) (P.Trailer a b)
    (pick (eqb tag 8) (P.Closed a)
    (pick (eqb tag 9) (P.Refused (a % 256))
    (pick (eqb tag 10) (P.EndAsked a b)
    (pick (eqb tag 11) (P.Complete a) (P.Refused 0))))))))))))

-- ---- an extent as four numbers: 1 for a part, else 0; the first byte, the last, and how many there are in all

abbrev pub kind_of : Extent → ℕ
kind_of Whole = 0
kind_of (Part first last total) = 1

abbrev pub first_byte_of : Extent → ℕ
first_byte_of Whole = 0
first_byte_of (Part first last total) = first.0

abbrev pub last_byte_of : Extent → ℕ
last_byte_of Whole = 0
last_byte_of (Part first last total) = last.0

abbrev pub total_of : Extent → ℕ
total_of Whole = 0
total_of (Part first last total) = total

-- each is a number of 64 bits
pub record InExtent (e : Extent) : Type 0 where
  pub first : first_byte_of e < 2 ^ 64
  pub last : last_byte_of e < 2 ^ 64
  pub total : total_of e < 2 ^ 64

-- any other kind is the whole
unfoldable pub extent_from : ℕ → ℕ → ℕ → ℕ → Extent
extent_from kind first last total = pick (eqb kind 1) (Part (record { 0 = first }) (record { 0 = last }) total) Whole

-- ---- the whole state

-- a tag and two counts
abbrev pub phase_bytes : Phase → List ℕ
phase_bytes p = all_bytes (tag_of p ∷ first_of p ∷ second_of p ∷ [])

-- what the head fixed, but for the extent; the id stands before its length
abbrev pub fixed_bytes : Fixed → List ℕ
fixed_bytes f = all_bytes (f.accepted ∷ f.status ∷ f.block_size ∷ f.key ∷ []) ++ f.id ++ little_endian 8 f.id_length

-- the number of the block under way, and the hash of the one before it
abbrev pub chain_bytes : Chain → List ℕ
chain_bytes c = little_endian 8 c.number.0 ++ c.hash

-- the body so far, as SHA-256 has it under way: its words, the bytes that wait, and how many have come
abbrev pub body_bytes : Midstate → List ℕ
body_bytes h = all_bytes h.words ++ h.rest ++ little_endian 8 h.count

abbrev pub extent_bytes : Extent → List ℕ
extent_bytes e = all_bytes (kind_of e ∷ first_byte_of e ∷ last_byte_of e ∷ total_of e ∷ [])

-- one after the other, what is released, and then what requests #101 and #104 brought, which moved nothing: the body, and the extent
unfoldable pub encoded : Reader → List ℕ
encoded r =
    phase_bytes r.phase ++ fixed_bytes r.fixed ++ chain_bytes r.chain ++ r.line ++ little_endian 8 r.released
    ++ body_bytes r.chain.body
    ++ extent_bytes r.fixed.extent

-- written over the front of a buffer; one that is too short is left as it is
unfoldable pub stored : Reader → List ℕ → List ℕ
stored r l = pick (leb state_size (length l)) (sets l 0 (encoded r)) l

-- what any bytes say
unfoldable pub extent_in : List ℕ → Extent
extent_in l = extent_from (number_at l 472) (number_at l 480) (number_at l 488) (number_at l 496)

unfoldable pub fixed_in : List ℕ → Fixed
fixed_in l =
    record {
      accepted = number_at l 24;
      status = number_at l 32;
      block_size = number_at l 40;
      extent = extent_in l;
      key = number_at l 48;
      id = part l 56 id_limit;
      id_length = number_at l 120;
    }

unfoldable pub body_in : List ℕ → Midstate
body_in l = record { words = words_at l 336 8; rest = part l 400 64; count = number_at l 464 }

unfoldable pub chain_in : List ℕ → Chain
chain_in l = record { number = record { 0 = number_at l 128 }; hash = part l 136 64; body = body_in l }

unfoldable pub decoded : List ℕ → Reader
decoded l =
    record {
      phase = phase_of (number_at l 0) (number_at l 8) (number_at l 16);
      fixed = fixed_in l;
      chain = chain_in l;
      line = part l 200 line_limit;
      released = number_at l 328;
    }
