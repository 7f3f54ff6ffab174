-- A PART OF A SHOW (request #104: "A kit cut off at minute nine shouldn't start over"): what is sent of an honest show from one of its blocks to
-- another; and what it is for such a part to come out whole, with the same questions, offsets and bytes as in the whole show. Assumes nothing.
use Rattle.std.specs.Prelude.{Bool, true, List, [], ◌∷◌, ◌++◌, ◌≡◌, ℕ, suc, ◌+◌, length, replicate}
use Rattle.sections.specs.Reading.{question, message, last, Log}
use Rattle.stream.specs.Blocks.{chained}
use Rattle.stream.specs.Events.{Question, Release, head_accepted, block, LastWord, closed}
use Rattle.stream.specs.Head.{Head, head_of, range_of, injection_id, block_size, trusted_by}
use Rattle.stream.specs.Range.{whole, part}
use Rattle.stream.specs.Ring.{Ring, number_of}
use Rattle.stream.specs.Stream.{plain_reading}
use Rattle.stream.specs.Terms.{Terms}
use Rattle.exactness.specs.Good.{GoodHead, GoodTrailer}
use Rattle.exactness.specs.ShowEvents.{chunk_offset, chunk_asks, show_events}
use Rattle.exactness.specs.Shows.{Chunk, Sending, body_of, stream_of, Writes, Honest}

-- ---- a part

-- the hash of the last of these blocks, where `before` is that of the block before them: "hash(i) = SHA-512(hash(i-1), block i)"
unfoldable pub chain_of : List ℕ → List Chunk → List ℕ
chain_of before [] = before
chain_of before (c ∷ cs) = chain_of (chained before c.block) cs

-- p is a part of the whole show s: a run of its chunks, after a good head with the show's id, N and key record, and before any good trailer.
pub record PartOf (terms : Terms) (s p : Sending) : Type 0 where
  pub all_sent : range_of (head_of s.head) ≡ whole
  pub head : GoodHead terms p.head
  pub same_id : injection_id (head_of p.head) ≡ injection_id (head_of s.head)
  pub same_size : block_size (head_of p.head) ≡ block_size (head_of s.head)
  pub same_key : number_of (trusted_by terms.ring (head_of p.head)) ≡ number_of (trusted_by terms.ring (head_of s.head))
  pub earlier : List Chunk
  pub later : List Chunk
  pub run : earlier ++ (p.chunks ++ later) ≡ s.chunks
  -- `Content-Range: bytes a-b/t`: a bytes come before, b is the last that is sent, and the show has t
  pub last_byte : ℕ
  pub range : range_of (head_of p.head) ≡ part (length (body_of earlier)) last_byte (length (body_of s.chunks))
  pub sent : suc last_byte ≡ length (body_of earlier) + length (body_of p.chunks)
  -- the hash of the block before it, nothing where there is none
  pub before : p.before ≡ chain_of [] earlier
  pub zeros : Writes p.zeros 0
  pub trailer : GoodTrailer p.trailer

-- ---- what is told of blocks, without the places

-- the question about a block, its offset and its bytes
abbrev pub BlockEvent : Type 0
BlockEvent = Question × (ℕ × List ℕ)

-- read off a list of events: each block with the question that was asked last, where q was asked before
unfoldable pub blocks_after : Question → Log Question Release LastWord → List BlockEvent
blocks_after q [] = []
blocks_after q ((at, question r) ∷ log) = blocks_after r log
blocks_after q ((at, message (head_accepted status fields)) ∷ log) = blocks_after q log
blocks_after q ((at, message (block o b)) ∷ log) = (q, (o, b)) ∷ blocks_after q log
blocks_after q ((at, last l) ∷ log) = blocks_after q log

-- at first nothing was asked
abbrev pub blocks_told : Log Question Release LastWord → List BlockEvent
blocks_told log = blocks_after (record { message = []; signature = []; key_number = 0 }) log

-- computed from chunks of a show with the head h: block i and those after it, where `before` is hash(i-1)
unfoldable pub block_events : Ring → Head → ℕ → List ℕ → List Chunk → List BlockEvent
block_events ring h i before [] = []
block_events ring h i before (c ∷ cs) =
    (chunk_asks ring h i before c, (chunk_offset h i, c.block)) ∷ block_events ring h (suc i) (chained before c.block) cs

-- ---- the claim

-- The part p of the show s comes out whole.
pub record PartWhole (terms : Terms) (s p : Sending) (q : PartOf terms s p) : Type 0 where
  pub honest : Honest terms p
  -- with a yes for its head and one for each of its blocks, whatever follows, all its events are told and no others
  pub read : (r : List ℕ) (answers : List Bool) (told : Bool)
      → plain_reading terms (stream_of p ++ r) (replicate (suc (length p.chunks)) true ++ answers) told ≡ show_events terms.ring p
  -- "the last word is *closed*. Its total is the bytes released"
  pub others : Log Question Release LastWord
  pub closes : others ++ (length (stream_of p), last (closed (length (body_of p.chunks)))) ∷ [] ≡ show_events terms.ring p
  -- what is told of the show's blocks is what is told of the earlier ones, of the part, and of the later ones
  pub blocks : blocks_told (show_events terms.ring s)
      ≡ block_events terms.ring (head_of s.head) 0 [] q.earlier
      ++ (blocks_told (show_events terms.ring p)
      ++ block_events terms.ring (head_of s.head) (length (q.earlier ++ p.chunks)) (chain_of [] (q.earlier ++ p.chunks)) q.later)
