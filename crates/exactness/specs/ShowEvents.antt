-- What is to be told of an honest show, or of an honest part of one, computed from what is sent alone: every event with its place and all that it
-- carries (paper 01, "The plain reading" and "Blocks"; request #101 for the end, request #104 for parts). Assumes nothing.
use Rattle.std.specs.Prelude.{Bool, true, false, List, [], ◌∷◌, ℕ, suc, ◌+◌, length}
use Rattle.sections.specs.Reading.{question, message, last, Log}
use Rattle.stream.specs.Blocks.{chained, block_message, offset_of}
use Rattle.stream.specs.Events.{Question, Release, block, LastWord, closed, complete}
use Rattle.stream.specs.Head.{Head, head_of, range_of, injection_id, block_size, trusted_by}
use Rattle.stream.specs.Range.{first_byte}
use Rattle.stream.specs.Ring.{Ring, number_of}
use Rattle.exactness.specs.Shows.{Chunk, Sending, body_of, chunk_line, signed, hashed, claims_end, next_digits}
use Rattle.exactness.specs.Telling.{head_asks, head_tells, end_asks}

-- the offset of block i of those that are sent: "Offsets start at a"
abbrev pub chunk_offset : Head → ℕ → ℕ
chunk_offset h i = first_byte (range_of h) + offset_of i (block_size h)

-- The question about block i, where `before` is hash(i-1), or nothing for the first: its message, the signature that was
-- written down for it, and the record of the head's key.
unfoldable pub chunk_asks : Ring → Head → ℕ → List ℕ → Chunk → Question
chunk_asks ring h i before c =
    record {
      message = block_message (injection_id h) (chunk_offset h i) (chained before c.block);
      signature = c.signature;
      key_number = number_of (trusted_by ring h);
    }

-- where the line after a chunk ends, if the line before it ended at the place `at`: behind the block, its CR LF and that line
abbrev pub line_end : ℕ → Chunk → List Chunk → List ℕ → ℕ
line_end at c cs zeros = at + length c.block + 2 + length (chunk_line (next_digits cs zeros) (signed c.signature))

-- the last word, with the total: "none of the three, *closed*", else *complete*
abbrev pub good_word : Bool → ℕ → LastWord
good_word true total = complete total
good_word false total = closed total

-- The events at the end of the trailer, the place `at`: where an end is claimed its question and *complete*, else *closed*, with the total.
abbrev pub end_events : Ring → Sending → ℕ → Bool → Log Question Release LastWord
end_events ring s at true =
    (at, question (end_asks ring (head_of s.head) s.trailer)) ∷ (at, last (complete (length (body_of s.chunks)))) ∷ []
end_events ring s at false = (at, last (closed (length (body_of s.chunks)))) ∷ []

-- The events from block i on, where the line before it ended at the place `at`: for each block its question and then the block,
-- both at the end of the line after it; then those of the end.
unfoldable pub chunk_events : Ring → Sending → ℕ → List ℕ → ℕ → List Chunk → Log Question Release LastWord
chunk_events ring s i before at [] = end_events ring s (at + length s.trailer) (claims_end s)
chunk_events ring s i before at (c ∷ cs) =
    (line_end at c cs s.zeros, question (chunk_asks ring (head_of s.head) i before c))
    ∷ (line_end at c cs s.zeros, message (block (chunk_offset (head_of s.head) i) c.block))
    ∷ chunk_events ring s (suc i) (chained before c.block) (line_end at c cs s.zeros) cs

-- All events: the head's question and *head accepted* at its end, and those of the blocks.
unfoldable pub show_events : Ring → Sending → Log Question Release LastWord
show_events ring s =
    (length s.head, question (head_asks ring (head_of s.head)))
    ∷ (length s.head, message (head_tells (head_of s.head)))
    ∷ chunk_events ring s 0 s.before
    (length s.head + length (chunk_line (next_digits s.chunks s.zeros) (hashed s.before)))
    s.chunks
