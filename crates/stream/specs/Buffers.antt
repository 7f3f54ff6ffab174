-- What a stream leaves in the three lent buffers, beside its plain reading (paper 01, "When the reader says no"). Nothing is said of buffers
-- that are too short: then no byte is taken. Assumes nothing.
use Rattle.std.specs.Prelude.{Bool, List, ◌++◌, ℕ, length, drop, replicate}
use Rattle.sections.specs.Reading.{cut}
use Rattle.sections.specs.Calls.{part}
use Rattle.sections.specs.Leaving.{Effects, leaving}
use Rattle.stream.specs.Events.{Question, LastWord, closed, complete, refused}
use Rattle.stream.specs.Head.{is_whole_head}
use Rattle.stream.specs.Stream.{Context, head, first_line, block_data, data_end, next_line, trailer, rules}
use Rattle.stream.specs.Terms.{Terms}

-- paper 01's head hold, block hold and question hold
pub record Buffers : Type 0 where
  pub head : List ℕ
  pub block : List ℕ
  pub question : List ℕ

-- l at the front of a buffer "and nothing after it"
abbrev pub front : List ℕ → List ℕ → List ℕ
front l buffer = l ++ drop (length l) buffer

abbrev pub into_head : List ℕ → Buffers → Buffers
into_head l b = record { head = front l b.head; block = b.block; question = b.question }

abbrev pub into_block : List ℕ → Buffers → Buffers
into_block l b = record { head = b.head; block = front l b.block; question = b.question }

-- "Head bytes are gathered from the front of the head hold, block bytes and trailer bytes each from the front of the block hold; chunk lines
-- and data ends go into no hold"
unfoldable pub with_section : Context → List ℕ → Buffers → Buffers
with_section head l b = into_head l b
with_section (first_line s) l b = b
with_section (block_data s p n) l b = into_block l b
with_section (data_end s p d) l b = b
with_section (next_line s p d) l b = b
with_section (trailer s p total) l b = into_block l b

-- "A question writes its message at the front of the question hold and nothing after it"
unfoldable pub with_message : Question → Buffers → Buffers
with_message q b = record { head = b.head; block = b.block; question = front q.message b.question }

-- "the pending bytes gathered in the block hold (block or trailer)", where the bytes l have come of a section. A block is pending from its
-- first byte on, until a yes to the question that the line after it asks.
unfoldable pub pending : Context → List ℕ → ℕ
pending head l = 0
pending (first_line s) l = 0
pending (block_data s p n) l = length l
pending (data_end s p d) l = length d
pending (next_line s p d) l = length d
pending (trailer s p total) l = length l

-- "A final refusal sets the pending bytes .. to zero and alters no other byte of any hold beyond what was gathered or asked up to it";
-- *closed* and *complete* alter none
unfoldable pub with_last_word : Context → List ℕ → LastWord → Buffers → Buffers
with_last_word c l (closed total) b = b
with_last_word c l (complete total) b = b
with_last_word c l (refused n at) b = into_block (replicate (pending c l) 0) b

abbrev pub effects : Effects Context Question LastWord Buffers
effects = record { gather = with_section; ask = with_message; finish = with_last_word }

-- the three buffers after a stream: given what the plain reading is given, and their first contents
unfoldable pub buffers_after : Terms → List ℕ → List Bool → Bool → Buffers → Buffers
buffers_after terms stream answers told b = leaving (rules terms) effects head stream answers told b

-- the head bytes of a stream: its shortest beginning that is a whole head, or else all of it
abbrev pub head_bytes : List ℕ → List ℕ
head_bytes stream = part stream (cut is_whole_head stream)
