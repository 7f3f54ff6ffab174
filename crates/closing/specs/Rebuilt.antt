-- The show that a good beginning and a trailer are the stream of, read off these parts: a chunk's size as the line before its block
-- writes it, and the signature that the line after the block carries; the hash that the first line of a part carries. Assumes nothing.
use Rattle.std.specs.Prelude.{List, [], ◌∷◌, ◌++◌, ℕ}
use Rattle.stream.specs.Blocks.{size_text, line_signature}
use Rattle.exactness.specs.Beginning.{Beginning, opening, onward, hash}
use Rattle.exactness.specs.Shows.{Chunk, Sending}

unfoldable pub head_text : Beginning → List ℕ
head_text (opening h l) = h
head_text (onward w b l) = head_text w

-- the hash before its first block, nothing where there is none
unfoldable pub first_hash : Beginning → List ℕ
first_hash (opening h l) = hash (opening h l)
first_hash (onward w b l) = first_hash w

unfoldable pub last_line : Beginning → List ℕ
last_line (opening h l) = l
last_line (onward w b l) = l

-- the chunk of the block b between two lines
abbrev pub chunk_between : List ℕ → List ℕ → List ℕ → Chunk
chunk_between before b after = record { block = b; digits = size_text before; signature = line_signature after }

unfoldable pub chunks_in : Beginning → List Chunk
chunks_in (opening h l) = []
chunks_in (onward w b l) = chunks_in w ++ chunk_between (last_line w) b l ∷ []

-- the last line is the 0 line
abbrev pub show_from : Beginning → List ℕ → Sending
show_from w t = record { head = head_text w; before = first_hash w; chunks = chunks_in w; zeros = size_text (last_line w); trailer = t }
