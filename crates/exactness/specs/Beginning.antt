-- A stream's beginning, taken apart: the head and the first chunk line, then by turns a block, its CR LF and the line after it
-- (paper 01, "The plain reading": "Head, then chunk line, data and data end by turns"). Here is only what such parts amount
-- to; which of them keep the rules is said in Good. Assumes nothing.
use Rattle.std.specs.Prelude.{Bool, true, false, List, [], ◌++◌, ℕ, zero, suc, ◌+◌, ◌*◌}
use Rattle.stream.specs.Blocks.{chunk_size, line_hash, chained}
use Rattle.stream.specs.Head.{Head, head_of, range_of, block_size}
use Rattle.stream.specs.Lines.{crlf}
use Rattle.stream.specs.Range.{Range, first_byte}

pub data Beginning : Type 0 where
  -- a head, and the first chunk line
  opening : List ℕ → List ℕ → Beginning
  -- a beginning, the block that comes after it, and the line after that block
  onward : Beginning → List ℕ → List ℕ → Beginning

-- its bytes: "After a chunk's data come CR LF"
unfoldable pub written : Beginning → List ℕ
written (opening h l) = h ++ l
written (onward w b l) = written w ++ (b ++ (crlf ++ l))

-- what its head says
unfoldable pub head_in : Beginning → Head
head_in (opening h l) = head_of h
head_in (onward w b l) = head_in w

-- N
abbrev pub size : Beginning → ℕ
size w = block_size (head_in w)

-- the bytes of the body that the answer carries, and where they begin: 0, or request #104's a
abbrev pub range : Beginning → Range
range w = range_of (head_in w)

abbrev pub start : Beginning → ℕ
start w = first_byte (range w)

-- the size that its last line announces
unfoldable pub announces : Beginning → ℕ
announces (opening h l) = chunk_size l
announces (onward w b l) = chunk_size l

-- the number of its blocks
unfoldable pub blocks : Beginning → ℕ
blocks (opening h l) = 0
blocks (onward w b l) = suc (blocks w)

-- the body so far, of a part answer what came of it: the blocks joined
unfoldable pub body : Beginning → List ℕ
body (opening h l) = []
body (onward w b l) = body w ++ b

-- the hash before the first block, where the bytes begin at a and l is the first line: nothing, or request #104's `ouihash`: "If a is above 0 the
-- first chunk line carries `;ouihash=`"
abbrev pub hash_before : ℕ → List ℕ → List ℕ
hash_before zero l = []
hash_before (suc a) l = line_hash l

-- the hash of its last block: "hash(0) = SHA-512(block 0); hash(i) = SHA-512(hash(i-1), block i)"
unfoldable pub hash : Beginning → List ℕ
hash (opening h l) = hash_before (first_byte (range_of (head_of h))) l
hash (onward w b l) = chained (hash w) b

-- the offset of the block that comes after it: "i times N"; request #104: "Offsets start at a"
abbrev pub offset : Beginning → ℕ
offset w = start w + blocks w * size w

-- one question about the head, and one about each block
abbrev pub questions : Beginning → ℕ
questions w = suc (blocks w)

-- and one more about the end, where one is claimed
abbrev pub with_end : Bool → ℕ → ℕ
with_end true n = suc n
with_end false n = n
