-- A show, or a part of one (request #104), as its sender writes it down (paper 01, "Blocks"): the head, the body in blocks, and the trailer, with
-- sizes in hex of either case and leading zeros or not, and any 64 bytes for a signature; with an end that head and trailer claim, or none
-- (request #101). Assumes nothing.
use Rattle.std.specs.Prelude.{Bool, true, List, [], ◌∷◌, ◌++◌, ◌≡◌, ℕ, zero, suc, ◌+◌, ◌≤◌, length}
use Rattle.std.proofs.Math.Pow.{are_bytes}
use Rattle.base64_text.specs.Base64.{text_of}
use Rattle.stream.specs.Blocks.{ouisig, ouihash}
use Rattle.stream.specs.Head.{head_of, range_of, block_size}
use Rattle.stream.specs.Limits.{size_digits, body_limit}
use Rattle.stream.specs.Lines.{crlf}
use Rattle.stream.specs.Numbers.{is_hex_number, hex_value}
use Rattle.stream.specs.Range.{Range, whole, part, first_byte}
use Rattle.stream.specs.Terms.{Terms}
use Rattle.exactness.specs.Beginning.{Beginning, opening, onward, with_end}
use Rattle.exactness.specs.Good.{GoodHead, GoodTrailer, claims, GoodEnd}

-- ---- a show

-- a block of the body; its length in hex, as the line before it has it; and the signature that the line after it carries
pub record Chunk : Type 0 where
  pub block : List ℕ
  pub digits : List ℕ
  pub signature : List ℕ

-- `before` is the hash of the block before the first one that is sent, nothing where that is the first of all; `zeros` is what the 0 line has for
-- its size
pub record Sending : Type 0 where
  pub head : List ℕ
  pub before : List ℕ
  pub chunks : List Chunk
  pub zeros : List ℕ
  pub trailer : List ℕ

-- the blocks joined
unfoldable pub body_of : List Chunk → List ℕ
body_of [] = []
body_of (c ∷ cs) = c.block ++ body_of cs

-- ---- how it is written

-- a size, then nothing, a signature or a hash
abbrev pub chunk_line : List ℕ → List ℕ → List ℕ
chunk_line digits more = digits ++ more ++ crlf

abbrev pub signed : List ℕ → List ℕ
signed signature = ouisig ++ text_of signature

abbrev pub hashed : List ℕ → List ℕ
hashed [] = []
hashed (b ∷ hash) = ouihash ++ text_of (b ∷ hash)

-- the chunks up to and with the 0 line, where the first line has `more` after its size
unfoldable pub chunks_written : List ℕ → List Chunk → List ℕ → List ℕ
chunks_written more [] zeros = chunk_line zeros more
chunks_written more (c ∷ cs) zeros = chunk_line c.digits more ++ (c.block ++ (crlf ++ chunks_written (signed c.signature) cs zeros))

-- the first line carries no signature
abbrev pub stream_of : Sending → List ℕ
stream_of s = s.head ++ (chunks_written (hashed s.before) s.chunks s.zeros ++ s.trailer)

-- ---- what makes it honest

-- "1 to 8 hex digits of either case"
pub record Writes (digits : List ℕ) (n : ℕ) : Type 0 where
  pub text : is_hex_number size_digits digits ≡ true
  pub value : hex_value digits ≡ n

pub record HonestChunk (c : Chunk) : Type 0 where
  pub some : 1 ≤ length c.block
  pub size : Writes c.digits (length c.block)
  pub bytes : are_bytes c.signature ≡ true
  pub sixty_four : length c.signature ≡ 64

abbrev pub HonestChunks : List Chunk → Type 0
HonestChunks [] = Unit {0}
HonestChunks (c ∷ cs) = HonestChunk c × HonestChunks cs

-- "Every block but the last has N bytes, the last 1 to N"
abbrev pub Sized : ℕ → List Chunk → Type 0
Sized N [] = Unit {0}
Sized N (c ∷ []) = length c.block ≤ N
Sized N (c ∷ d ∷ cs) = (length c.block ≡ N) × Sized N (d ∷ cs)

-- where the bytes begin at a, the hash before them is nothing, or 64 bytes
abbrev pub Before : ℕ → List ℕ → Type 0
Before zero hash = hash ≡ []
Before (suc a) hash = (are_bytes hash ≡ true) × (length hash ≡ 64)

-- the blocks joined are all of the body, within its limit; or, "b-a+1 bytes", just those that the range says
abbrev pub Carries : Range → List ℕ → Type 0
Carries whole body = length body ≤ body_limit
Carries (part a b t) body = a + length body ≡ suc b

pub record Honest (terms : Terms) (s : Sending) : Type 0 where
  pub head : GoodHead terms s.head
  pub chunks : HonestChunks s.chunks
  pub sized : Sized (block_size (head_of s.head)) s.chunks
  pub before : Before (first_byte (range_of (head_of s.head))) s.before
  pub total : Carries (range_of (head_of s.head)) (body_of s.chunks)
  pub zeros : Writes s.zeros 0
  pub trailer : GoodTrailer s.trailer
  pub end : GoodEnd (head_of s.head) (body_of s.chunks) s.trailer

-- ---- the yeses that it needs

-- any of the three fields of the end is in its head or its trailer
abbrev pub claims_end : Sending → Bool
claims_end s = claims (head_of s.head) s.trailer

-- one for the head, one for each block, and one more where an end is claimed
abbrev pub yeses_of : Sending → ℕ
yeses_of s = with_end (claims_end s) (suc (length s.chunks))

-- ---- its parts, as a beginning of the stream

-- the size that comes next
abbrev pub next_digits : List Chunk → List ℕ → List ℕ
next_digits [] zeros = zeros
next_digits (c ∷ cs) zeros = c.digits

unfoldable pub continued : Beginning → List Chunk → List ℕ → Beginning
continued w [] zeros = w
continued w (c ∷ cs) zeros = continued (onward w c.block (chunk_line (next_digits cs zeros) (signed c.signature))) cs zeros

-- all but the trailer
abbrev pub beginning_of : Sending → Beginning
beginning_of s = continued (opening s.head (chunk_line (next_digits s.chunks s.zeros) (hashed s.before))) s.chunks s.zeros
