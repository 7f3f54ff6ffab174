-- Which beginnings of a stream keep the rules, and which trailers do (paper 01, "The head" and "Blocks"), and which ends of a show (request
-- #101). The rules of single texts are those of the definitions of the stream; how the parts follow each other is said here anew, from the
-- paper: neither the plain reading nor its verdicts are used. Assumes nothing.
use Rattle.std.specs.Prelude.{Bool, true, false, List, [], ◌∷◌, ◌++◌, ◌≡◌, ℕ, suc, ◌+◌, ◌≤◌, ◌<◌, leb, length, take}
use Rattle.sha256.specs.Sha256.{sha256}
use Rattle.stream.specs.Blocks.{is_chunk_line, carries_signature, carries_hash, chunk_size}
use Rattle.stream.specs.Ends.{all_fields, is_checked, end_rules}
use Rattle.stream.specs.Head.{Head, ends_head, head_of, range_of, block_size, text_rules, caller_rules}
use Rattle.stream.specs.Limits.{head_limit, line_limit, body_limit}
use Rattle.stream.specs.Lines.{crlf, ends_with, text_lines, are_field_lines}
use Rattle.stream.specs.Range.{Range, whole, part, first_byte}
use Rattle.stream.specs.Rule.{Rule}
use Rattle.stream.specs.Terms.{Terms}
use Rattle.stream.specs.Trailer.{ends_trailer}
use Rattle.exactness.specs.Beginning.{Beginning, opening, onward, size, range, start, announces, body}

-- every rule of the list holds
abbrev pub Kept : List Rule → Type 0
Kept [] = Unit {0}
Kept (r ∷ rs) = (r.holds ≡ true) × Kept rs

-- l has the end that is looked for, and no shorter beginning of l has it: "at the first CR LF CR LF"
pub record EndsFirst (ends : List ℕ → Bool) (l : List ℕ) : Type 0 where
  pub there : ends l ≡ true
  pub earlier : (n : ℕ) → n < length l → ends (take n l) ≡ false

-- A good head ends within its limit, keeps every rule of its text, and is what the caller's terms ask for: its URI is the asked one, and its
-- key is trusted.
pub record GoodHead (terms : Terms) (l : List ℕ) : Type 0 where
  pub ends : EndsFirst ends_head l
  pub short : length l ≤ head_limit
  pub text : Kept (text_rules l (head_of l))
  pub caller : Kept (caller_rules terms (head_of l))

-- n bytes after `sofar` bytes of the body are among those that the answer carries. Request #104: "A 0 line before b-a+1 bytes, or a chunk past
-- them, is 7."
pub data InRange : Range → ℕ → ℕ → Type 0 where
  of_all : {sofar n : ℕ} → InRange whole sofar n
  of_part : {a b t sofar n : ℕ} → sofar + n ≤ suc b → (n ≡ 0 → sofar ≡ suc b) → InRange (part a b t) sofar n

-- A good chunk line ends within 128 bytes and is written as a line is; it announces at most N bytes, which are among those that the answer
-- carries, and with them the body, of which `sofar` bytes come before, keeps its limit.
pub record GoodLine (N : ℕ) (r : Range) (sofar : ℕ) (l : List ℕ) : Type 0 where
  pub ends : EndsFirst (ends_with crlf) l
  pub short : length l ≤ line_limit
  pub text : is_chunk_line l ≡ true
  pub most : chunk_size l ≤ N
  pub carried : InRange r sofar (chunk_size l)
  pub total : sofar + chunk_size l ≤ body_limit

-- "The first line carries no `ouisig`"; request #104: "If a is above 0 the first chunk line carries `;ouihash=`"
pub record GoodFirstLine (N : ℕ) (r : Range) (l : List ℕ) : Type 0 where
  pub line : GoodLine N r (first_byte r) l
  pub unsigned : carries_signature l ≡ false
  pub hashed : carries_hash l ≡ leb 1 (first_byte r)

-- "each later one, the 0 line included, carries the signature of the block before it"; where it announces a further block,
-- the block before has N bytes: "Every block but the last has N bytes". It carries no `ouihash`
pub record GoodNextLine (N : ℕ) (r : Range) (sofar : ℕ) (b l : List ℕ) : Type 0 where
  pub line : GoodLine N r sofar l
  pub signed : carries_signature l ≡ true
  pub unhashed : carries_hash l ≡ false
  pub full : 1 ≤ chunk_size l → length b ≡ N

-- b is the block that w announces. "Size 0 ends the body": no block comes after it
pub record Announced (w : Beginning) (b : List ℕ) : Type 0 where
  pub some : 1 ≤ length b
  pub just : length b ≡ announces w

-- THE GOOD BEGINNINGS. A good head and a good first line are one; and so is a good beginning with the block that it
-- announces and a good line after that.
pub data Good (terms : Terms) : Beginning → Type 0 where
  opens : {h l : List ℕ} → GoodHead terms h → GoodFirstLine (block_size (head_of h)) (range_of (head_of h)) l → Good terms (opening h l)
  goes_on : {w : Beginning} {b l : List ℕ} → Good terms w → Announced w b → GoodNextLine (size w) (range w) (start w + length (body w ++ b)) b l
      → Good terms (onward w b l)

-- A good trailer ends within its limit, and all that it holds are field lines.
pub record GoodTrailer (t : List ℕ) : Type 0 where
  pub ends : EndsFirst ends_trailer t
  pub short : length t ≤ head_limit
  pub text : are_field_lines (text_lines t) ≡ true

-- ---- the end of the show

-- Any of "`Digest` .., `X-Ouinet-Data-Size` .. and `X-Ouinet-Sig1`" is given, "each from the head or the trailer": the show claims an end. Of a part
-- answer it is not looked at (request #104).
abbrev pub claims : Head → List ℕ → Bool
claims h t = is_checked (range_of h) (all_fields h t)

-- A good claim gives the three, once each, written and listed as the request says, with the size and the SHA-256 of the body, and Sig0's key.
pub record GoodClaim (h : Head) (body t : List ℕ) : Type 0 where
  pub claimed : claims h t ≡ true
  pub kept : Kept (end_rules h (all_fields h t) (length body) (sha256 body))

-- "none of the three", or a good claim
pub data GoodEnd (h : Head) (body t : List ℕ) : Type 0 where
  unclaimed : claims h t ≡ false → GoodEnd h body t
  well_claimed : GoodClaim h body t → GoodEnd h body t
