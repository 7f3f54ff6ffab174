-- Bounds on every section and every event: a section has a byte or more, and its limit bounds it; a block has at most 65,536
-- bytes and a body at most 4,294,967,296; a message fits where messages are written. Assumes nothing.
use mathlib.Core.Bool.{true, false}
use mathlib.Core.List.{List, []}
use mathlib.Core.Path.{◌≡◌, refl}
use Prim.Native.Nat.{ℕ, ◌+◌, ◌≤◌}
use native.Mathlib.Omega.{arith}
use lib.ListN.{length}
use borrow.Author.Tests.{le-leb, lt-leb}
use Rattle.stream.specs.Blocks.{is_whole_line}
use Rattle.stream.specs.Bytes.{same}
use Rattle.stream.specs.Head.{Head, head_of, text_rules, ends_head, is_whole_head}
use Rattle.stream.specs.Limits.{head_limit, line_limit, block_limit, body_limit, id_limit}
use Rattle.stream.specs.Lines.{crlf, ends_with}
use Rattle.stream.specs.Range.{first_byte, is_multiple_of}
use Rattle.stream.specs.Rule.{first_broken}
use Rattle.stream.specs.Stream.{Show, range, Past, Context, head, first_line, block_data, data_end, next_line, trailer, is_whole, block_offset}
use Rattle.stream.specs.Trailer.{ends_trailer, is_whole_trailer}
use Rattle.stream.proofs.Truth.{or-true}

-- ---- limits

-- a section has at most so many bytes
abbrev pub limit_of : Context → ℕ
limit_of head = head_limit
limit_of (first_line s) = line_limit
limit_of (block_data s p n) = n
limit_of (data_end s p b) = 2
limit_of (next_line s p b) = line_limit
limit_of (trailer s p total) = head_limit

pub whole_at_limit : (c : Context) (l : List ℕ) → limit_of c ≤ length l → is_whole c l ≡ true
unfolding is_whole is_whole_head is_whole_line is_whole_trailer
whole_at_limit head l h = rw (le-leb head_limit (length l) h) (or-true (ends_head l))
whole_at_limit (first_line s) l h = rw (le-leb line_limit (length l) h) (or-true (ends_with crlf l))
whole_at_limit (block_data s p n) l h = le-leb n (length l) h
whole_at_limit (data_end s p b) l h = le-leb 2 (length l) h
whole_at_limit (next_line s p b) l h = rw (le-leb line_limit (length l) h) (or-true (ends_with crlf l))
whole_at_limit (trailer s p total) l h = rw (le-leb head_limit (length l) h) (or-true (ends_trailer l))

-- ---- what is known of a context that a stream leads to

-- a head's text, within its limit, that keeps the rules of a head's text
pub record HeadText (h : Head) : Type 0 where
  pub text : List ℕ
  pub says : head_of text ≡ h
  pub kept : first_broken (text_rules text (head_of text)) ≡ 0
  pub short : length text ≤ head_limit

pub record SoundShow (s : Show) : Type 0 where
  pub head : HeadText s.head
  pub some : 1 ≤ s.size
  pub most : s.size ≤ block_limit
  pub short_id : length s.id ≤ id_limit
  -- the answer's bytes begin with a block
  pub aligned : is_multiple_of s.size (first_byte (range s)) ≡ true

-- n bytes after the blocks of p: a block's size, within the body's limit
pub record SoundBlock (s : Show) (p : Past) (n : ℕ) : Type 0 where
  pub show : SoundShow s
  pub some : 1 ≤ n
  pub most : n ≤ s.size
  pub body : block_offset s p + n ≤ body_limit

abbrev pub Sound : Context → Type 0
Sound head = Unit {0}
Sound (first_line s) = SoundShow s
Sound (block_data s p n) = SoundBlock s p n
Sound (data_end s p b) = SoundBlock s p (length b)
Sound (next_line s p b) = SoundBlock s p (length b)
Sound (trailer s p total) = SoundShow s × (total ≤ body_limit)

pub not_whole_empty : (c : Context) → Sound c → is_whole c [] ≡ false
unfolding is_whole is_whole_head is_whole_line is_whole_trailer ends_head ends_trailer ends_with same
not_whole_empty head k = refl
not_whole_empty (first_line s) k = refl
not_whole_empty (block_data s p n) k = lt-leb n 0 (omega arith)
not_whole_empty (data_end s p b) k = refl
not_whole_empty (next_line s p b) k = refl
not_whole_empty (trailer s p total) k = refl

-- a section may have a byte or more
pub limit_some : (c : Context) → Sound c → 1 ≤ limit_of c
limit_some head k = omega arith
limit_some (first_line s) k = omega arith
limit_some (block_data s p n) k = k.some
limit_some (data_end s p b) k = omega arith
limit_some (next_line s p b) k = omega arith
limit_some (trailer s p total) k = omega arith
