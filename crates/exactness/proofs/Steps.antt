-- What the plain reading makes of a good head, of a good first line, of a block with a good line after it, and of a good
-- trailer, where they stand next. Assumes nothing.
use mathlib.Core.Bool.{Bool, true, false}
use mathlib.Core.List.{List, ◌∷◌, ◌++◌}
use mathlib.Core.Path.{◌≡◌, refl, ap, ◌∙◌}
use Prim.Native.Nat.{ℕ, ◌+◌, ◌≤◌, ◌<◌}
use native.Mathlib.Nat.{zero-add}
use native.Mathlib.Omega.{arith}
use borrow.Author.Tests.{le-leb, lt-leb}
use lib.Dec.{leb}
use lib.ListN.{length, take}
use lib.Seq.{length-take-le}
use Rattle.sha256.specs.Sha256.{sha256}
use Rattle.sections.specs.Reading.{question, Log, granted, Cut, answered, judged, one_section, reading_at}
use Rattle.sections.proofs.Cuts.{NoneBelow, cut_at_lem}
use Rattle.sections.proofs.Scans.{section_read}
use Rattle.stream.specs.Blocks.{is_whole_line, chunk_size}
use Rattle.stream.specs.Bytes.{same}
use Rattle.stream.specs.Ends.{all_fields}
use Rattle.stream.specs.Events.{Question, Release, block, LastWord}
use Rattle.stream.specs.Head.{ends_head, is_whole_head, head_of}
use Rattle.stream.specs.Limits.{head_limit, line_limit}
use Rattle.stream.specs.Lines.{crlf, ends_with}
use Rattle.stream.specs.Stream.{Show, range, Past, start_of, Context, head, first_line, block_data, data_end, next_line, trailer, is_whole, announced, after, show_of, head_question, accept_head, judge_head, judge_first_line, judge_data_end, block_offset, body_with, released_with, block_question, accept_block, judge_next_line, judge_end, judge_trailer, judge, rules}
use Rattle.stream.specs.Terms.{Terms}
use Rattle.stream.specs.Trailer.{ends_trailer, is_whole_trailer}
use Rattle.exactness.specs.Good.{GoodHead, GoodFirstLine, GoodNextLine, GoodTrailer}
use Rattle.exactness.specs.Telling.{head_asks, head_tells}
use Rattle.exactness.proofs.Ends.{first_whole, first_none}
use Rattle.exactness.proofs.Wholes.{some_byte}
use Rattle.exactness.proofs.Faults.{head_faultless, first_faultless, next_faultless, trailer_faultless}

module _ (terms : Terms) where
  -- what the reading of the bytes r goes on with
  abbrev Rest : Type 0
  Rest = Context → List Bool → Log Question Release LastWord

  abbrev pub on_rest : ℕ → List ℕ → Bool → Rest
  on_rest at r told = λ c answers. reading_at (rules terms) c at r answers told

  -- one section, which f is in the context c
  pub one_section_lem : (c : Context) (at : ℕ) (f r : List ℕ) (answers : List Bool) (told : Bool)
      → 0 < length f → is_whole c f ≡ true → NoneBelow (is_whole c) f (length f)
      → reading_at (rules terms) c at (f ++ r) answers told ≡ judged (rules terms) (judge terms c f) (at + length f) answers (on_rest (at + length f) r told)
  unfolding rules
  one_section_lem c at f r answers told s e n =
      section_read (rules terms) c at (f ++ r) answers told
      ∙ ap (λ (k : Cut). one_section (rules terms) c at (f ++ r) answers told k (λ c' at' r' answers'. reading_at (rules terms) c' at' r' answers' told))
      (cut_at_lem (is_whole c) f r s e n)

  -- a good head gives its question
  pub head_step : (h r : List ℕ) (answers : List Bool) (told : Bool) → GoodHead terms h
      → reading_at (rules terms) head 0 (h ++ r) answers told
      ≡ (length h, question (head_asks terms.ring (head_of h)))
      ∷ answered (rules terms) (granted (head_tells (head_of h)) (first_line (show_of terms.ring (head_of h)))) (length h) answers (on_rest (length h) r told)
  unfolding is_whole is_whole_head judge judge_head accept_head head_question head_asks head_tells ends_head ends_with same
  head_step h r answers told g =
      one_section_lem head 0 h r answers told (some_byte ends_head h refl g.ends.there)
      (first_whole ends_head head_limit h g.ends)
      (first_none ends_head head_limit h g.ends g.short)
      ∙ rw (head_faultless terms h g, zero-add (length h))

  -- a good first line announces a block, or the trailer
  pub first_step : (s : Show) (at : ℕ) (l r : List ℕ) (answers : List Bool) (told : Bool) → GoodFirstLine s.size (range s) l
      → reading_at (rules terms) (first_line s) at (l ++ r) answers told
      ≡ reading_at (rules terms) (announced s (start_of s l) 0 (chunk_size l)) (at + length l) r answers told
  unfolding is_whole is_whole_line judge judge_first_line ends_with same
  first_step s at l r answers told g =
      one_section_lem (first_line s) at l r answers told (some_byte (ends_with crlf) l refl g.line.ends.there)
      (first_whole (ends_with crlf) line_limit l g.line.ends)
      (first_none (ends_with crlf) line_limit l g.line.ends g.line.short)
      ∙ rw (first_faultless s.size (range s) l g)

  -- a block's data
  pub data_step : (s : Show) (p : Past) (n at : ℕ) (b r : List ℕ) (answers : List Bool) (told : Bool) → 1 ≤ length b → length b ≡ n
      → reading_at (rules terms) (block_data s p n) at (b ++ r) answers told ≡ reading_at (rules terms) (data_end s p b) (at + length b) r answers told
  unfolding is_whole judge
  data_step s p n at b r answers told i e = one_section_lem (block_data s p n) at b r answers told i (le-leb n (length b) (omega arith)) none
    where
      none : (m : ℕ) → 0 < m → m < length b → leb n (length (take m b)) ≡ false
      none m x y =
          let k : length (take m b) ≡ m = length-take-le m b (omega arith) in
          lt-leb n (length (take m b)) (omega arith)

  -- its CR LF
  pub end_step : (s : Show) (p : Past) (at : ℕ) (b r : List ℕ) (answers : List Bool) (told : Bool)
      → reading_at (rules terms) (data_end s p b) at (crlf ++ r) answers told ≡ reading_at (rules terms) (next_line s p b) (at + 2) r answers told
  unfolding is_whole judge judge_data_end same
  end_step s p at b r answers told = one_section_lem (data_end s p b) at crlf r answers told (omega arith) refl none
    where
      none : (m : ℕ) → 0 < m → m < 2 → leb 2 (length (take m crlf)) ≡ false
      none m x y =
          let k : length (take m crlf) ≡ m = length-take-le m crlf (omega arith) in
          lt-leb 2 (length (take m crlf)) (omega arith)

  -- the line after it
  next_step : (s : Show) (p : Past) (at : ℕ) (b l r : List ℕ) (answers : List Bool) (told : Bool) → GoodNextLine s.size (range s) (body_with s p b) b l
      → reading_at (rules terms) (next_line s p b) at (l ++ r) answers told
      ≡ (at + length l, question (block_question s p b l))
      ∷ answered (rules terms) (granted (block (block_offset s p) b) (announced s (after p b) (released_with s p b) (chunk_size l))) (at + length l) answers
      (on_rest (at + length l) r told)
  unfolding is_whole is_whole_line judge judge_next_line accept_block ends_with same
  next_step s p at b l r answers told g =
      one_section_lem (next_line s p b) at l r answers told (some_byte (ends_with crlf) l refl g.line.ends.there)
      (first_whole (ends_with crlf) line_limit l g.line.ends)
      (first_none (ends_with crlf) line_limit l g.line.ends g.line.short)
      ∙ rw (next_faultless s.size (range s) (body_with s p b) b l g)

  -- a block, its CR LF and a good line after it give the block's question, at that line's last byte
  pub block_step : (s : Show) (p : Past) (n at : ℕ) (b l r : List ℕ) (answers : List Bool) (told : Bool) → 1 ≤ length b → length b ≡ n
      → GoodNextLine s.size (range s) (body_with s p b) b l
      → reading_at (rules terms) (block_data s p n) at (b ++ (crlf ++ (l ++ r))) answers told
      ≡ (at + length b + 2 + length l, question (block_question s p b l))
      ∷ answered (rules terms) (granted (block (block_offset s p) b) (announced s (after p b) (released_with s p b) (chunk_size l)))
      (at + length b + 2 + length l) answers (on_rest (at + length b + 2 + length l) r told)
  block_step s p n at b l r answers told i e g =
      data_step s p n at b (crlf ++ (l ++ r)) answers told i e
      ∙ end_step s p (at + length b) b (l ++ r) answers told
      ∙ next_step s p (at + length b + 2) b l r answers told g

  -- after a good trailer the end of the show is judged
  pub trailer_step : (s : Show) (p : Past) (total at : ℕ) (t r : List ℕ) (answers : List Bool) (told : Bool) → GoodTrailer t
      → reading_at (rules terms) (trailer s p total) at (t ++ r) answers told
      ≡ judged (rules terms) (judge_end s total (sha256 p.body) (all_fields s.head t)) (at + length t) answers (on_rest (at + length t) r told)
  unfolding is_whole is_whole_trailer judge judge_trailer ends_trailer ends_with same
  trailer_step s p total at t r answers told g =
      one_section_lem (trailer s p total) at t r answers told (some_byte ends_trailer t refl g.ends.there)
      (first_whole ends_trailer head_limit t g.ends)
      (first_none ends_trailer head_limit t g.ends g.short)
      ∙ rw (trailer_faultless t g, judge_trailer)
