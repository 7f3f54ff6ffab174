-- WHERE NO END IS CLAIMED a stream is read as before request #101: section by section, from a good beginning on. Assumes nothing.
use mathlib.Core.Bool.{Bool, true, false}
use mathlib.Core.List.{List, [], ◌∷◌, ◌++◌, append_assoc}
use mathlib.Core.Path.{◌≡◌, refl}
use Prim.Native.Nat.{ℕ, zero, suc, ◌+◌, ◌≤◌, ◌<◌}
use native.Mathlib.Nat.{zero-add}
use native.Mathlib.Omega.{arith}
use borrow.Author.Tests.{le-leb, lt-leb}
use lib.Dec.{leb}
use lib.ListN.{length, take, length-append}
use lib.Seq.{length-take-le}
use Rattle.sections.specs.Reading.{go, tell, ask, stop, Grant, granted, final, cut_at, cut, answered, judged, reading_at, reading}
use Rattle.sections.proofs.Cuts.{cut_at_lem}
use Rattle.sections.proofs.Scans.{section_read}
use Rattle.stream.specs.Blocks.{is_whole_line, chunk_size}
use Rattle.stream.specs.Bytes.{same}
use Rattle.stream.specs.Events.{Question, Release, LastWord, closed}
use Rattle.stream.specs.Head.{ends_head, is_whole_head, head_of}
use Rattle.stream.specs.Limits.{head_limit, line_limit}
use Rattle.stream.specs.Lines.{crlf, ends_with}
use Rattle.stream.specs.Stream.{Show, range, Past, start_of, after, Context, head, first_line, block_data, data_end, next_line, trailer, is_whole, announced, Says, show_of, accept_head, judge_head, judge_first_line, judge_data_end, body_with, released_with, accept_block, judge_next_line, judge_end, judge_trailer, judge, rules, plain_reading}
use Rattle.stream.specs.Terms.{Terms}
use Rattle.stream.specs.Trailer.{ends_trailer, is_whole_trailer}
use Rattle.exactness.specs.Beginning.{Beginning, onward, written, head_in, announces, body, hash}
use Rattle.exactness.specs.Good.{EndsFirst, GoodHead, GoodFirstLine, GoodNextLine, Good, opens, goes_on, GoodTrailer, claims}
use Rattle.exactness.specs.Shows.{Sending, stream_of, Honest, claims_end, beginning_of}
use Rattle.exactness.proofs.Ends.{limited, first_whole, first_none}
use Rattle.exactness.proofs.Faults.{head_faultless, first_faultless, next_faultless, trailer_faultless}
use Rattle.exactness.proofs.Forward.{blocks_before, past_of, first_past, context_of, body_with_lem, released_with_lem, place_is}
use Rattle.exactness.proofs.HonestShows.{show_written, show_head, show_good}
use Rattle.exactness.proofs.Wholes.{some_byte}
use Rattle.kept.specs.Kept.{SameUnclaimed}
use Rattle.kept.specs.Unchecked.{unchecked_trailer, judge_unchecked, rules_unchecked, unchecked_reading}

-- ---- sections that are cut off

good_cut : (ends : List ℕ → Bool) (limit : ℕ) (l r : List ℕ) → ends [] ≡ false → EndsFirst ends l → length l ≤ limit
    → cut (limited ends limit) (l ++ r) ≡ cut_at l r
good_cut ends limit l r z e k =
    cut_at_lem (limited ends limit) l r (some_byte ends l z e.there) (first_whole ends limit l e) (first_none ends limit l e k)

sized_cut : (n : ℕ) (l r : List ℕ) → 1 ≤ length l → length l ≡ n → cut (λ t. leb n (length t)) (l ++ r) ≡ cut_at l r
sized_cut n l r i e = cut_at_lem (λ t. leb n (length t)) l r i (le-leb n (length l) (omega arith)) none
  where
    none : (m : ℕ) → 0 < m → m < length l → leb n (length (take m l)) ≡ false
    none m x y =
        let k : length (take m l) ≡ m = length-take-le m l (omega arith) in
        lt-leb n (length (take m l)) (omega arith)

-- ---- both readings of what follows

module _ (terms : Terms) where
  abbrev SameRest : Context → ℕ → List ℕ → Type 0
  SameRest c at bs =
      (answers : List Bool) (told : Bool) → reading_at (rules terms) c at bs answers told ≡ reading_at (rules_unchecked terms) c at bs answers told

  -- what is said leads to a context from which the bytes r are read the same, if to any
  abbrev LeadsSame : Says → ℕ → List ℕ → Type 0
  LeadsSame (go c) at r = SameRest c at r
  LeadsSame (tell e c) at r = SameRest c at r
  LeadsSame (ask q (granted e c)) at r = SameRest c at r
  LeadsSame (ask q (final l)) at r = Unit
  LeadsSame (stop l) at r = Unit

  answered_same : (q : Question) (y : Grant Context Release LastWord) (at : ℕ) (r : List ℕ) (answers : List Bool) (told : Bool) → LeadsSame (ask q y) at r
      → answered (rules terms) y at answers (λ c answers'. reading_at (rules terms) c at r answers' told)
      ≡ answered (rules_unchecked terms) y at answers (λ c answers'. reading_at (rules_unchecked terms) c at r answers' told)
  unfolding rules
  answered_same q y at r [] told k = refl
  answered_same q (granted e c) at r (true ∷ answers) told k = rw (k answers told)
  answered_same q (final l) at r (true ∷ answers) told k = refl
  answered_same q y at r (false ∷ answers) told k = refl

  judged_same : (v : Says) (at : ℕ) (r : List ℕ) (answers : List Bool) (told : Bool) → LeadsSame v at r
      → judged (rules terms) v at answers (λ c answers'. reading_at (rules terms) c at r answers' told)
      ≡ judged (rules_unchecked terms) v at answers (λ c answers'. reading_at (rules_unchecked terms) c at r answers' told)
  judged_same (go c) at r answers told k = k answers told
  judged_same (tell e c) at r answers told k = rw (k answers told)
  judged_same (ask q y) at r answers told k = rw (answered_same q y at r answers told k)
  judged_same (stop l) at r answers told k = refl

  -- a section f that both judge to say v
  section_same : (c : Context) (at : ℕ) (f r : List ℕ) (v : Says) → cut (is_whole c) (f ++ r) ≡ cut_at f r → judge terms c f ≡ v
      → judge_unchecked terms c f ≡ v → LeadsSame v (at + length f) r → SameRest c at (f ++ r)
  unfolding rules
  section_same c at f r v e j u k answers told =
      rw (section_read (rules terms) c at (f ++ r) answers told, section_read (rules_unchecked terms) c at (f ++ r) answers told, e, j, u)
      (judged_same v (at + length f) r answers told k)

  -- ---- the good sections

  head_same : (h r : List ℕ) → GoodHead terms h → SameRest (first_line (show_of terms.ring (head_of h))) (length h) r → SameRest head 0 (h ++ r)
  unfolding is_whole is_whole_head judge judge_head judge_unchecked accept_head ends_head ends_with same
  head_same h r g k =
      section_same head 0 h r (accept_head terms.ring (head_of h)) (good_cut ends_head head_limit h r refl g.ends g.short)
      (rw (head_faultless terms h g)) (rw (head_faultless terms h g)) (rw (zero-add (length h)) k)

  first_same : (s : Show) (at : ℕ) (l r : List ℕ) → GoodFirstLine s.size (range s) l
      → SameRest (announced s (start_of s l) 0 (chunk_size l)) (at + length l) r → SameRest (first_line s) at (l ++ r)
  unfolding is_whole is_whole_line judge judge_first_line judge_unchecked ends_with same
  first_same s at l r g k =
      section_same (first_line s) at l r (go (announced s (start_of s l) 0 (chunk_size l)))
      (good_cut (ends_with crlf) line_limit l r refl g.line.ends g.line.short)
      (rw (first_faultless s.size (range s) l g)) (rw (first_faultless s.size (range s) l g)) k

  next_same : (s : Show) (p : Past) (at : ℕ) (b l r : List ℕ) → GoodNextLine s.size (range s) (body_with s p b) b l
      → SameRest (announced s (after p b) (released_with s p b) (chunk_size l)) (at + length l) r → SameRest (next_line s p b) at (l ++ r)
  unfolding is_whole is_whole_line judge judge_next_line judge_unchecked accept_block ends_with same
  next_same s p at b l r g k =
      section_same (next_line s p b) at l r (accept_block s p b l)
      (good_cut (ends_with crlf) line_limit l r refl g.line.ends g.line.short)
      (rw (next_faultless s.size (range s) (body_with s p b) b l g)) (rw (next_faultless s.size (range s) (body_with s p b) b l g)) k

  -- a block, its CR LF and the line after it
  block_same : (s : Show) (p : Past) (n at : ℕ) (b l r : List ℕ) → 1 ≤ length b → length b ≡ n → GoodNextLine s.size (range s) (body_with s p b) b l
      → SameRest (announced s (after p b) (released_with s p b) (chunk_size l)) (at + length b + 2 + length l) r
      → SameRest (block_data s p n) at (b ++ (crlf ++ (l ++ r)))
  unfolding is_whole judge judge_data_end judge_unchecked same
  block_same s p n at b l r i e g k =
      section_same (block_data s p n) at b (crlf ++ (l ++ r)) (go (data_end s p b)) (sized_cut n b (crlf ++ (l ++ r)) i e) refl refl
      (section_same (data_end s p b) (at + length b) crlf (l ++ r) (go (next_line s p b)) (sized_cut 2 crlf (l ++ r) (omega arith) refl) refl refl
      (next_same s p (at + length b + 2) b l r g k))

  -- a good trailer, where none of the three fields is there
  trailer_same : (s : Show) (p : Past) (total at : ℕ) (t r : List ℕ) → GoodTrailer t → claims s.head t ≡ false → SameRest (trailer s p total) at (t ++ r)
  unfolding is_whole is_whole_trailer judge judge_trailer judge_end judge_unchecked unchecked_trailer ends_trailer ends_with same
  trailer_same s p total at t r g c =
      section_same (trailer s p total) at t r (stop (closed total)) (good_cut ends_trailer head_limit t r refl g.ends g.short)
      (rw (judge_trailer, trailer_faultless t g, judge_end, c)) (rw (unchecked_trailer, trailer_faultless t g)) tt

  -- ---- a good beginning

  onward_same : (w : Beginning) (b l r : List ℕ) → Good terms (onward w b l) → SameRest (context_of terms (onward w b l)) (length (written (onward w b l))) r
      → SameRest (context_of terms w) (length (written w)) (b ++ (crlf ++ (l ++ r)))
  unfolding head_in announces blocks_before body hash show_of
  onward_same w b l r (goes_on g a n) k = by (announces w) refl a.just
    where
      s : Show
      s = show_of terms.ring (head_in w)

      by : (j : ℕ) → announces w ≡ j → length b ≡ j
          → SameRest (announced s (past_of w) (length (body w)) j) (length (written w)) (b ++ (crlf ++ (l ++ r)))
      by zero z f = absurd (omega (arith, a.some))
      by (suc j) z f =
          block_same s (past_of w) (suc j) (length (written w)) b l r a.some f (rw (← body_with_lem w g b a) at n)
          (rw (released_with_lem w g b a, place_is w b l) k)

  beginning_same : (w : Beginning) (r : List ℕ) → Good terms w → SameRest (context_of terms w) (length (written w)) r → SameRest head 0 (written w ++ r)
  unfolding written head_in announces body show_of
  beginning_same w r (opens {h = h} {l = l} g k) rest =
      rw (append_assoc h l r)
      (head_same h (l ++ r) g
      (first_same (show_of terms.ring (head_of h)) (length h) l r k (rw (← length-append h l, first_past terms.ring h l) rest)))
  beginning_same w r (goes_on {w = v} {b = b} {l = l} g a n) rest =
      rw (append_assoc (written v) (b ++ (crlf ++ l)) r, append_assoc b (crlf ++ l) r)
      (beginning_same v (b ++ (crlf ++ (l ++ r))) g (onward_same v b l r (goes_on g a n) rest))

  -- where the body has ended
  ended_same : (w : Beginning) (t r : List ℕ) → announces w ≡ 0 → GoodTrailer t → claims (head_in w) t ≡ false
      → SameRest (context_of terms w) (length (written w)) (t ++ r)
  unfolding show_of
  ended_same w t r z g c = rw z (trailer_same (show_of terms.ring (head_in w)) (past_of w) (length (body w)) (length (written w)) t r g c)

pub same_unclaimed : SameUnclaimed
unfolding plain_reading unchecked_reading reading
same_unclaimed terms w t rest g z k c answers told = beginning_same terms w (t ++ rest) g (ended_same terms w t rest z k c) answers told

-- and so every honest show that claims no end, whatever comes after its stream: document 000's example is one (crate examples)
pub honest_unclaimed : (terms : Terms) (s : Sending) (rest : List ℕ) → Honest terms s → claims_end s ≡ false → (answers : List Bool) (told : Bool)
    → plain_reading terms (stream_of s ++ rest) answers told ≡ unchecked_reading terms (stream_of s ++ rest) answers told
honest_unclaimed terms s rest h c answers told =
    let g = show_good terms s h in
    rw (← show_written s, append_assoc (written (beginning_of s)) s.trailer rest)
    (same_unclaimed terms (beginning_of s) s.trailer rest g.0 g.1 h.trailer (rw (show_head s) c) answers told)
