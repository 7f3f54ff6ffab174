-- Over a good beginning, with a yes to each question, the plain reading gives just the events that are due, and goes on
-- after it. Assumes nothing.
use mathlib.Core.Bool.{Bool, true, false}
use mathlib.Core.List.{List, [], ◌∷◌, ◌++◌, append_assoc}
use mathlib.Core.Path.{◌≡◌, refl, sym, ap, ◌∙◌}
use Prim.Native.Nat.{ℕ, zero, suc, ◌+◌, ◌*◌, ◌/◌, ◌≤◌}
use native.Mathlib.Nat.{zero-div}
use native.Mathlib.Omega.{arith}
use lib.ListN.{length, replicate, length-append}
use Rattle.sha256.specs.Sha256.{sha256}
use Rattle.sections.specs.Reading.{question, message, last, Log, ask, granted, final, answered, judged, reading_at, reading}
use Rattle.stream.specs.Blocks.{chunk_size, line_hash}
use Rattle.stream.specs.Ends.{all_fields}
use Rattle.stream.specs.Events.{Question, Release, block, LastWord, closed, complete}
use Rattle.stream.specs.Head.{head_of, range_of, block_size}
use Rattle.stream.specs.Lines.{crlf}
use Rattle.stream.specs.Range.{first_byte}
use Rattle.stream.specs.Ring.{Ring}
use Rattle.stream.specs.Stream.{Show, Past, start_from, start_of, after, Context, announced, Says, show_of, block_offset, body_with, released_with, block_question, accept_block, end_question, judge_end, rules, plain_reading}
use Rattle.stream.specs.Terms.{Terms}
use Rattle.exactness.specs.Beginning.{Beginning, opening, onward, written, head_in, size, start, announces, blocks, body, hash_before, hash, offset, questions}
use Rattle.exactness.specs.Good.{Announced, Good, opens, goes_on, GoodTrailer, claims, GoodClaim, GoodEnd, unclaimed, well_claimed}
use Rattle.exactness.specs.Telling.{head_asks, head_tells, block_asks, end_asks, log_of, whole_log, whole_yeses}
use Rattle.exactness.proofs.Faults.{claim_faultless}
use Rattle.exactness.proofs.Ranges.{head_aligned, starts_with_block}
use Rattle.exactness.proofs.Steps.{on_rest, head_step, first_step, block_step, trailer_step}

-- ---- where the reading stands after a beginning

-- the blocks of the show before the next one: those before the first byte that the answer carries, and those that came
unfoldable pub blocks_before : Beginning → ℕ
blocks_before (opening h l) = first_byte (range_of (head_of h)) / block_size (head_of h)
blocks_before (onward w b l) = suc (blocks_before w)

abbrev pub past_of : Beginning → Past
past_of w = record { blocks = blocks_before w; hash = hash w; body = body w }

pub first_past : (ring : Ring) (h l : List ℕ) → start_of (show_of ring (head_of h)) l ≡ past_of (opening h l)
unfolding start_of start_from show_of blocks_before hash body
first_past ring h l = by (first_byte (range_of (head_of h)))
  where
    by : (a : ℕ) → start_from a (block_size (head_of h)) (line_hash l) ≡ record { blocks = a / block_size (head_of h); hash = hash_before a l; body = [] }
    by zero = rw (zero-div (block_size (head_of h)))
    by (suc a) = refl

abbrev pub context_of : Terms → Beginning → Context
context_of terms w = announced (show_of terms.ring (head_in w)) (past_of w) (length (body w)) (announces w)

-- where a block is to come, its offset is the number of the body's bytes before it
pub offset_is : {terms : Terms} (w : Beginning) → Good terms w → 1 ≤ announces w → start w + length (body w) ≡ offset w
unfolding announces body blocks head_in
offset_is w (opens g l) s = omega arith
offset_is w (goes_on {w = v} {b = b} g a n) s =
    let k : start v + length (body v) ≡ offset v = offset_is v g (omega arith) in
    let m : length b ≡ size v = n.full s in
    omega (arith, length-append (body v) b)

-- and the reading counts it in blocks of the show
past_offset : {terms : Terms} (w : Beginning) → Good terms w → blocks_before w * size w ≡ offset w
unfolding blocks_before blocks head_in
past_offset w (opens {h = h} g l) = omega (arith, starts_with_block (block_size (head_of h)) (range_of (head_of h)) (head_aligned g))
past_offset w (goes_on {w = v} g a n) = omega (arith, past_offset v g)

module _ {terms : Terms} (w : Beginning) (g : Good terms w) where
  abbrev show_in : Show
  show_in = show_of terms.ring (head_in w)

  pub block_offset_lem : block_offset show_in (past_of w) ≡ offset w
  unfolding show_of
  block_offset_lem = past_offset w g

  -- the bytes of the body up to and with a block, counted both ways; and those that came
  pub body_with_lem : (b : List ℕ) → Announced w b → body_with show_in (past_of w) b ≡ start w + length (body w ++ b)
  body_with_lem b a = omega (arith, block_offset_lem, offset_is w g (omega arith), length-append (body w) b)

  pub released_with_lem : (b : List ℕ) → Announced w b → released_with show_in (past_of w) b ≡ length (body w ++ b)
  unfolding released_with show_of
  released_with_lem b a = omega (arith, body_with_lem b a)

  asks_block : (b l : List ℕ) → block_question show_in (past_of w) b l ≡ block_asks terms.ring w b l
  unfolding block_question block_asks show_of hash
  asks_block b l = rw (past_offset w g)

  -- what a good line after a block says
  abbrev pub asks_after : List ℕ → List ℕ → Says
  asks_after b l = ask (block_asks terms.ring w b l) (granted (block (offset w) b) (context_of terms (onward w b l)))

  pub accepts_block : (b l : List ℕ) → Announced w b → accept_block show_in (past_of w) b l ≡ asks_after b l
  unfolding accept_block head_in announces blocks_before body hash
  accepts_block b l a = rw (asks_block b l, released_with_lem b a, block_offset_lem)

pub place_is : (w : Beginning) (b l : List ℕ) → length (written w) + length b + 2 + length l ≡ length (written (onward w b l))
unfolding written
place_is w b l = simp length-append (omega arith)

-- the yes to the last question, before the answers that follow
pub one_yes : (n : ℕ) (answers : List Bool) → replicate (suc n) true ++ answers ≡ replicate n true ++ (true ∷ answers)
one_yes zero answers = refl
one_yes (suc n) answers = ap (λ (l : List Bool). true ∷ l) (one_yes n answers)

-- ---- the reading over a good beginning

module _ (terms : Terms) where
  -- the block that a good beginning announces, and a good line after it
  pub onward_step : (w : Beginning) (b l r : List ℕ) (answers : List Bool) (told : Bool) → Good terms (onward w b l)
      → reading_at (rules terms) (context_of terms w) (length (written w)) (b ++ (crlf ++ (l ++ r))) answers told
      ≡ (length (written (onward w b l)), question (block_asks terms.ring w b l))
      ∷ answered (rules terms) (granted (block (offset w) b) (context_of terms (onward w b l))) (length (written (onward w b l))) answers
      (on_rest terms (length (written (onward w b l))) r told)
  unfolding head_in announces blocks_before body hash show_of
  onward_step w b l r answers told (goes_on g a n) = by (announces w) refl a.just
    where
      s : Show
      s = show_of terms.ring (head_in w)

      by : (m : ℕ) → announces w ≡ m → length b ≡ m
          → reading_at (rules terms) (announced s (past_of w) (length (body w)) m) (length (written w)) (b ++ (crlf ++ (l ++ r))) answers told
          ≡ (length (written (onward w b l)), question (block_asks terms.ring w b l))
          ∷ answered (rules terms) (granted (block (offset w) b) (announced s (after (past_of w) b) (length (body w ++ b)) (chunk_size l)))
          (length (written (onward w b l))) answers (on_rest terms (length (written (onward w b l))) r told)
      by zero z f = absurd (omega arith)
      by (suc m) z f =
          rw (← place_is w b l, ← asks_block w g b l, ← released_with_lem w g b a, ← block_offset_lem w g)
          (block_step terms s (past_of w) (suc m) (length (written w)) b l r answers told a.some f (rw (← body_with_lem w g b a) at n))

  -- With a yes to each question of a good beginning the reading gives its events, and then reads what comes after it.
  pub reading_good : (w : Beginning) (r : List ℕ) (answers : List Bool) (told : Bool) → Good terms w
      → plain_reading terms (written w ++ r) (replicate (questions w) true ++ answers) told
      ≡ log_of terms.ring w ++ reading_at (rules terms) (context_of terms w) (length (written w)) r answers told
  unfolding plain_reading reading written head_in announces blocks body log_of show_of
  reading_good w r answers told (opens {h = h} {l = l} g k) =
      rw (append_assoc h l r, length-append h l, ← first_past terms.ring h l)
      (head_step terms h (l ++ r) (true ∷ answers) told g
      ∙ ap (λ (x : Log Question Release LastWord). (length h, question (head_asks terms.ring (head_of h))) ∷ (length h, message (head_tells (head_of h))) ∷ x)
      (first_step terms (show_of terms.ring (head_of h)) (length h) l r answers told k))
  reading_good w r answers told (goes_on {w = v} {b = b} {l = l} g a n) =
      rw (append_assoc (written v) (b ++ (crlf ++ l)) r, append_assoc b (crlf ++ l) r, one_yes (questions v) answers)
      (reading_good v (b ++ (crlf ++ (l ++ r))) (true ∷ answers) told g
      ∙ ap (λ (x : Log Question Release LastWord). log_of terms.ring v ++ x) (onward_step v b l r (true ∷ answers) told (goes_on g a n))
      ∙ sym (append_assoc (log_of terms.ring v) _ _))

  -- With a yes to each question but the last of a good beginning, the reading gives its events up to that question.
  pub reading_asked : (w : Beginning) (b l r : List ℕ) (answers : List Bool) (told : Bool) → Good terms (onward w b l)
      → plain_reading terms (written (onward w b l) ++ r) (replicate (questions w) true ++ answers) told
      ≡ log_of terms.ring w
      ++ (length (written (onward w b l)), question (block_asks terms.ring w b l))
      ∷ answered (rules terms) (granted (block (offset w) b) (context_of terms (onward w b l))) (length (written (onward w b l))) answers
      (on_rest terms (length (written (onward w b l))) r told)
  unfolding written
  reading_asked w b l r answers told (goes_on g a n) =
      rw (append_assoc (written w) (b ++ (crlf ++ l)) r, append_assoc b (crlf ++ l) r)
      (reading_good w (b ++ (crlf ++ (l ++ r))) answers told g
      ∙ ap (λ (x : Log Question Release LastWord). log_of terms.ring w ++ x) (onward_step w b l r answers told (goes_on g a n)))

  -- ---- the end of the show

  -- what is said of it
  abbrev pub end_says : Beginning → List ℕ → Says
  end_says w t = judge_end (show_of terms.ring (head_in w)) (length (body w)) (sha256 (body w)) (all_fields (head_in w) t)

  -- Where a good beginning announces no block, and a good trailer follows, the end is judged.
  pub reading_ended : (w : Beginning) (t r : List ℕ) (answers : List Bool) (told : Bool) → Good terms w → announces w ≡ 0 → GoodTrailer t
      → plain_reading terms (written w ++ t ++ r) (replicate (questions w) true ++ answers) told
      ≡ log_of terms.ring w
      ++ judged (rules terms) (end_says w t) (length (written w ++ t)) answers (on_rest terms (length (written w ++ t)) r told)
  unfolding show_of
  reading_ended w t r answers told g z k =
      rw (append_assoc (written w) t r, length-append (written w) t)
      (reading_good w (t ++ r) answers told g
      ∙ ap (λ (x : Log Question Release LastWord). log_of terms.ring w ++ x)
      (rw z (trailer_step terms (show_of terms.ring (head_in w)) (past_of w) (length (body w)) (length (written w)) t r answers told k)))

  -- where none is claimed the reading closes
  pub reading_closed : (w : Beginning) (t r : List ℕ) (answers : List Bool) (told : Bool) → Good terms w → announces w ≡ 0 → GoodTrailer t
      → claims (head_in w) t ≡ false
      → plain_reading terms (written w ++ t ++ r) (replicate (questions w) true ++ answers) told
      ≡ log_of terms.ring w ++ (length (written w ++ t), last (closed (length (body w)))) ∷ []
  unfolding judge_end show_of
  reading_closed w t r answers told g z k c = reading_ended w t r answers told g z k ∙ rw (judge_end, c)

  -- where the claim is good, it gives the question about it, and a yes *complete*
  pub reading_claimed : (w : Beginning) (t r : List ℕ) (answers : List Bool) (told : Bool) → Good terms w → announces w ≡ 0 → GoodTrailer t
      → GoodClaim (head_in w) (body w) t
      → plain_reading terms (written w ++ t ++ r) (replicate (questions w) true ++ answers) told
      ≡ log_of terms.ring w
      ++ (length (written w ++ t), question (end_asks terms.ring (head_in w) t))
      ∷ answered (rules terms) (final (complete (length (body w)))) (length (written w ++ t)) answers (on_rest terms (length (written w ++ t)) r told)
  unfolding judge_end show_of end_question end_asks
  reading_claimed w t r answers told g z k c =
      reading_ended w t r answers told g z k ∙ rw (judge_end, c.claimed, claim_faultless (head_in w) (body w) t c)

  -- With all its yeses the reading gives just the events of the whole.
  pub reading_whole : (w : Beginning) (t r : List ℕ) (answers : List Bool) (told : Bool) → Good terms w → announces w ≡ 0 → GoodTrailer t
      → GoodEnd (head_in w) (body w) t
      → plain_reading terms (written w ++ t ++ r) (replicate (whole_yeses w t) true ++ answers) told ≡ whole_log terms.ring w t
  reading_whole w t r answers told g z k (unclaimed c) = rw c (reading_closed w t r answers told g z k c)
  reading_whole w t r answers told g z k (well_claimed c) =
      rw (c.claimed, one_yes (questions w) answers) (reading_claimed w t r (true ∷ answers) told g z k c)
