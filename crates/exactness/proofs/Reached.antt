-- Where the plain reading stands, a good beginning of the stream lies behind it; what a section says there is due, and where
-- no section is whole, the stream is unfinished. Assumes nothing.
use mathlib.Core.Bool.{true, false}
use mathlib.Core.List.{List, [], ◌++◌}
use mathlib.Core.Path.{◌≡◌, refl, ap}
use Prim.Native.Nat.{ℕ, zero, suc}
use native.Mathlib.Omega.{arith}
use lib.ListN.{length}
use Rattle.sections.specs.Reading.{question, message, last, go, tell, ask, stop, granted, final}
use Rattle.sections.proofs.Cuts.{NoneBelow}
use Rattle.stream.specs.Blocks.{is_whole_line, chunk_size, line_fault}
use Rattle.stream.specs.Bytes.{same}
use Rattle.stream.specs.Events.{place_of}
use Rattle.stream.specs.Head.{ends_head, is_whole_head, head_of, range_of, block_size, head_fault}
use Rattle.stream.specs.Limits.{head_limit, line_limit}
use Rattle.stream.specs.Lines.{crlf, ends_with}
use Rattle.stream.specs.Places.{head_place, line_place}
use Rattle.stream.specs.Range.{first_byte}
use Rattle.stream.specs.Stream.{Past, Context, head, first_line, data_end, next_line, Says, unless_broken, announced, show_of, head_question, accept_head, judge_head, judge_first_line, body_with, judge_next_line}
use Rattle.stream.specs.Terms.{Terms}
use Rattle.exactness.specs.Beginning.{Beginning, opening, onward, written, head_in, size, range, announces, blocks, body, questions}
use Rattle.exactness.specs.Good.{GoodHead, Announced, Good, opens, goes_on}
use Rattle.exactness.specs.Refusals.{Whole, Refuses, head_refused, first_line_refused, next_line_refused}
use Rattle.exactness.specs.Telling.{head_asks, head_tells, Decides, head_asked, head_told, block_asked, block_told, rule_broken}
use Rattle.exactness.proofs.Faults.{faultless_head, faultless_first, faultless_next}
use Rattle.exactness.proofs.Forward.{past_of, context_of, first_past, body_with_lem, asks_after, accepts_block}
use Rattle.exactness.proofs.WentWrong.{head_wrong, line_wrong}
use Rattle.exactness.proofs.Wholes.{cut_whole}

-- the reading stands in a context, after the bytes `front` and so many yeses
pub data Reached (terms : Terms) : List ℕ → ℕ → Context → Type 0 where
  at_head : Reached terms [] 0 head
  at_first : {h : List ℕ} → GoodHead terms h → Reached terms h 1 (first_line (show_of terms.ring (head_of h)))
  at_line : {w : Beginning} {c : Context} → Good terms w → c ≡ context_of terms w → Reached terms (written w) (questions w) c
  at-end : {w : Beginning} {b : List ℕ} → Good terms w → Announced w b
      → Reached terms (written w ++ b) (questions w) (data_end (show_of terms.ring (head_in w)) (past_of w) b)
  at_next : {w : Beginning} {b : List ℕ} → Good terms w → Announced w b
      → Reached terms (written w ++ b ++ crlf) (questions w) (next_line (show_of terms.ring (head_in w)) (past_of w) b)

module _ (terms : Terms) where
  -- what is said after the bytes `front` and so many yeses is due there
  abbrev pub SaysDue : List ℕ → ℕ → Says → Type 0
  SaysDue front yeses (go c) = Reached terms front yeses c
  SaysDue front yeses (tell e c) = ⊥
  SaysDue front yeses (ask q (granted e c)) =
      Decides terms front yeses (question q) × Decides terms front (suc yeses) (message e) × Reached terms front (suc yeses) c
  SaysDue front yeses (ask q (final l)) = Decides terms front yeses (question q) × Decides terms front (suc yeses) (last l)
  SaysDue front yeses (stop l) = Decides terms front yeses (last l)

  pub unless_due : (front : List ℕ) (yeses n place : ℕ) (says : Says) → (n ≡ 0 → SaysDue front yeses says)
      → ((k : ℕ) → n ≡ suc k → Refuses terms front yeses (suc k) (place_of (suc k) place)) → SaysDue front yeses (unless_broken n place says)
  unless_due front yeses zero place says h r = h refl
  unless_due front yeses (suc n) place says h r = rule_broken (r n refl)

  pub head_due : (f : List ℕ) → is_whole_head f ≡ true → NoneBelow is_whole_head f (length f) → SaysDue f 0 (judge_head terms f)
  unfolding judge_head accept_head head_question head_asks head_tells is_whole_head ends_head ends_with same head_fault
  head_due f t n =
      unless_due f 0 (head_fault terms f) (head_place f) (accept_head terms.ring (head_of f))
      (λ e. let g = faultless_head terms f n e in (head_asked g, head_told g, at_first g))
      (λ k e. head_refused (cut_whole ends_head head_limit f refl (omega arith) t n) e (head_wrong f (suc k)))

  -- a line that is cut off
  line_whole : (f : List ℕ) → is_whole_line f ≡ true → NoneBelow is_whole_line f (length f) → Whole (ends_with crlf) line_limit f
  unfolding is_whole_line ends_with same
  line_whole f t n = cut_whole (ends_with crlf) line_limit f refl (omega arith) t n

  pub first_due : (h f : List ℕ) → GoodHead terms h → is_whole_line f ≡ true → NoneBelow is_whole_line f (length f)
      → SaysDue (h ++ f) 1 (judge_first_line (show_of terms.ring (head_of h)) f)
  unfolding judge_first_line show_of written blocks head_in announces body line_fault
  first_due h f g t n =
      let r = range_of (head_of h) in
      unless_due (h ++ f) 1 (line_fault (block_size (head_of h)) r false true (first_byte r) f) (line_place f) _
      (λ e. at_line {w = opening h f} (opens g (faultless_first (block_size (head_of h)) r f n e))
      (ap (λ (p : Past). announced (show_of terms.ring (head_of h)) p 0 (chunk_size f)) (first_past terms.ring h f)))
      (λ k e. first_line_refused g (line_whole f t n) e (line_wrong f (suc k)))

  pub next_due : (w : Beginning) (b f : List ℕ) → Good terms w → Announced w b → is_whole_line f ≡ true → NoneBelow is_whole_line f (length f)
      → SaysDue (written (onward w b f)) (questions w) (judge_next_line (show_of terms.ring (head_in w)) (past_of w) b f)
  unfolding judge_next_line show_of blocks line_fault
  next_due w b f g a t n =
      let k = body_with_lem w g b a in
      rw (accepts_block w g b f a)
      (unless_due (written (onward w b f)) (questions w) _ _ (asks_after w g b f)
      (λ e.
      let good : Good terms (onward w b f) = goes_on g a (rw k at (faultless_next (size w) (range w) (body_with (show_of terms.ring (head_in w)) (past_of w) b) b f n e)) in
      (block_asked good, block_told good, at_line good refl))
      (λ m e. next_line_refused g a (line_whole f t n) (rw k at e) (line_wrong f (suc m))))
