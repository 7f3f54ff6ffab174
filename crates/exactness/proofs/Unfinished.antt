-- Where a stream is unfinished and its end was told, the plain reading ends in refusal 11, at the place of all the bytes.
-- Assumes nothing.
use mathlib.Core.Bool.{Bool, true}
use mathlib.Core.List.{List, [], ◌∷◌, ◌++◌}
use mathlib.Core.Path.{◌≡◌, refl, sym}
use Prim.Native.Nat.{ℕ, zero, suc, ◌+◌, ◌<◌}
use native.Mathlib.Omega.{arith}
use borrow.Author.Tests.{lt-leb}
use lib.Dec.{leb}
use lib.ListN.{length, take, replicate, length-append}
use lib.Seq.{length-take-le}
use Rattle.sections.specs.Reading.{last, reading_at, reading}
use Rattle.sections.proofs.Cuts.{NoneBelow}
use Rattle.stream.specs.Blocks.{is_whole_line}
use Rattle.stream.specs.Events.{refused}
use Rattle.stream.specs.Head.{ends_head, is_whole_head, head_of}
use Rattle.stream.specs.Limits.{head_limit, line_limit}
use Rattle.stream.specs.Lines.{crlf, ends_with}
use Rattle.stream.specs.Stream.{head, first_line, block_data, data_end, next_line, trailer, is_whole, announced, show_of, rules, plain_reading}
use Rattle.stream.specs.Terms.{Terms}
use Rattle.stream.specs.Trailer.{ends_trailer, is_whole_trailer}
use Rattle.exactness.specs.Beginning.{Beginning, written, head_in, announces, body}
use Rattle.exactness.specs.Refusals.{Unfinished, in_head, in_first_line, in_block, in_data_end, in_next_line, in_trailer}
use Rattle.exactness.specs.Telling.{Stands, log_of}
use Rattle.exactness.proofs.Forward.{past_of, context_of, place_is}
use Rattle.exactness.proofs.Judged.{onward_whole}
use Rattle.exactness.proofs.Refused.{stands_last}
use Rattle.exactness.proofs.Stops.{head_log, out_step, head_then, line_then, block_then, end_then}
use Rattle.exactness.proofs.Wholes.{unended_none}

-- a part that is shorter than its length is no whole one
shorter_none : (n : ℕ) (l : List ℕ) → length l < n → NoneBelow (λ t. leb n (length t)) l (suc (length l))
shorter_none n l s m x y =
    let k : length (take m l) ≡ m = length-take-le m l (omega arith) in
    lt-leb n (length (take m l)) (omega arith)

module _ (terms : Terms) where
  -- in a block
  block_out : (w : Beginning) (b : List ℕ) (others : List Bool) → length b < announces w
      → reading_at (rules terms) (context_of terms w) (length (written w)) b others true ≡ (length (written w) + length b, last (refused 11 0)) ∷ []
  unfolding is_whole
  block_out w b others s = by (announces w) s
    where
      by : (m : ℕ) → length b < m
          → reading_at (rules terms) (announced (show_of terms.ring (head_in w)) (past_of w) (length (body w)) m) (length (written w)) b others true
          ≡ (length (written w) + length b, last (refused 11 0)) ∷ []
      by zero s = absurd (omega arith)
      by (suc m) s =
          out_step terms (block_data (show_of terms.ring (head_in w)) (past_of w) (suc m)) (length (written w)) b others (shorter_none (suc m) b s)

  pub unfinished_stands : (S : List ℕ) (yeses : ℕ) (others : List Bool) → Unfinished terms S yeses
      → Stands (length S, last (refused 11 0)) (plain_reading terms S (replicate yeses true ++ others) true)
  unfolding plain_reading reading is_whole is_whole_head is_whole_line is_whole_trailer
  unfinished_stands S yeses others (in_head {h = h} u) =
      stands_last terms _ [] (length h) (0 + length h) (out_step terms head 0 h others (unended_none ends_head head_limit h u)) (omega arith)
  unfinished_stands S yeses others (in_first_line {h = h} {l = l} g u) =
      stands_last terms _ (head_log terms h) (length (h ++ l)) (length h + length l)
      (head_then terms h l others true _ g
      (out_step terms (first_line (show_of terms.ring (head_of h))) (length h) l others (unended_none (ends_with crlf) line_limit l u)))
      (sym (length-append h l))
  unfinished_stands S yeses others (in_block {w = w} b g s) =
      stands_last terms _ (log_of terms.ring w) (length (written w ++ b)) (length (written w) + length b)
      (line_then terms w b others true _ g (block_out w b others s)) (sym (length-append (written w) b))
  unfinished_stands S yeses others (in_data_end {w = w} {b = b} e g a s) =
      stands_last terms _ (log_of terms.ring w) (length (written w ++ b ++ e)) (length (written w) + length b + length e)
      (block_then terms w b e others true _ g a
      (out_step terms (data_end (show_of terms.ring (head_in w)) (past_of w) b) (length (written w) + length b) e others (shorter_none 2 e s)))
      (omega (arith, length-append (written w ++ b) e, length-append (written w) b))
  unfinished_stands S yeses others (in_next_line {w = w} {b = b} {l = l} g a u) =
      rw (← place_is w b l, onward_whole w b l)
      (stands_last terms _ (log_of terms.ring w) (length (written w) + length b + 2 + length l) (length (written w) + length b + 2 + length l)
      (end_then terms w b l others true _ g a
      (out_step terms (next_line (show_of terms.ring (head_in w)) (past_of w) b) (length (written w) + length b + 2) l others (unended_none (ends_with crlf) line_limit l u)))
      refl)
  unfinished_stands S yeses others (in_trailer {w = w} {t = t} g z u) =
      stands_last terms _ (log_of terms.ring w) (length (written w ++ t)) (length (written w) + length t)
      (line_then terms w t others true _ g
      (rw z (out_step terms (trailer (show_of terms.ring (head_in w)) (past_of w) (length (body w))) (length (written w)) t others (unended_none ends_trailer head_limit t u))))
      (sym (length-append (written w) t))
