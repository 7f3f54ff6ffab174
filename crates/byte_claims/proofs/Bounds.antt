-- What every call of the reader keeps to, whatever its state: no buffer changes its length, and the length of a question or of a block
-- that is told lies within its buffer. Assumes nothing.
use mathlib.Core.Bool.{Bool, true, false, ◌&&◌}
use mathlib.Core.List.{List, [], ◌∷◌}
use mathlib.Core.Path.{◌≡◌, refl, ◌∙◌}
use native.Mathlib.Omega.{arith}
use borrow.Author.Tests.{leb-true}
use Prim.Native.Nat.{ℕ, ◌+◌, ◌≤◌}
use lib.Dec.{leb}
use lib.ListN.{length}
use Rattle.octets.specs.Choice.{pick}
use Rattle.refusals.specs.declared.Refusal.{Refusal}
use Rattle.ring.specs.Keys.{terms_of}
use Rattle.ring.specs.declared.KeyRing.{KeyRing}
use Rattle.sections.specs.Calls.{Request, feed, answer, end}
use Rattle.stream.specs.Limits.{block_limit, head_limit, ring_limit}
use Rattle.stream.specs.Terms.{Terms}
use Rattle.state.specs.Configuration.{Configuration, Next, on, stop, refuse, pending}
use Rattle.state.specs.Run.{follow, run_of}
use Rattle.state.specs.declared.phase.Phase.{Phase}
use Rattle.state.specs.declared.phase.Phase.TheVariants as P
use Rattle.state.specs.declared.word.Word.{Word}
use Rattle.state.specs.declared.word.Word.TheVariants as W
use Rattle.state.proofs.BufferLaws.{length_cleared}
use Rattle.state.proofs.KeptLaws.{desk_of}
use Rattle.calls.specs.Answer.{answer_at, answer_of, end_of, head_answer, block_answer, end_answer}
use Rattle.calls.specs.Response as R
use Rattle.calls.specs.Response.{are_roomy, fits, is_reading, recalled, given, unchanged}
use Rattle.stream.proofs.Truth.{left_holds, right_holds}
use Rattle.reader.specs.Feed.{push_byte, fed, taken_from, feed_of}
use Rattle.agreement.specs.Run.{called}
use Rattle.byte_claims.proofs.HeadBounds.{Long, Named, NamedNext}
use Rattle.byte_claims.proofs.StepBounds.{long_push, named_push}

-- of a call from d
pub record Bound (d : Configuration) (c : R.Response) : Type 0 where
  pub long : Long d c.after
  pub named : Named c.word d

bound_pick : (d : Configuration) (t : Bool) (a b : R.Response) → (t ≡ true → Bound d a) → (t ≡ false → Bound d b) → Bound d (pick t a b)
bound_pick d true a b f g = f refl
bound_pick d false a b f g = g refl

bound_unchanged : (d : Configuration) (n : ℕ) → Bound d (unchanged n d)
bound_unchanged d n = record { long = record { head = refl; block = refl; question = refl }; named = tt }

bound_refuse : (d : Configuration) (why : Refusal) (count : ℕ) → Bound d (given 0 (refuse why count d))
unfolding refuse
bound_refuse d why count = record { long = record { head = refl; block = length_cleared count d.block; question = refl }; named = tt }

-- ---- a feed

-- from a desk with buffers as long
longer : {d e : Configuration} {c : R.Response} → Long d e → Bound e c → Bound d c
longer {d} {e} {c} l b =
    record {
      long =
          record {
            head = b.long.head ∙ l.head;
            block = b.long.block ∙ l.block;
            question = b.long.question ∙ l.question;
          };
      named = again c.word b.named;
    }
  where
    again : (w : Word) → Named w e → Named w d
    again W.More n = tt
    again (W.Question n key) m = rw l.question at m
    again (W.Head status) n = tt
    again (W.Block o n) m = rw l.block at m
    again (W.Closed total) n = tt
    again (W.Complete total) n = tt
    again (W.Refused k) n = tt

run_bound : (terms : Terms) (xs : List ℕ) (d : Configuration) (t : ℕ) → Bound d (fed (run_of (push_byte terms) d t xs))
unfolding run_of
run_bound terms [] d t = record { long = record { head = refl; block = refl; question = refl }; named = tt }
run_bound terms (x ∷ xs) d t =
    by (push_byte terms d x) (long_push terms d d.reader.phase x) (named_push terms d d.reader.phase x) (λ d'. run_bound terms xs d' (t + 1))
  where
    by : (n : Next) → Long d (desk_of n) → NamedNext n d → ((d' : Configuration) → Bound d' (fed (run_of (push_byte terms) d' (t + 1) xs)))
        → Bound d (fed (follow n (t + 1) (λ d'. run_of (push_byte terms) d' (t + 1) xs)))
    by (on d') l m ih = longer l (ih d')
    by (stop w signature d') l m ih = record { long = l; named = m }

feed_bound : (keys : KeyRing) (uri : List ℕ) (d : Configuration) (piece : List ℕ) → Bound d (feed_of keys uri d piece)
unfolding feed_of taken_from
feed_bound keys uri d piece =
    bound_pick d (fits d && leb keys.count ring_limit) _ _
    (λ e. bound_pick d (is_reading d.reader.phase) _ _ (λ f. longer (record { head = refl; block = refl; question = refl }) (run_bound (terms_of keys uri) piece (recalled d) 0)) (λ f. bound_unchanged d 1))
    (λ e. bound_unchanged d 2)

-- ---- an answer, and the end

roomy_block : (h b q : ℕ) → are_roomy h b q ≡ true → block_limit ≤ b
unfolding are_roomy
roomy_block h b q e = leb-true block_limit b (left_holds (leb block_limit b) _ (right_holds (leb head_limit h) _ e))

block_bound : (size next : ℕ) (d : Configuration) (good : Bool) → block_limit ≤ length d.block → Bound d (block_answer size next d good)
unfolding block_answer
block_bound size next d true m = record { long = record { head = refl; block = refl; question = refl }; named = (omega arith, omega arith) }
block_bound size next d false m = bound_refuse d _ size

head_bound : (n : ℕ) (d : Configuration) (good : Bool) → Bound d (head_answer n d good)
unfolding head_answer
head_bound n d true = record { long = record { head = refl; block = refl; question = refl }; named = tt }
head_bound n d false = bound_refuse d _ 0

end_answer_bound : (have total : ℕ) (d : Configuration) (good : Bool) → Bound d (end_answer have total d good)
unfolding end_answer
end_answer_bound have total d true = record { long = record { head = refl; block = refl; question = refl }; named = tt }
end_answer_bound have total d false = bound_refuse d _ have

answer_at_bound : (p : Phase) (d : Configuration) (good : Bool) → block_limit ≤ length d.block → Bound d (answer_at p d good)
unfolding answer_at
answer_at_bound (P.Head n) d good m = bound_unchanged d 1
answer_at_bound (P.HeadAsked n) d good m = head_bound n d good
answer_at_bound (P.FirstLine n) d good m = bound_unchanged d 1
answer_at_bound (P.Data have size) d good m = bound_unchanged d 1
answer_at_bound (P.DataEnd have size) d good m = bound_unchanged d 1
answer_at_bound (P.NextLine have size) d good m = bound_unchanged d 1
answer_at_bound (P.BlockAsked size next) d good m = block_bound size next d good m
answer_at_bound (P.Trailer have total) d good m = bound_unchanged d 1
answer_at_bound (P.EndAsked have total) d good m = end_answer_bound have total d good
answer_at_bound (P.Closed total) d good m = bound_unchanged d 1
answer_at_bound (P.Complete total) d good m = bound_unchanged d 1
answer_at_bound (P.Refused n) d good m = bound_unchanged d 1

answer_bound : (d : Configuration) (good : Bool) → Bound d (answer_of d good)
unfolding answer_of
answer_bound d good =
    bound_pick d (fits d) _ _ (λ e. answer_at_bound d.reader.phase d good (roomy_block (length d.head) (length d.block) (length d.question) e)) (λ e. bound_unchanged d 2)

end_bound : (d : Configuration) → Bound d (end_of d)
unfolding end_of
end_bound d =
    bound_pick d (fits d) _ _
    (λ e. bound_pick d (is_reading d.reader.phase) _ _ (λ f. longer (record { head = refl; block = refl; question = refl }) (bound_refuse (recalled d) _ (pending d.reader.phase))) (λ f. bound_unchanged d 1))
    (λ e. bound_unchanged d 2)

-- EVERY CALL.
pub call_bound : (keys : KeyRing) (uri : List ℕ) (d : Configuration) (r : Request) → Bound d (called keys uri d r)
call_bound keys uri d (feed piece) = feed_bound keys uri d piece
call_bound keys uri d (answer good) = answer_bound d good
call_bound keys uri d end = end_bound d
