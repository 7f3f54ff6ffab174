-- No call of the reader takes more than it is given, whatever the state: a feed no more than its piece, an answer and an end nothing.
-- Assumes nothing.
use mathlib.Core.Bool.{Bool, true, false, ◌&&◌}
use mathlib.Core.List.{List}
use Prim.Native.Nat.{ℕ, ◌≤◌}
use native.Mathlib.Omega.{arith}
use lib.Dec.{leb}
use Rattle.octets.specs.Choice.{pick}
use Rattle.refusals.specs.declared.Refusal.{Refusal}
use Rattle.ring.specs.Keys.{terms_of}
use Rattle.ring.specs.declared.KeyRing.{KeyRing}
use Rattle.sections.specs.Calls.{Request, feed, answer, end}
use Rattle.stream.specs.Limits.{ring_limit}
use Rattle.state.specs.Configuration.{Configuration, refuse}
use Rattle.state.specs.declared.phase.Phase.{Phase}
use Rattle.state.specs.declared.phase.Phase.TheVariants as P
use Rattle.calls.specs.Answer.{head_answer, block_answer, end_answer, answer_at, answer_of, end_of}
use Rattle.calls.specs.Response.{Response, fits, is_reading, recalled, given}
use Rattle.reader.specs.Feed.{push_byte, taken_from, feed_of}
use Rattle.agreement.specs.Run.{called}
use Rattle.agreement.proofs.Taking.{run_takes}
use Rattle.byte_claims.specs.Within.{at_most}

taken_pick : (n : ℕ) (t : Bool) (c e : Response) → c.taken ≤ n → e.taken ≤ n → (pick t c e).taken ≤ n
taken_pick n true c e a b = a
taken_pick n false c e a b = b

refused_taken : (n : ℕ) (why : Refusal) (count : ℕ) (d : Configuration) → (given 0 (refuse why count d)).taken ≤ n
unfolding refuse
refused_taken n why count d = omega arith

answer_taken : (p : Phase) (d : Configuration) (good : Bool) → (answer_at p d good).taken ≤ 0
unfolding answer_at head_answer block_answer end_answer
answer_taken (P.Head n) d good = omega arith
answer_taken (P.HeadAsked n) d good = taken_pick 0 good _ _ (omega arith) (refused_taken 0 _ 0 d)
answer_taken (P.FirstLine n) d good = omega arith
answer_taken (P.Data have size) d good = omega arith
answer_taken (P.DataEnd have size) d good = omega arith
answer_taken (P.NextLine have size) d good = omega arith
answer_taken (P.BlockAsked size next) d good = taken_pick 0 good _ _ (omega arith) (refused_taken 0 _ size d)
answer_taken (P.Trailer have total) d good = omega arith
answer_taken (P.EndAsked have total) d good = taken_pick 0 good _ _ (omega arith) (refused_taken 0 _ have d)
answer_taken (P.Closed total) d good = omega arith
answer_taken (P.Complete total) d good = omega arith
answer_taken (P.Refused n) d good = omega arith

pub call_taken : (keys : KeyRing) (uri : List ℕ) (d : Configuration) (r : Request) → (called keys uri d r).taken ≤ at_most r
unfolding feed_of taken_from answer_of end_of
call_taken keys uri d (feed piece) =
    taken_pick _ (fits d && leb keys.count ring_limit) _ _
    (taken_pick _ (is_reading d.reader.phase) _ _ (omega (arith, (run_takes (push_byte (terms_of keys uri)) (recalled d) 0 piece).most)) (omega arith))
    (omega arith)
call_taken keys uri d (answer good) = taken_pick 0 (fits d) _ _ (answer_taken d.reader.phase d good) (omega arith)
call_taken keys uri d end = taken_pick 0 (fits d) _ _ (taken_pick 0 (is_reading d.reader.phase) _ _ (refused_taken 0 _ _ (recalled d)) (omega arith)) (omega arith)
