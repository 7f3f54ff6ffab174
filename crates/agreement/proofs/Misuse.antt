-- Refusals 1 and 2, for every state value, forged ones too: when they come, that they change nothing, and that no other call has
-- these numbers. Assumes nothing.
use mathlib.Core.Path.{◌≡◌, refl, sym, ◌∙◌}
use mathlib.Core.Bool.{Bool, true, false, true≢false}
use mathlib.Core.List.{List}
use Prim.Native.Nat.{ℕ}
use native.Mathlib.Omega.{arith}
use Rattle.octets.specs.Choice.{pick}
use Rattle.refusals.specs.Refusals.{plain}
use Rattle.ring.specs.Keys.{terms_of}
use Rattle.ring.specs.declared.KeyRing.{KeyRing}
use Rattle.sections.specs.Calls.{Request, feed, answer, end}
use Rattle.stream.proofs.Truth.{left_holds}
use Rattle.state.specs.Configuration.{Configuration, Next, on, stop, refuse, pending}
use Rattle.state.specs.declared.phase.Phase.{Phase}
use Rattle.state.specs.declared.phase.Phase.TheVariants as P
use Rattle.calls.specs.Response as R
use Rattle.calls.specs.Response.{fits, unchanged, given, recalled}
use Rattle.reader.specs.Feed.{taken_from, feed_of}
use Rattle.calls.specs.Answer.{head_answer, block_answer, answer_at, answer_of, end_of, end_answer}
use Rattle.agreement.specs.Run.{called}
use Rattle.agreement.proofs.FineBytes.{Fine, fine_refuse, fine_run}
use Rattle.agreement.specs.Due.{is_asking, is_due, is_misuse}
use Rattle.agreement.specs.Loans.{loan_fits}
use Rattle.agreement.proofs.Rooms.{loan_same}

-- ---- the calls

given_fine : (n : Next) → Fine n → is_misuse (given 0 n).word ≡ false
given_fine (on d) f = refl
given_fine (stop w signature d) f = f

call_pick : (t : Bool) (c e : R.Response) → is_misuse c.word ≡ false → is_misuse e.word ≡ false → is_misuse (pick t c e).word ≡ false
call_pick true c e a b = a
call_pick false c e a b = b

fine_answer : (d : Configuration) (p : Phase) (good : Bool) → is_asking p ≡ true → is_misuse (answer_at p d good).word ≡ false
unfolding answer_at head_answer block_answer end_answer
fine_answer d (P.Head n) good e = absurd (true≢false (sym e))
fine_answer d (P.HeadAsked n) good e = call_pick good _ _ refl (given_fine (refuse (plain 10) 0 d) (fine_refuse _ 0 d (omega arith)))
fine_answer d (P.FirstLine n) good e = absurd (true≢false (sym e))
fine_answer d (P.Data have size) good e = absurd (true≢false (sym e))
fine_answer d (P.DataEnd have size) good e = absurd (true≢false (sym e))
fine_answer d (P.NextLine have size) good e = absurd (true≢false (sym e))
fine_answer d (P.BlockAsked size next) good e = call_pick good _ _ refl (given_fine (refuse (plain 10) size d) (fine_refuse _ size d (omega arith)))
fine_answer d (P.Trailer have total) good e = absurd (true≢false (sym e))
fine_answer d (P.EndAsked have total) good e = call_pick good _ _ refl (given_fine (refuse (plain 10) have d) (fine_refuse _ have d (omega arith)))
fine_answer d (P.Closed total) good e = absurd (true≢false (sym e))
fine_answer d (P.Complete total) good e = absurd (true≢false (sym e))
fine_answer d (P.Refused n) good e = absurd (true≢false (sym e))

answer_early : (d : Configuration) (p : Phase) (good : Bool) → is_asking p ≡ false → answer_at p d good ≡ unchanged 1 d
unfolding answer_at
answer_early d (P.Head n) good e = refl
answer_early d (P.HeadAsked n) good e = absurd (true≢false e)
answer_early d (P.FirstLine n) good e = refl
answer_early d (P.Data have size) good e = refl
answer_early d (P.DataEnd have size) good e = refl
answer_early d (P.NextLine have size) good e = refl
answer_early d (P.BlockAsked size next) good e = absurd (true≢false e)
answer_early d (P.Trailer have total) good e = refl
answer_early d (P.EndAsked have total) good e = absurd (true≢false e)
answer_early d (P.Closed total) good e = refl
answer_early d (P.Complete total) good e = refl
answer_early d (P.Refused n) good e = refl

module _ (keys : KeyRing) (uri : List ℕ) (d : Configuration) where
  roomy_of : (r : Request) → loan_fits d.head d.block d.question keys r ≡ true → fits d ≡ true
  roomy_of r e = left_holds (fits d) _ (loan_same d.head d.block d.question keys r ∙ e)

  -- REFUSAL 1
  pub undue_unchanged : (r : Request) → loan_fits d.head d.block d.question keys r ≡ true → is_due d.reader.phase r ≡ false
      → called keys uri d r ≡ unchanged 1 d
  unfolding feed_of answer_of end_of
  undue_unchanged (feed piece) f e = rw (loan_same d.head d.block d.question keys (feed piece) ∙ f, e)
  undue_unchanged (answer good) f e = rw (roomy_of (answer good) f) (answer_early d d.reader.phase good e)
  undue_unchanged end f e = rw (roomy_of end f, e)

  -- no other call has these numbers
  pub due_fine : (r : Request) → loan_fits d.head d.block d.question keys r ≡ true → is_due d.reader.phase r ≡ true
      → is_misuse (called keys uri d r).word ≡ false
  unfolding feed_of answer_of end_of taken_from
  due_fine (feed piece) f e = rw (loan_same d.head d.block d.question keys (feed piece) ∙ f, e) (fine_run (terms_of keys uri) (recalled d) 0 piece e)
  due_fine (answer good) f e = rw (roomy_of (answer good) f) (fine_answer d d.reader.phase good e)
  due_fine end f e = rw (roomy_of end f, e) (given_fine (refuse (plain 11) (pending d.reader.phase) (recalled d)) (fine_refuse _ (pending d.reader.phase) (recalled d) (omega arith)))
