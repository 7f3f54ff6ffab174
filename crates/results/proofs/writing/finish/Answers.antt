-- The state is written, and then the result. Assumes nothing.
use mathlib.Core.List.{List}
use mathlib.Core.Path.{◌≡◌, ap}
use Prim.Native.Nat.{ℕ}
use Rattle.results.specs.Results.{Ending, ending, told}
use Rattle.layout.specs.State.{stored}
use Rattle.calls.specs.Response.{made as call_of}
use Rattle.calls.specs.declared.outcome.Outcome.{Outcome}
use Rattle.results.specs.Written.{made, answered}
use Rattle.results.proofs.writing.finish.Goals as goal

both_told : (o : Outcome) (n : ℕ) (s s' t t' : List ℕ) (h b q : List ℕ) → s' ≡ stored o.reader s → ending n t' ≡ told o.word o.taken o.signature t → made n s' h b q t' ≡ answered s t (call_of o h b q)
both_told o n s s' t t' h b q e f = rw e (ap (λ (x : Ending). made x.word (stored o.reader s) h b q x.result) f)

pub returns : goal.returns
returns c = record { whole = λ h b q. both_told c.args.o _ _ _ _ _ h b q c.store.ensures.whole c.tell.ensures; back = c.store.ensures.back }
