-- WHAT IS LEFT in the buffers after any list of calls, proved. Assumes nothing.
use mathlib.Core.Path.{sym, ap, ◌∙◌}
use mathlib.Core.List.{List}
use Prim.Native.Nat.{ℕ}
use Rattle.ring.specs.Keys.{terms_of}
use Rattle.ring.specs.declared.KeyRing.{KeyRing}
use Rattle.stream.specs.Buffers.{Buffers, buffers_after}
use Rattle.agreement.specs.Run.{Invocation}
use Rattle.buffers.specs.Left.{buffers}
use Rattle.buffers.proofs.Lists.{run_left}
use Rattle.buffers.proofs.HeadKept.{head_kept, none_left}
use Rattle.claims.specs.Runs.{taken, answers, ended}
use Rattle.claims.specs.Left.{OnlyTheStreamIsLeft, TwoRunsLeaveTheSame}

pub left_by_calls : (keys : KeyRing) (uri h b q : List ℕ) (ks : List Invocation) → OnlyTheStreamIsLeft keys uri h b q ks
left_by_calls keys uri h b q ks =
    let e = run_left keys uri h b q ks in
    let heard = answers keys uri h b q ks in
    let told = ended keys uri h b q ks in
    record {
      all_calls = e;
      head_stays = ap (λ (t : Buffers). t.head) e ∙ head_kept (terms_of keys uri) (taken keys uri h b q ks) heard told (buffers h b q);
      nothing_taken = λ z.
          e
          ∙ ap (λ (l : List ℕ). buffers_after (terms_of keys uri) l heard told (buffers h b q)) z
          ∙ none_left (terms_of keys uri) heard told (buffers h b q);
    }

pub two_runs_leave_the_same : TwoRunsLeaveTheSame
two_runs_leave_the_same keys uri h b q ks ls t a e =
    (left_by_calls keys uri h b q ks).all_calls
    ∙ (λ i. buffers_after (terms_of keys uri) (t i) (a i) (e i) (buffers h b q))
    ∙ sym (left_by_calls keys uri h b q ls).all_calls
