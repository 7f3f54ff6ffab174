-- WHERE A RUN CLOSES, what it took is the stream of an honest show: the converse of `honest_comes_out`. Assumes nothing.
use mathlib.Core.Path.{◌≡◌, sym, ◌∙◌}
use mathlib.Core.Bool.{true}
use mathlib.Core.List.{List, [], append-nil}
use Prim.Native.Nat.{ℕ}
use lib.ListN.{replicate}
use Rattle.ring.specs.Keys.{terms_of}
use Rattle.ring.specs.declared.KeyRing.{KeyRing}
use Rattle.sections.specs.Reading.{last}
use Rattle.sections.specs.Calls.{Call, Out}
use Rattle.sections.specs.Machine.{run_calls}
use Rattle.sections.specs.Resuming.{events, bytes_taken, answers_heard}
use Rattle.stream.specs.Events.{Question, Release, LastWord, closed}
use Rattle.stream.specs.Stream.{head, rules}
use Rattle.stream.specs.Terms.{Terms}
use Rattle.agreement.specs.Plain.{told_log, plain_trace}
use Rattle.agreement.specs.Run.{Invocation, plain_calls}
use Rattle.agreement.proofs.Streams.{answers_told, bytes_told_lem, outs_run, shown_events}
use Rattle.exactness.specs.Shows.{yeses_of}
use Rattle.closing.proofs.Runs.{run_closes}
use Rattle.claims.specs.Closed.{ClosesExactly}
use Rattle.claims.specs.Runs.{words, taken, answers}
use Rattle.claims.proofs.Demand2.{honest_comes_out}
use Rattle.claims.proofs.Demand3.{demand_3}
use Rattle.claims.proofs.Untold.{stands_told, stands_untold, last_from_lem}

-- ---- the run

module _ (keys : KeyRing) (uri h b q : List ℕ) (ks : List Invocation) where
  abbrev pub terms : Terms
  terms = terms_of keys uri

  abbrev pub calls : List Call
  calls = plain_calls keys h b q ks

  abbrev pub machine : List (Out Question Release LastWord)
  machine = run_calls (rules terms) head calls

  pub events_same : events (words keys uri h b q ks) ≡ told_log (events machine)
  events_same = rw (demand_3 keys uri h b q ks).each_call (shown_events terms calls)

  pub taken_same : taken keys uri h b q ks ≡ bytes_taken calls machine
  unfolding plain_trace
  taken_same = rw ((demand_3 keys uri h b q ks).each_call, outs_run terms calls) (bytes_told_lem calls machine)

  pub answers_same : answers keys uri h b q ks ≡ answers_heard calls machine
  unfolding plain_trace
  answers_same = rw ((demand_3 keys uri h b q ks).each_call, outs_run terms calls) (answers_told calls machine)

  pub closes_exactly : ClosesExactly keys uri h b q ks
  closes_exactly =
      record {
        exactly = λ at total.
            let x = run_closes terms calls at total in
            rw (events_same, taken_same, answers_same)
            (λ s. x.0 (stands_untold at (last (closed total)) (events machine) (λ e f. last_from_lem e (closed total) f) s), λ t. stands_told at (last (closed total)) (events machine) (x.1 t));
        whole_body = λ at total t.
            (honest_comes_out keys uri h b q ks t.show [] t.honest t.stream
            (t.yeses ∙ sym (append-nil (replicate (yeses_of t.show) true)))
            ).whole_body;
      }
