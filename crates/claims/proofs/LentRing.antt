-- THE LENT RING, proved: a run whose feeds are lent their ring as a table of records is the run with the ring by value. Assumes nothing.
use mathlib.Core.Path.{◌≡◌, refl, sym, ap, ◌∙◌}
use mathlib.Core.Bool.{false}
use mathlib.Core.List.{List, [], ◌∷◌}
use Prim.Native.Nat.{ℕ}
use Rattle.ring.specs.declared.KeyRecord.{KeyRecord}
use Rattle.sections.specs.Calls as S
use Rattle.lent.specs.Table.{keys_of}
use Rattle.lent.proofs.TableLaws.{ring_lent}
use Rattle.state.specs.Configuration.{Configuration, configuration, fresh_reader}
use Rattle.calls.specs.Response as R
use Rattle.agreement.specs.Run.{Invocation, run_call, observed, run_from, run, plain_calls}
use Rattle.agreement.specs.Run as Run
use Rattle.claims.specs.Lent.{LentCall, same, other, lent_run_call, lent_run_from, lent_run, plain_lent_calls, HoldsForLentRing}
use Rattle.claims.proofs.Demand3.{demand_3}
use Rattle.claims.proofs.LentCalls.{called_lent, loan_lent}

-- the same call, with the ring by value
abbrev pub by_value : LentCall → Invocation
by_value (same r) = Run.same r
by_value (other h b q records uri r misfit) = Run.other h b q (keys_of records) uri r (sym (loan_lent h b q records r) ∙ misfit)

abbrev pub all_by_value : List LentCall → List Invocation
all_by_value [] = []
all_by_value (k ∷ ks) = by_value k ∷ all_by_value ks

module _ (records : List KeyRecord) (uri : List ℕ) where
  call_lent : (d : Configuration) (k : LentCall) → lent_run_call records uri d k ≡ run_call (keys_of records) uri d (by_value k)
  unfolding lent_run_call run_call
  call_lent d (same r) = called_lent records uri d r
  call_lent d (other h b q records' uri' r misfit) =
      ap (λ (c : R.Response). R.response c.word c.taken c.signature (configuration c.after.reader d.head d.block d.question))
      (called_lent records' uri' (configuration d.reader h b q) r)

  run_lent : (ks : List LentCall) (d : Configuration) → lent_run_from records uri d ks ≡ run_from (keys_of records) uri d (all_by_value ks)
  unfolding lent_run_from run_from
  run_lent [] d = refl
  run_lent (k ∷ ks) d =
      let e = call_lent d k in
      λ i. observed (e i) ∷ (ap (λ (c : R.Response). lent_run_from records uri c.after ks) e ∙ run_lent ks (run_call (keys_of records) uri d (by_value k)).after) i

  module _ (h b q : List ℕ) where
    -- A run with lent tables is the run with the ring by value, so that all that is claimed of the one holds of the other.
    pub lent_run_lem : (ks : List LentCall) → lent_run records uri h b q ks ≡ run (keys_of records) uri h b q (all_by_value ks)
    unfolding lent_run run
    lent_run_lem ks = run_lent ks (configuration fresh_reader h b q)

    -- and the plain reading is asked the same
    plain_lent : (ks : List LentCall) → plain_lent_calls records h b q ks ≡ plain_calls (keys_of records) h b q (all_by_value ks)
    unfolding plain_lent_calls plain_calls
    plain_lent [] = refl
    plain_lent (same r ∷ ks) = λ i. S.call (loan_lent h b q records r i) r ∷ plain_lent ks i
    plain_lent (other h' b' q' records' uri' r misfit ∷ ks) = λ i. S.call false r ∷ plain_lent ks i

pub lent_ring : HoldsForLentRing
lent_ring records uri h b q ks m =
    let e = lent_run_lem records uri h b q ks in
    let p = plain_lent records uri h b q ks in
    let c = demand_3 (keys_of records) uri h b q (all_by_value ks) in
    record {
      each_call = rw (← ring_lent records m, p) (e ∙ c.each_call);
      all_taken = rw (← ring_lent records m, p, e) c.all_taken;
      whole_stream = λ S r. rw (← ring_lent records m, p, e) (c.whole_stream S (rw (p, e) at r));
    }
