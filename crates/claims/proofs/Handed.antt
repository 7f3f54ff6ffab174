-- NOTHING ELSE COMES OUT: what is handed out after any call, and which question stood before it. Assumes nothing.
use mathlib.Core.Path.{◌≡◌, refl, ap, subst, ◌∙◌}
use mathlib.Core.Bool.{Bool, true, false}
use mathlib.Core.List.{List, [], ◌∷◌, ◌++◌}
use Prim.Native.Nat.{ℕ}
use lib.Dec.{leb}
use lib.ListN.{length}
use Rattle.octets.specs.Choice.{pick}
use Rattle.ring.specs.Keys.{terms_of}
use Rattle.ring.specs.declared.KeyRing.{KeyRing}
use Rattle.sections.specs.Reading.{message}
use Rattle.sections.specs.Resuming.{Begins, events}
use Rattle.stream.specs.Events.{Release, head_accepted, block}
use Rattle.stream.specs.Fields.{value_of, values_of}
use Rattle.stream.specs.Head.{head_of, signed_of}
use Rattle.stream.specs.Limits.{block_limit}
use Rattle.stream.specs.Lines.{Field}
use Rattle.handing.specs.Released.{block_part}
use Rattle.handing.proofs.ValueLaws.{handed_none}
use Rattle.state.specs.Configuration.{Configuration, fresh_reader}
use Rattle.agreement.specs.Observation.{Values, Observation, Trace}
use Rattle.agreement.specs.Observation as S
use Rattle.agreement.specs.Plain.{values_in, told_log}
use Rattle.agreement.specs.Run.{Invocation, run_call, observed, run_from, run, plain_calls}
use Rattle.exactness.specs.Releases.{AcceptsHead}
use Rattle.exactness.specs.Telling.{head_tells}
use Rattle.exactness.proofs.Exactness.{head_exact}
use Rattle.exactness.proofs.MessageLines.{good_names}
use Rattle.claims.specs.Handed.{NothingAtFirst, Last, BlockOut, no_block, a_block, ValuesOut, no_value, of_head, NothingElse}
use Rattle.claims.specs.Runs.{words, taken, answers, ended}
use Rattle.claims.specs.SignedValues.{SignedValues}
use Rattle.claims.proofs.Asking.{log, head_first, block_question_lem}
use Rattle.claims.proofs.Demand2.{block_comes_out}
use Rattle.claims.proofs.Demand3.{demand_3}
use Rattle.claims.proofs.Known.{Known, BlockKnown, ValuesKnown, seen_known}
use Rattle.claims.proofs.Known as K
use Rattle.claims.proofs.SignedLines.{values_signed}
use Rattle.claims.proofs.Untold.{untold, head_from_lem}

pub nothing_at_first : (h b q : List ℕ) → NothingAtFirst h b q
unfolding fresh_reader block_part value_of values_of
nothing_at_first h b q =
    record {
      no_block = none (leb block_limit (length b));
      no_value = λ name. rw (handed_none h) refl;
      no_count = λ name. rw (handed_none h) refl;
    }
  where
    none : (t : Bool) → ◌≡◌ {A = List ℕ} (pick t [] []) []
    none true = refl
    none false = refl

run_longer : (keys : KeyRing) (uri : List ℕ) (d : Configuration) (ks more : List Invocation) → Begins (run_from keys uri d ks) (run_from keys uri d (ks ++ more))
unfolding run_from
run_longer keys uri d [] more = record { rest = run_from keys uri d more; joined = refl }
run_longer keys uri d (k ∷ ks) more =
    let r = run_longer keys uri (run_call keys uri d k).after ks more in
    record { rest = r.rest; joined = ap (λ (t : Trace). observed (run_call keys uri d k) ∷ t) r.joined }

abbrev fields_in : Release → List Field
fields_in (head_accepted status fields) = fields
fields_in (block o b) = []

module _ (keys : KeyRing) (uri h b q : List ℕ) (ks : List Invocation) where
  handed_known : (o : Observation) → Last o (run keys uri h b q ks) → Known (events (words keys uri h b q ks)) o.block o.values
  handed_known o s =
      let e = (demand_3 keys uri h b q ks).each_call in
      rw e (seen_known (terms_of keys uri) (plain_calls keys h b q ks) o (record { earlier = s.earlier; joined = s.joined ∙ e }))

  block_out : (bytes : List ℕ) → BlockKnown (events (words keys uri h b q ks)) bytes → BlockOut keys uri h b q ks bytes
  block_out bytes (K.no_block e) = no_block e
  block_out bytes (K.block_told place offset s) =
      a_block place offset ((block_comes_out keys uri h b q ks place offset bytes).0 (record { before = s.earlier; after = []; joined = s.joined })) s

  accepted_values : (place status : ℕ) (fields : List Field) (a : AcceptsHead (terms_of keys uri) (taken keys uri h b q ks) (answers keys uri h b q ks) place status fields)
      → SignedValues (head_of a.head) (values_in fields)
  unfolding head_tells
  accepted_values place status fields a =
      let e : signed_of (head_of a.head) ≡ fields = ap fields_in a.says in
      subst (λ (fs : List Field). SignedValues (head_of a.head) (values_in fs)) e (values_signed (head_of a.head) (good_names a.good))

  values_out : (values : Values) → ValuesKnown (events (words keys uri h b q ks)) values → ValuesOut keys uri h b q ks values
  unfolding told_log
  values_out values (K.no_value e n) = no_value e n
  values_out values (K.values_told place status s) =
      let u = untold s.before s.after place (message (S.head_accepted status values)) (log keys uri h b q ks) (s.joined ∙ (demand_3 keys uri h b q ks).all_taken) in
      let f = head_from_lem u.it status values u.same_event in
      let a = (head_exact (terms_of keys uri) (taken keys uri h b q ks) (answers keys uri h b q ks) (ended keys uri h b q ks) place status f.fields).0
      (record { before = u.before; after = u.after; joined = rw (← f.head) u.joined }) in
      of_head
      (record {
        place = place;
        status = status;
        fields = f.fields;
        accepted = a;
        signed = subst (SignedValues (head_of a.head)) f.told (accepted_values place status f.fields a);
        asked = head_first keys uri h b q ks place status f.fields a;
      })

  -- WHAT IS HANDED OUT after the last of any calls, and the question before each block.
  pub nothing_else : NothingElse keys uri h b q ks
  unfolding run
  nothing_else =
      record {
        block_handed = λ o s. block_out o.block (handed_known o s).block;
        values_handed = λ o s. values_out o.values (handed_known o s).values;
        question_before = block_question_lem keys uri h b q ks;
        later_calls = λ more. run_longer keys uri _ ks more;
      }
