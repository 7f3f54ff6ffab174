-- WHERE A RUN IS COMPLETE, what it took is the stream of an honest show that claims its end, and what it handed out has the size and the SHA-256
-- that the last yes was about. Assumes nothing.
use mathlib.Core.Path.{◌≡◌, refl, sym, ap, ◌∙◌}
use mathlib.Core.Bool.{Bool, true}
use mathlib.Core.List.{List, [], ◌∷◌, ◌++◌, append-nil}
use Prim.Native.Nat.{ℕ, ◌≤◌}
use native.Mathlib.Omega.{arith}
use lib.ListN.{length, replicate, length-append, length-replicate}
use Rattle.ring.specs.declared.KeyRing.{KeyRing}
use Rattle.sha256.specs.Sha256.{sha256}
use Rattle.sections.specs.Reading.{question, message, last, Log}
use Rattle.sections.specs.Resuming.{events, answers_heard}
use Rattle.sections.proofs.Asked.{questions_in as asks_in, answers_asked}
use Rattle.stream.specs.Events.{Question, Release, LastWord, complete}
use Rattle.stream.specs.Stream.{head, rules}
use Rattle.agreement.specs.Observation.{Told}
use Rattle.agreement.specs.Plain.{told_log}
use Rattle.agreement.specs.Run.{Invocation}
use Rattle.agreement.proofs.Streams.{log_append}
use Rattle.exactness.specs.Shows.{yeses_of}
use Rattle.exactness.specs.Telling.{released}
use Rattle.reaching.specs.Arrival.{questions_in}
use Rattle.closing.specs.Complete.{yeses_in}
use Rattle.closing.specs.Complete as Closing
use Rattle.closing.proofs.Complete.{run_complete_means}
use Rattle.closing.proofs.Runs.{run_completes}
use Rattle.claims.specs.Body.{body_told}
use Rattle.claims.specs.Complete.{MeansComplete, CompletesExactly}
use Rattle.claims.specs.Runs.{words}
use Rattle.claims.proofs.Closed.{terms, calls, machine, events_same, taken_same, answers_same}
use Rattle.claims.proofs.Demand2.{honest_comes_out}
use Rattle.claims.proofs.Told.{body_told_lem}
use Rattle.claims.proofs.Untold.{stands_told, stands_untold, last_from_lem}

-- ---- the answers

yeses_counted : (log : Log Question Release LastWord) → yeses_in log ≡ replicate (questions_in (told_log log)) true
unfolding yeses_in questions_in told_log
yeses_counted [] = refl
yeses_counted ((at, question q) ∷ log) = ap (λ (l : List Bool). true ∷ l) (yeses_counted log)
yeses_counted ((at, message e) ∷ log) = yeses_counted log
yeses_counted ((at, last l) ∷ log) = yeses_counted log

asked_counted : (log : Log Question Release LastWord) → asks_in log ≡ questions_in (told_log log)
unfolding asks_in questions_in told_log
asked_counted [] = refl
asked_counted ((at, question q) ∷ log) = omega (arith, asked_counted log)
asked_counted ((at, message e) ∷ log) = omega (arith, asked_counted log)
asked_counted ((at, last l) ∷ log) = omega (arith, asked_counted log)

-- answers that are no more than the yeses that they begin with
just_yeses : (yeses others given : List Bool) (n : ℕ) → yeses ++ others ≡ given → yeses ≡ replicate n true → length given ≤ n → given ≡ replicate n true
just_yeses yeses [] given n e f m = sym e ∙ append-nil yeses ∙ f
just_yeses yeses (x ∷ others) given n e f m =
    absurd (omega (arith, length-append yeses (x ∷ others), ap length e, ap length f, length-replicate n true, m))

-- ---- the run

module _ (keys : KeyRing) (uri h b q : List ℕ) (ks : List Invocation) where
  abbrev log : Log Question Release LastWord
  log = events (machine keys uri h b q ks)

  abbrev shown : Log Question Told LastWord
  shown = events (words keys uri h b q ks)

  body_same : body_told shown ≡ released log
  body_same = ap body_told (events_same keys uri h b q ks) ∙ body_told_lem log

  means : (at total : ℕ) → Closing.MeansComplete (answers_heard (calls keys uri h b q ks) (machine keys uri h b q ks)) log at total
      → MeansComplete keys uri h b q ks at total
  unfolding told_log
  means at total m =
      let two : Log Question Release LastWord = (at, question m.end_question) ∷ (at, last (complete total)) ∷ [] in
      let n = ap questions_in (events_same keys uri h b q ks) in
      record {
        digest = m.digest;
        data_size = m.data_size;
        digest_text = m.digest_text;
        size_text = m.size_text;
        total_handed = ap length body_same ∙ m.total_released;
        same_size = m.same_size ∙ sym (ap length body_same);
        same_hash = m.same_hash ∙ sym (ap sha256 body_same);
        head_at = m.head_at;
        head_question = m.head_question;
        between = told_log m.between;
        end_question = m.end_question;
        joined =
            ap (λ (x : Log Question Told LastWord). (m.head_at, question m.head_question) ∷ x) (sym (log_append m.between two))
            ∙ ap told_log m.joined
            ∙ sym (events_same keys uri h b q ks);
        all_yes =
            answers_same keys uri h b q ks
            ∙ just_yeses (yeses_in log) m.others _ (questions_in (told_log log)) m.granted (yeses_counted log)
            (omega (arith, answers_asked (rules (terms keys uri h b q ks)) head (calls keys uri h b q ks), asked_counted log))
            ∙ sym (ap (λ (k : ℕ). replicate k true) n);
        first_lines = m.first_lines;
        last_lines = m.last_lines;
        same_key = m.same_key;
      }

  pub completes_exactly : CompletesExactly keys uri h b q ks
  completes_exactly =
      record {
        exactly = λ at total.
            let x = run_completes (terms keys uri h b q ks) (calls keys uri h b q ks) at total in
            rw (events_same keys uri h b q ks, taken_same keys uri h b q ks, answers_same keys uri h b q ks)
            (λ s. x.0 (stands_untold at (last (complete total)) log (λ e f. last_from_lem e (complete total) f) s), λ t. stands_told at (last (complete total)) log (x.1 t));
        whole_body = λ at total t.
            (honest_comes_out keys uri h b q ks t.show [] t.honest t.stream (t.yeses ∙ sym (append-nil (replicate (yeses_of t.show) true)))
            ).whole_body;
        means = λ at total s.
            means at total
            (run_complete_means (terms keys uri h b q ks) (calls keys uri h b q ks) at total
            (stands_untold at (last (complete total)) log (λ e f. last_from_lem e (complete total) f) (rw (events_same keys uri h b q ks) at s)));
      }
