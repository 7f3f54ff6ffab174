-- THE DAY TALLY, proved. Assumes nothing.
use mathlib.Core.Path.{◌≡◌, refl, sym, ap, ap₂, ◌∙◌}
use mathlib.Core.Bool.{Bool, true, false}
use mathlib.Core.List.{List, [], ◌∷◌, ◌++◌}
use Prim.Native.Nat.{ℕ, ◌+◌}
use lib.Dec.{leb}
use lib.ListN.{length}
use Rattle.octets.specs.Choice.{pick}
use Rattle.ring.specs.declared.KeyRing.{KeyRing}
use Rattle.sections.specs.Reading.{Event, question, message, last, Log}
use Rattle.sections.specs.Calls.{is_of_call, Reply, more, event, misused}
use Rattle.sections.specs.Resuming.{entry, placed}
use Rattle.stream.specs.Events.{Question, Release, head_accepted, block, LastWord, closed, complete, refused}
use Rattle.state.specs.Configuration.{Configuration, configuration, fresh_reader}
use Rattle.state.specs.declared.word.Word as Code
use Rattle.state.specs.declared.word.Word.TheVariants as W
use Rattle.agreement.specs.Observation.{Told, outs}
use Rattle.agreement.specs.Observation as S
use Rattle.agreement.specs.Plain.{told_event, told_log}
use Rattle.agreement.specs.Run.{Invocation, word_seen, observed, run_call, run_from, run}
use Rattle.tally.specs.Counts.{Counts, counts, nothing, together, shown, refusal_counts, event_counts, counts_of, word_counts, words_count}
use Rattle.tally.proofs.Totals.{together_assoc, nothing_together, tally_of_words, counts_append}
use Rattle.claims.specs.Words.{words_from, words_of_run, Sitting, day_words, events_read, day_events, TalliesTheDay}
use Rattle.claims.proofs.Demand3.{demand_3}

-- what a told event adds, and a word as it is seen
abbrev event_told : Event Question Told LastWord → Counts
event_told (question q) = nothing
event_told (message (S.head_accepted status value)) = nothing
event_told (message (S.block o n b)) = counts 1 n 0 0
event_told (last (closed total)) = counts 0 0 1 0
event_told (last (complete total)) = counts 0 0 1 0
event_told (last (refused n at)) = refusal_counts n

abbrev word_told : Reply Question Told LastWord → Counts
word_told more = nothing
word_told (event e) = event_told e
word_told (misused n) = nothing

refusal_counts_lem : (n at : ℕ) (t : Bool) → is_of_call n ≡ t → refusal_counts n ≡ word_told (pick t (misused n) (event (last (refused n at))))
refusal_counts_lem n at true e = rw e
refusal_counts_lem n at false e = refl

question_counts : (t : Bool) (x : Question) → nothing ≡ word_told (pick t (event (question x)) (misused 0))
question_counts true x = refl
question_counts false x = refl

word_seen_lem : (w : Code.Word) (signature : List ℕ) (d : Configuration) → word_counts w ≡ word_told (word_seen w signature d)
unfolding word_counts word_seen
word_seen_lem W.More signature d = refl
word_seen_lem (W.Question n key) signature d = question_counts (leb n (length d.question)) _
word_seen_lem (W.Head status) signature d = refl
word_seen_lem (W.Block o n) signature d = refl
word_seen_lem (W.Closed total) signature d = refl
word_seen_lem (W.Complete total) signature d = refl
word_seen_lem (W.Refused why) signature d = refusal_counts_lem why.number why.at (is_of_call why.number) refl

-- ---- of a run

abbrev log_told : Log Question Told LastWord → Counts
log_told [] = nothing
log_told (x ∷ log) = together (event_told x.1) (log_told log)

-- a word adds to the log what it counts
entry_counts : (at : ℕ) (w : Reply Question Told LastWord) (log : Log Question Told LastWord) → log_told (entry at w ++ log) ≡ together (word_told w) (log_told log)
entry_counts at more log = sym (nothing_together (log_told log))
entry_counts at (event e) log = refl
entry_counts at (misused n) log = sym (nothing_together (log_told log))

words_counted : (keys : KeyRing) (uri : List ℕ) (d : Configuration) (ks : List Invocation) (at : ℕ) → words_count (words_from keys uri d ks) ≡ log_told (placed at (outs (run_from keys uri d ks)))
unfolding words_count words_from placed outs run_from observed
words_counted keys uri d [] at = refl
words_counted keys uri d (k ∷ ks) at =
    let c = run_call keys uri d k in
    let e = words_counted keys uri c.after ks (at + c.taken) in
    rw (word_seen_lem c.word c.signature c.after, e, entry_counts (at + c.taken) (word_seen c.word c.signature c.after))

told_counts : (log : Log Question Release LastWord) → log_told (told_log log) ≡ counts_of log
unfolding told_log counts_of event_counts
told_counts [] = refl
told_counts (x ∷ log) = rw (one x.1, told_counts log)
  where
    one : (e : Event Question Release LastWord) → event_told (told_event e) ≡ event_counts e
    one (question q) = refl
    one (message (head_accepted status fields)) = refl
    one (message (block o b)) = refl
    one (last (closed total)) = refl
    one (last (complete total)) = refl
    one (last (refused n at)) = refl

run_counted : (keys : KeyRing) (uri h b q : List ℕ) (ks : List Invocation) → words_count (words_of_run keys uri h b q ks) ≡ counts_of (events_read keys uri h b q ks)
unfolding words_of_run run
run_counted keys uri h b q ks =
    words_counted keys uri (configuration fresh_reader h b q) ks 0 ∙ ap log_told (demand_3 keys uri h b q ks).all_taken ∙ told_counts (events_read keys uri h b q ks)

-- ---- of a day

words_append : (ws vs : List Code.Word) → words_count (ws ++ vs) ≡ together (words_count ws) (words_count vs)
unfolding words_count
words_append [] vs = sym (nothing_together (words_count vs))
words_append (w ∷ ws) vs = ap (together (word_counts w)) (words_append ws vs) ∙ sym (together_assoc (word_counts w) (words_count ws) (words_count vs))

day_counted : (ss : List Sitting) → words_count (day_words ss) ≡ counts_of (day_events ss)
unfolding day_words day_events words_count counts_of
day_counted [] = refl
day_counted (s ∷ ss) =
    words_append (words_of_run s.keys s.uri s.head s.block s.question s.calls) (day_words ss)
    ∙ ap₂ together (run_counted s.keys s.uri s.head s.block s.question s.calls) (day_counted ss)
    ∙ sym (counts_append (events_read s.keys s.uri s.head s.block s.question s.calls) (day_events ss))

pub day_tally : (ss : List Sitting) → TalliesTheDay ss
day_tally ss = tally_of_words (day_words ss) ∙ ap shown (day_counted ss)
