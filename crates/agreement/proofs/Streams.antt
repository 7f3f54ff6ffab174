-- A stream handed over in pieces, as a caller sees it: the notions of crate sections, over what is shown. Assumes nothing.
use mathlib.Core.Path.{◌≡◌, refl, sym, ap, ◌∙◌}
use mathlib.Core.Bool.{true}
use mathlib.Core.List.{List, [], ◌∷◌, ◌++◌}
use Prim.Native.Nat.{ℕ, ◌+◌}
use lib.ListN.{drop}
use Rattle.sections.specs.Reading.{Event, question, message, last, Log}
use Rattle.sections.specs.Calls.{Call, Reply, more, event, misused, Out, standing, standing_at, read_calls}
use Rattle.sections.specs.Machine.{State, running, turn, run_from, run_calls}
use Rattle.sections.specs.Resuming.{heard, request, Resumes, entry, placed, events, answers_heard, Tracks, bytes_taken, end_heard}
use Rattle.sections.proofs.Cutting.{calls_agree, stream_agrees}
use Rattle.sections.proofs.Histories.{run_took}
use Rattle.stream.specs.Events.{Question, Release, LastWord}
use Rattle.stream.specs.Stream.{Context, head, rules, plain_reading}
use Rattle.stream.specs.Terms.{Terms}
use Rattle.agreement.specs.Observation.{Told, outs}
use Rattle.agreement.specs.Plain.{told_event, told_word, told_log, Handed, nothing, handed_after, trace_from, plain_trace}

abbrev pub Outs : Type 0
Outs = List (Out Question Release LastWord)

-- what is told of each
abbrev pub told_outs : Outs → List (Out Question Told LastWord)
told_outs [] = []
told_outs (o ∷ os) = (told_word o.0, o.1) ∷ told_outs os

outs_told : (terms : Terms) (ks : List Call) (h : Handed) (s : State Context Release LastWord)
    → outs (trace_from h ks (run_from (rules terms) s ks)) ≡ told_outs (run_from (rules terms) s ks)
unfolding outs trace_from run_from
outs_told terms [] h s = refl
outs_told terms (k ∷ ks) h s =
    let t = turn (rules terms) s k in
    λ i. (told_word t.0.0, t.0.1) ∷ outs_told terms ks (handed_after h (request k) t.0.0) t.1 i

heard_told : (w : Reply Question Release LastWord) → heard (told_word w) ≡ heard w
heard_told more = refl
heard_told (event e) = refl
heard_told (misused n) = refl

resumes_told : (left : List ℕ) (ks : List Call) (os : Outs) → Resumes left ks (told_outs os) → Resumes left ks os
unfolding Resumes
resumes_told left [] os r = r
resumes_told left (k ∷ ks) [] r = r
resumes_told left (k ∷ ks) (o ∷ os) r = (rw (heard_told o.0) at r.0, resumes_told (drop o.1 left) ks os r.1)

pub answers_told : (ks : List Call) (os : Outs) → answers_heard ks (told_outs os) ≡ answers_heard ks os
unfolding answers_heard
answers_told [] os = refl
answers_told (k ∷ ks) [] = refl
answers_told (k ∷ ks) (o ∷ os) = rw (heard_told o.0, answers_told ks os)

pub bytes_told_lem : (ks : List Call) (os : Outs) → bytes_taken ks (told_outs os) ≡ bytes_taken ks os
unfolding bytes_taken
bytes_told_lem [] os = refl
bytes_told_lem (k ∷ ks) [] = refl
bytes_told_lem (k ∷ ks) (o ∷ os) = rw (heard_told o.0, bytes_told_lem ks os)

pub end_told : (ks : List Call) (os : Outs) → end_heard ks (told_outs os) ≡ end_heard ks os
unfolding end_heard
end_told [] os = refl
end_told (k ∷ ks) [] = refl
end_told (k ∷ ks) (o ∷ os) = rw (heard_told o.0, end_told ks os)

pub log_append : (l m : Log Question Release LastWord) → told_log (l ++ m) ≡ told_log l ++ told_log m
unfolding told_log
log_append [] m = refl
log_append (x ∷ l) m = ap (λ (t : Log Question Told LastWord). (x.0, told_event x.1) ∷ t) (log_append l m)

entry_told : (at : ℕ) (w : Reply Question Release LastWord) → entry at (told_word w) ≡ told_log (entry at w)
unfolding told_log
entry_told at more = refl
entry_told at (event e) = refl
entry_told at (misused n) = refl

placed_told : (at : ℕ) (os : Outs) → placed at (told_outs os) ≡ told_log (placed at os)
unfolding placed told_log
placed_told at [] = refl
placed_told at (o ∷ os) = rw (log_append, entry_told (at + o.1) o.0, placed_told (at + o.1) os)

standing_told : (log : Log Question Release LastWord) → standing (told_log log) ≡ standing log
unfolding standing told_log
standing_told [] = refl
standing_told (x ∷ []) = by x.1
  where
    by : (e : Event Question Release LastWord) → standing_at (told_event e) ≡ standing_at e
    by (question q) = refl
    by (message e) = refl
    by (last l) = refl
standing_told (x ∷ y ∷ log) = standing_told (y ∷ log)

tracks_told : {log whole : Log Question Release LastWord} → Tracks log whole → Tracks (told_log log) (told_log whole)
tracks_told {log} {whole} t =
    record {
      begins = record { rest = told_log t.begins.rest; joined = sym (log_append log t.begins.rest) ∙ ap told_log t.begins.joined };
      complete = λ e. ap told_log (t.complete (sym (standing_told log) ∙ e));
    }

pub outs_run : (terms : Terms) (ks : List Call) → outs (trace_from nothing ks (read_calls (rules terms) head ks)) ≡ told_outs (run_calls (rules terms) head ks)
unfolding run_calls
outs_run terms ks = rw (← calls_agree (rules terms) head ks) (outs_told terms ks nothing (running head []))

-- THE STREAM: where the pieces go on through the stream S from the first byte not taken, and the end is told only once all is taken,
-- what is shown of the events, with their places, is a beginning of the plain reading of S, and all of it once a last word has come
pub shown_tracks : (terms : Terms) (S : List ℕ) (ks : List Call) → Resumes S ks (outs (plain_trace terms ks))
    → Tracks (events (outs (plain_trace terms ks))) (told_log (plain_reading terms S (answers_heard ks (outs (plain_trace terms ks))) true))
unfolding plain_trace plain_reading
shown_tracks terms S ks r =
    let os = run_calls (rules terms) head ks in
    let e = outs_run terms ks in
    let c : Resumes S ks (told_outs os) = rw e at r in
    rw (e, answers_told ks os, placed_told 0 os) (tracks_told (stream_agrees (rules terms) head S ks (resumes_told S ks os c)))

-- WHAT WAS TAKEN: the events shown are the plain reading of the bytes taken, the answers heard and the end told.
pub shown_took : (terms : Terms) (ks : List Call)
    → events (outs (plain_trace terms ks))
    ≡ told_log (plain_reading terms (bytes_taken ks (outs (plain_trace terms ks))) (answers_heard ks (outs (plain_trace terms ks))) (end_heard ks (outs (plain_trace terms ks))))
unfolding plain_trace plain_reading
shown_took terms ks =
    let os = run_calls (rules terms) head ks in
    let e = outs_run terms ks in
    rw (e, answers_told ks os, bytes_told_lem ks os, end_told ks os, placed_told 0 os) (ap told_log (run_took (rules terms) head ks))

-- THE EVENTS SHOWN are those of the machine's run, told.
pub shown_events : (terms : Terms) (ks : List Call) → events (outs (plain_trace terms ks)) ≡ told_log (events (run_calls (rules terms) head ks))
unfolding plain_trace
shown_events terms ks = rw (outs_run terms ks) (placed_told 0 (run_calls (rules terms) head ks))
