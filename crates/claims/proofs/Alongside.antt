-- The ordinary caller over the reader makes the very calls of the one over the machine, as what the reader returns is what the machine
-- does; and what it took and heard is the same. Assumes nothing.
use mathlib.Core.Path.{◌≡◌, refl, sym, ap, ◌∙◌}
use mathlib.Core.Bool.{Bool, true}
use mathlib.Core.List.{List, [], ◌∷◌}
use Prim.Native.Nat.{ℕ}
use Rattle.ring.specs.Keys.{terms_of}
use Rattle.ring.specs.declared.KeyRing.{KeyRing}
use Rattle.sections.specs.Reading.{Event, question, message, last}
use Rattle.sections.specs.Calls.{Request, call, Reply, more, event, misused, Out, standing_at}
use Rattle.sections.specs.Machine.{running, turn, run_calls}
use Rattle.sections.specs.Machine as M
use Rattle.stream.specs.Events.{Question, Release, LastWord}
use Rattle.stream.specs.Stream.{head, rules}
use Rattle.state.specs.Configuration.{Configuration, configuration, fresh_reader}
use Rattle.agreement.specs.Loans.{have_room, loan_fits}
use Rattle.agreement.specs.Observation.{Told, Observation, outs}
use Rattle.agreement.specs.Plain.{told_event, told_word, Handed, nothing}
use Rattle.agreement.specs.Run.{same, called, observed, run_call, run_from, run, plain_calls}
use Rattle.agreement.proofs.Lists.{Beside, Goes, call_goes, fresh_beside}
use Rattle.agreement.proofs.Stands.{Standing}
use Rattle.reaching.specs.Caller.{requests_over}
use Rattle.reaching.specs.Driver.{well_lent, turns, calls_over}
use Rattle.reaching.proofs.SideBySide.{Alike, both_more, both_events, both_refused, AllAlike, none, and_then, Together, same_requests}
use Rattle.claims.specs.Ordinary.{all_same, returned, ordinary_calls}
use Rattle.claims.specs.Runs.{words}

-- what is told of a word is of its kind
event_alike : (e : Event Question Release LastWord) → standing_at e ≡ standing_at (told_event e)
event_alike (question q) = refl
event_alike (message e) = refl
event_alike (last l) = refl

word_alike : (w : Reply Question Release LastWord) → Alike w (told_word w)
word_alike more = both_more
word_alike (event e) = both_events (event_alike e)
word_alike (misused n) = both_refused

-- where each call is well lent
module _ (keys : KeyRing) (uri h b q : List ℕ) (fits : (r : Request) → loan_fits h b q keys r ≡ true) where
  all_fit : (rs : List Request) → plain_calls keys h b q (all_same rs) ≡ well_lent rs
  unfolding plain_calls all_same well_lent
  all_fit [] = refl
  all_fit (r ∷ rs) = rw (fits r, all_fit rs)

  -- ---- one call

  abbrev Alongside : Standing → Configuration → Type 0
  Alongside s d = (x : Handed) × Beside keys uri h b q d x s

  abbrev Step : Standing → Configuration → Request → Type 0
  Step s d r = Together (turns (rules (terms_of keys uri))) (returned keys uri) Alongside (turns (rules (terms_of keys uri)) s r) (returned keys uri d r)

  together : (s : Standing) (d : Configuration) (r : Request) → Alongside s d → Step s d r
  unfolding run_call
  together s d r (x, v) =
      let t = turn (rules (terms_of keys uri)) s (call true r) in
      let g : Goes keys uri h b q x r (called keys uri d r) t = rw (fits r) at (call_goes keys uri h b q d x s (same r) v) in
      let o : (observed (called keys uri d r)).out ≡ (told_word t.0.0, t.0.1) = ap (λ (y : Observation). y.out) g.shown in
      record { words = rw o (word_alike t.0.0); counts = ap (λ (y : Out Question Told LastWord). y.1) (sym o); beside = (_, g.beside) }

  -- ---- all calls

  made_alike : (rs : List Request) (s : Standing) (d : Configuration) → Alongside s d
      → AllAlike (M.run_from (rules (terms_of keys uri)) s (well_lent rs)) (outs (run_from keys uri d (all_same rs)))
  unfolding M.run_from run_from run_call outs well_lent all_same
  made_alike [] s d v = none
  made_alike (r ∷ rs) s d v =
      let t = together s d r v in
      and_then _ (observed (called keys uri d r)).out t.words t.counts (made_alike rs _ (called keys uri d r).after t.beside)

  module _ (lengths : List ℕ) (given : List Bool) (stream : List ℕ) where
    abbrev requests : List Request
    requests = requests_over (turns (rules (terms_of keys uri))) (running head []) lengths given stream

    at_first : Alongside (running head []) (configuration fresh_reader h b q)
    at_first = (nothing, fresh_beside keys uri h b q (have_room h b q) refl)

    same_calls : ordinary_calls keys uri h b q lengths given stream ≡ all_same requests
    same_calls = ap all_same (same_requests (turns (rules (terms_of keys uri))) (returned keys uri) Alongside together _ _ lengths given stream at_first)

    pub plain_calls_lem : plain_calls keys h b q (ordinary_calls keys uri h b q lengths given stream) ≡ calls_over (rules (terms_of keys uri)) head lengths given stream
    plain_calls_lem = ap (plain_calls keys h b q) same_calls ∙ all_fit requests

    pub words_alike : AllAlike (run_calls (rules (terms_of keys uri)) head (calls_over (rules (terms_of keys uri)) head lengths given stream))
        (words keys uri h b q (ordinary_calls keys uri h b q lengths given stream))
    unfolding run_calls run
    words_alike = rw same_calls (made_alike requests _ _ at_first)
