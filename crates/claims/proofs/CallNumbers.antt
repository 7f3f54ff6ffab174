-- The numbers of refused calls: 1 or 2. Assumes nothing.
use mathlib.Core.Path.{ap, sym}
use mathlib.Core.List.{List, [], ◌∷◌, ◌++◌}
use Rattle.sections.specs.Calls.{Request, Call, Reply, more, event, misused, Out}
use Rattle.sections.specs.Machine.{State, running, run_from, run_calls}
use Rattle.sections.proofs.Cutting.{calls_agree}
use Rattle.stream.specs.Events.{Question, Release, LastWord}
use Rattle.stream.specs.Stream.{Context, head, rules}
use Rattle.stream.specs.Terms.{Terms}
use Rattle.agreement.specs.Due.{Between}
use Rattle.agreement.specs.Observation.{Told, outs}
use Rattle.agreement.specs.Plain.{told_word, Handed, nothing, trace_from, plain_trace}
use Rattle.claims.proofs.Turns.{Moves, refuses, reads, asks, tells, stops, ends, grants, closes, turn_moves}

abbrev pub WordIn : Reply Question Told LastWord → Type 0
WordIn more = Unit {0}
WordIn (event e) = Unit {0}
WordIn (misused n) = Between 1 2 n

abbrev pub AllIn : List (Out Question Told LastWord) → Type 0
AllIn [] = Unit {0}
AllIn (o ∷ os) = WordIn o.0 × AllIn os

pub one_in : (before after : List (Out Question Told LastWord)) (o : Out Question Told LastWord) → AllIn (before ++ o ∷ after) → WordIn o.0
one_in [] after o a = a.0
one_in (z ∷ zs) after o a = one_in zs after o a.1

word_in : {s s' : State Context Release LastWord} {r : Request} {w : Reply Question Release LastWord} → Moves s r w s' → WordIn (told_word w)
word_in (refuses n) = n
word_in reads = tt
word_in asks = tt
word_in tells = tt
word_in stops = tt
word_in ends = tt
word_in grants = tt
word_in closes = tt

module _ (terms : Terms) where
  calls_in : (ks : List Call) (s : State Context Release LastWord) (h : Handed) → AllIn (outs (trace_from h ks (run_from (rules terms) s ks)))
  unfolding outs trace_from run_from
  calls_in [] s h = tt
  calls_in (k ∷ ks) s h = (word_in (turn_moves terms s k), calls_in ks _ _)

  pub trace_in : (ks : List Call) → AllIn (outs (plain_trace terms ks))
  unfolding plain_trace run_calls
  trace_in ks = rw (sym (ap (trace_from nothing ks) (calls_agree (rules terms) head ks))) (calls_in ks (running head []) nothing)
