-- What is handed out was told: a block by the last event up to the call, the values by some event up to it. Assumes nothing.
use mathlib.Core.Path.{◌≡◌, refl, sym, ap, ◌∙◌}
use mathlib.Core.List.{List, [], ◌∷◌, ◌++◌, append_assoc, append-nil, cons-ne-nil, head-eq_of_cons-eq, tail-eq_of_cons-eq}
use Prim.Native.Nat.{ℕ, ◌+◌}
use Rattle.sections.specs.Reading.{message, Log}
use Rattle.sections.specs.Calls.{Request, feed, answer, Call, Reply, event}
use Rattle.sections.specs.Machine.{State, running, asked, finished, turn, run_from, run_calls}
use Rattle.sections.specs.Resuming.{request, entry, placed, events}
use Rattle.sections.proofs.Cutting.{calls_agree}
use Rattle.stream.specs.Events.{Question, Release, head_accepted, block, LastWord}
use Rattle.stream.specs.Fields.{value_of, values_of}
use Rattle.stream.specs.Stream.{Context, head, rules}
use Rattle.stream.specs.Terms.{Terms}
use Rattle.agreement.specs.Observation.{Values, Told, Observation, Trace, outs}
use Rattle.agreement.specs.Observation as S
use Rattle.agreement.specs.Plain.{values_in, told, told_word, block_left, Handed, nothing, handed_after, observes, trace_from, plain_trace}
use Rattle.exactness.specs.Telling.{Stands}
use Rattle.claims.specs.Handed.{Last}
use Rattle.claims.proofs.Turns.{Moves, refuses, reads, asks, tells, stops, ends, grants, closes, turn_moves}

abbrev ToldLog : Type 0
ToldLog = Log Question Told LastWord

-- nothing, or told by the last event
pub data BlockKnown (log : ToldLog) (bytes : List ℕ) : Type 0 where
  no_block : bytes ≡ [] → BlockKnown log bytes
  block_told : (place offset : ℕ) → Last (place, message (told (block offset bytes))) log → BlockKnown log bytes

-- nothing, or told with *head accepted*
pub data ValuesKnown (log : ToldLog) (values : Values) : Type 0 where
  no_value : ((name : List ℕ) → values.value name ≡ []) → ((name : List ℕ) → values.count name ≡ 0) → ValuesKnown log values
  values_told : (place status : ℕ) → Stands (place, message (S.head_accepted status values)) log → ValuesKnown log values

pub record Known (log : ToldLog) (bytes : List ℕ) (given : Values) : Type 0 where
  pub block : BlockKnown log bytes
  pub values : ValuesKnown log given

abbrev KnownOf : ToldLog → Handed → Type 0
KnownOf log h = Known log h.released (values_in h.signed)

-- ---- a log that grows

stands_longer : {A : Type 0} (x : A) (l m : List A) → Stands x l → Stands x (l ++ m)
stands_longer x l m s =
    record { before = s.before; after = s.after ++ m; joined = sym (append_assoc s.before (x ∷ s.after) m) ∙ ap (λ (k : List _). k ++ m) s.joined }

values_longer : (log m : ToldLog) (values : Values) → ValuesKnown log values → ValuesKnown (log ++ m) values
values_longer log m values (no_value e f) = no_value e f
values_longer log m values (values_told place status s) = values_told place status (stands_longer _ log m s)

-- ---- one call

-- at an open question no block is handed out
abbrev Quiet : State Context Release LastWord → List ℕ → Type 0
Quiet (running c g) bytes = Unit {0}
Quiet (asked y) bytes = bytes ≡ []
Quiet finished bytes = Unit {0}

record KnownAt (log : ToldLog) (h : Handed) (s : State Context Release LastWord) : Type 0 where
  handed : Known log h.released (values_in h.signed)
  quiet : Quiet s h.released

-- no block is handed out, and the signed fields stay
none_known : (log m : ToldLog) (bytes : List ℕ) (values : Values) → bytes ≡ [] → ValuesKnown log values → Known (log ++ m) bytes values
none_known log m bytes values e k = record { block = no_block e; values = values_longer log m values k }

told_known : (log : ToldLog) (place : ℕ) (h : Handed) (r : Request) (e : Release) → block_left r h.released ≡ [] → KnownOf log h
    → KnownOf (log ++ entry place (told_word (event (message e)))) (handed_after h r (event (message e)))
told_known log place h r (head_accepted status fields) n k =
    record { block = no_block n; values = values_told place status (record { before = log; after = []; joined = refl }) }
told_known log place h r (block offset b) n k =
    record { block = block_told place offset (record { earlier = log; joined = refl }); values = values_longer log _ _ k.values }

call_known : (log : ToldLog) (place : ℕ) (h : Handed) {s s' : State Context Release LastWord} {r : Request} {w : Reply Question Release LastWord}
    → Moves s r w s' → KnownAt log h s → KnownAt (log ++ entry place (told_word w)) (handed_after h r w) s'
call_known log place h (refuses n) k = rw (append-nil log) k
call_known log place h reads k = record { handed = none_known log [] _ _ refl k.handed.values; quiet = tt }
call_known log place h asks k = record { handed = none_known log _ _ _ refl k.handed.values; quiet = refl }
call_known log place h (tells {piece = piece} {e = e}) k = record { handed = told_known log place h (feed piece) e refl k.handed; quiet = tt }
call_known log place h stops k = record { handed = none_known log _ _ _ refl k.handed.values; quiet = tt }
call_known log place h ends k = record { handed = none_known log _ _ _ refl k.handed.values; quiet = tt }
call_known log place h (grants {a = a} {e = e}) k = record { handed = told_known log place h (answer a) e k.quiet k.handed; quiet = tt }
call_known log place h closes k = record { handed = none_known log _ _ _ k.quiet k.handed.values; quiet = tt }

-- ---- a list of calls

-- the last call: no other is seen after it
one_known : (log m : ToldLog) (at : ℕ) (rest : Trace) (o o' : Observation) → [] ≡ rest → o ≡ o' → Known (log ++ m) o'.block o'.values
    → Known (log ++ (m ++ placed at (outs rest))) o.block o.values
unfolding placed outs
one_known log m at rest o o' e f k = rw (← e, f, append-nil m) k

module _ (terms : Terms) where
  last_known : (ks : List Call) (s : State Context Release LastWord) (h : Handed) (log : ToldLog) (at : ℕ) (o : Observation) (earlier : Trace)
      → KnownAt log h s → earlier ++ o ∷ [] ≡ trace_from h ks (run_from (rules terms) s ks)
      → Known (log ++ placed at (outs (trace_from h ks (run_from (rules terms) s ks)))) o.block o.values
  unfolding trace_from outs placed run_from
  last_known [] s h log at o [] k x = absurd (cons-ne-nil _ _ x)
  last_known [] s h log at o (z ∷ zs) k x = absurd (cons-ne-nil _ _ x)
  last_known (c ∷ ks) s h log at o [] k x =
      let w = (turn (rules terms) s c).0 in
      let n = call_known log (at + w.1) h (turn_moves terms s c) k in
      one_known log (entry (at + w.1) (told_word w.0)) (at + w.1) _ o (observes (handed_after h (request c) w.0) w) (tail-eq_of_cons-eq x) (head-eq_of_cons-eq x) n.handed
  last_known (c ∷ ks) s h log at o (z ∷ zs) k x =
      let w = (turn (rules terms) s c).0 in
      let n = call_known log (at + w.1) h (turn_moves terms s c) k in
      rw (← append_assoc log (entry (at + w.1) (told_word w.0)))
      (last_known ks (turn (rules terms) s c).1 (handed_after h (request c) w.0) (log ++ entry (at + w.1) (told_word w.0)) (at + w.1) o zs n (tail-eq_of_cons-eq x))

  -- WHAT IS SEEN of the last call.
  pub seen_known : (ks : List Call) (o : Observation) → Last o (plain_trace terms ks) → Known (events (outs (plain_trace terms ks))) o.block o.values
  unfolding plain_trace run_calls value_of values_of
  seen_known ks o s =
      let e = sym (ap (trace_from nothing ks) (calls_agree (rules terms) head ks)) in
      rw e
      (last_known ks (running head []) nothing [] 0 o s.earlier
      (record { handed = record { block = no_block refl; values = no_value (λ name. refl) (λ name. refl) }; quiet = tt }) (s.joined ∙ e))
