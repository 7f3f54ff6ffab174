-- A list of calls and what it took: the events of any run, with their places, are the plain reading of the bytes that it
-- took, the answers that it was given and the end that it was told. Assumes nothing.
use mathlib.Core.Path.{◌≡◌, refl, sym, ap, ◌∙◌}
use mathlib.Core.Bool.{Bool, true, false, ◌||◌}
use mathlib.Core.List.{List, [], ◌∷◌, ◌++◌, append_assoc, append-nil}
use Prim.Native.Nat.{ℕ, ◌+◌}
use native.Mathlib.Nat.{add-zero}
use lib.ListN.{length, length-append}
use lib.Seq.{take-append_seam}
use Rattle.sections.specs.Reading.{Log, Rules, reading}
use Rattle.sections.specs.Calls.{Request, Call, Out, History, history, fresh, read, read_call}
use Rattle.sections.specs.Machine.{State, run_from, run_calls}
use Rattle.sections.specs.Resuming.{heard, bytes_by, answer_by, end_by, entry, placed, events, bytes_taken, answers_heard, end_heard}
use Rattle.sections.proofs.Invariant.{Inv, at_start, inv_read}
use Rattle.sections.proofs.Agreement.{size, Adds, nothing, bytes, reply, close, turn_agrees}

pub or-false : (t : Bool) → t || false ≡ t
or-false true = refl
or-false false = refl

pub or_assoc : (t u v : Bool) → (t || u) || v ≡ t || (u || v)
or_assoc true u v = refl
or_assoc false u v = refl

-- a history grows by the bytes that a call takes
pub adds_size : {Q E L : Type 0} {h h' : History} {k : Request} {o : Out Q E L} → Adds h k o h' → size h + o.1 ≡ size h'
adds_size (nothing {h}) = add-zero (size h)
adds_size (bytes {taken} f r x p) = sym (length-append taken f)
adds_size (reply {taken}) = add-zero (length taken)
adds_size (close {taken}) = add-zero (length taken)

module _ {C Q E L : Type 0} (R : Rules C Q E L) (start : C) where
  -- what a list of calls makes of a history
  unfoldable pub history_after : History → List Call → History
  history_after h [] = h
  history_after h (k ∷ ks) = history_after (read_call R start h k).1 ks

  -- A call adds to the reading exactly its word, at its place.
  pub call_adds : {h : History} {log : Log Q E L} {s : State C E L} (k : Call) → Inv R start h log s
      → read R start (read_call R start h k).1
      ≡ read R start h ++ entry (size (read_call R start h k).1) (read_call R start h k).0.0
  call_adds k v = let a = turn_agrees R start k v in rw (inv_read R start v, ← a.0) (inv_read R start a.1)

  pub calls_add : (ks : List Call) {h : History} {log : Log Q E L} {s : State C E L} → Inv R start h log s
      → read R start (history_after h ks) ≡ log ++ placed (size h) (run_from R s ks)
  unfolding history_after run_from placed
  calls_add [] {log} v = rw (append-nil log) (inv_read R start v)
  calls_add (k ∷ ks) {log} v =
      let a = turn_agrees R start k v in
      rw (adds_size a.2, ← append_assoc log) (calls_add ks a.1)

  -- The events of a run are the plain reading of what it took.
  pub run_reads : (ks : List Call) → read R start (history_after fresh ks) ≡ events (run_calls R start ks)
  unfolding run_calls
  run_reads ks = calls_add ks (at_start R start)

  -- ---- what it took, answered and told, read off the calls and what they returned

  -- a history after more bytes, answers, and perhaps the end
  abbrev grown : History → List ℕ → List Bool → Bool → History
  grown (history taken ans told) bs xs t = history (taken ++ bs) (ans ++ xs) (told || t)

  grown_none : (h : History) → h ≡ grown h [] [] false
  grown_none (history taken ans told) = rw (append-nil taken, append-nil ans, or-false told)

  adds_grown : {h h' : History} {k : Request} {o : Out Q E L} → Adds h k o h'
      → h' ≡ grown h (bytes_by (heard o.0) o.1 k) (answer_by (heard o.0) k) (end_by (heard o.0) k)
  adds_grown (nothing {h}) = grown_none h
  adds_grown (bytes f r {ans} x p) = rw (x, ← p, take-append_seam f r, append-nil ans)
  adds_grown (reply {taken}) = rw (append-nil taken)
  adds_grown (close {taken} {ans}) = rw (append-nil taken, append-nil ans)

  -- one after the other
  grown_on : (h h' : History) (bs cs : List ℕ) (xs ys : List Bool) (t u : Bool) → h' ≡ grown h bs xs t
      → grown h' cs ys u ≡ grown h (bs ++ cs) (xs ++ ys) (t || u)
  grown_on h h' bs cs xs ys t u e = ap (λ (g : History). grown g cs ys u) e ∙ twice h
    where
      twice : (h : History) → grown (grown h bs xs t) cs ys u ≡ grown h (bs ++ cs) (xs ++ ys) (t || u)
      twice (history taken ans told) = rw (append_assoc taken bs cs, append_assoc ans xs ys, or_assoc told t u)

  after_grown : (ks : List Call) {h : History} {log : Log Q E L} {s : State C E L} → Inv R start h log s
      → history_after h ks ≡ grown h (bytes_taken ks (run_from R s ks)) (answers_heard ks (run_from R s ks)) (end_heard ks (run_from R s ks))
  unfolding history_after run_from bytes_taken answers_heard end_heard
  after_grown [] {h} v = grown_none h
  after_grown (k ∷ ks) {h} v =
      let a = turn_agrees R start k v in
      after_grown ks a.1 ∙ grown_on h _ _ _ _ _ _ _ (adds_grown a.2)

  -- THE EVENTS OF A RUN are the plain reading of the bytes that its calls took, the answers heard and the end told.
  pub run_took : (ks : List Call)
      → events (run_calls R start ks)
      ≡ reading R start (bytes_taken ks (run_calls R start ks)) (answers_heard ks (run_calls R start ks)) (end_heard ks (run_calls R start ks))
  unfolding run_calls
  run_took ks = sym (run_reads ks) ∙ ap (read R start) (after_grown ks (at_start R start))
