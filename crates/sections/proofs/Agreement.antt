-- One call: the machine's word and count are those of the plain reading, and both go on side by side. Assumes nothing.
use mathlib.Core.Path.{◌≡◌, refl, ◌∙◌}
use mathlib.Core.Bool.{Bool, true, false}
use mathlib.Core.List.{List, [], ◌∷◌, ◌++◌, append-nil}
use Prim.Native.Nat.{ℕ}
use lib.ListN.{length}
use lib.Seq.{drop-append_seam, drop-length}
use Rattle.sections.specs.Reading.{Event, message, last, Log, Grant, granted, final, Rules, Cut, reading}
use Rattle.sections.specs.Calls.{Request, feed, answer, end, Call, call, Reply, event, misused, Out, going, standing_at, standing, History, history, refuses, leads, part, read_request, read_call, read_from}
use Rattle.sections.specs.Machine.{State, running, asked, finished, Turn, replied, declined, respond, turn, run_from}
use Rattle.sections.specs.Resuming.{entry, heard, request}
use Rattle.sections.proofs.Scans.{scan}
use Rattle.sections.proofs.States.{stands}
use Rattle.sections.proofs.Invariant.{standing_snoc, Goes, Inv, live, ended, goes_now, goes_answer, inv_read, inv_stands}
use Rattle.sections.proofs.Feeding.{Fed, all_of, up_to, feed_agrees}

-- the number of bytes taken so far
abbrev pub size : History → ℕ
size (history taken ans told) = length taken

-- what a call that returns o adds to the history
pub data Adds {Q E L : Type 0} : History → Request → Out Q E L → History → Type 0 where
  nothing : {h : History} {k : Request} {n : ℕ} → Adds h k (misused n, 0) h
  bytes : {taken piece : List ℕ} (f r : List ℕ) {ans : List Bool} {w : Reply Q E L} → heard w ≡ true → f ++ r ≡ piece
      → Adds (history taken ans false) (feed piece) (w, length f) (history (taken ++ f) ans false)
  reply : {taken : List ℕ} {ans : List Bool} {a : Bool} {e : Event Q E L}
      → Adds (history taken ans false) (answer a) (event e, 0) (history taken (ans ++ a ∷ []) false)
  close : {taken : List ℕ} {ans : List Bool} {e : Event Q E L} → Adds (history taken ans false) end (event e, 0) (history taken ans true)

module _ {C Q E L : Type 0} (R : Rules C Q E L) (start : C) where
  -- The machine's turn m has the word and the count that the reading r gives, and both stand at the same place after it.
  abbrev pub Agrees : History → Request → Log Q E L → Turn C Q E L → Out Q E L × History → Type 0
  Agrees h k log m r = (m.0 ≡ r.0) × Inv R start r.1 (log ++ entry (size r.1) m.0.0) m.1 × Adds h k m.0 r.1

  refusal_agrees : {h : History} {k : Request} {log : Log Q E L} {s : State C E L} (n : ℕ) → Inv R start h log s
      → Agrees h k log (declined n s) (refuses n h)
  refusal_agrees n v = (refl, rw append-nil v, nothing)

  module _ {taken : List ℕ} {ans : List Bool} {log : Log Q E L} where
    fed_agrees : {l : List ℕ} {k : Cut} {o : Turn C Q E L} → standing log ≡ going → reading R start taken ans false ≡ log
        → Fed R start taken ans log l k o
        → Agrees (history taken ans false) (feed l) log o
        (leads R start (history taken ans false) (length (part l k)) (history (taken ++ part l k) ans false))
    fed_agrees {l} st now (all_of h) =
        (rw (now, goes_now R start h, drop-length log), rw append-nil (live st h), bytes l [] refl (append-nil l))
    fed_agrees st now (up_to {f} {r} {e} p hs h) = (
      rw (now, goes_now R start h, drop-append_seam log),
      live (standing_snoc log (length (taken ++ f)) e ∙ hs) h,
      bytes f r refl p,
    )

    answer_agrees : {s s' : State C E L} (a : Bool) {e : Event Q E L} → Goes R start taken ans log s → standing_at e ≡ stands s'
        → Goes R start taken (ans ++ a ∷ []) (log ++ (length taken, e) ∷ []) s'
        → Agrees (history taken ans false) (answer a) log ((event e, 0), s')
        (leads R start (history taken ans false) 0 (history taken (ans ++ a ∷ []) false))
    answer_agrees a {e} h hs h' = (
      rw (goes_now R start h, goes_now R start h', drop-append_seam log),
      live (standing_snoc log (length taken) e ∙ hs) h',
      reply,
    )

    yes_agrees : (y : Grant C E L) → Goes R start taken ans log (asked y)
        → Agrees (history taken ans false) (answer true) log (replied y)
        (leads R start (history taken ans false) 0 (history taken (ans ++ true ∷ []) false))
    yes_agrees (granted e c) h =
        answer_agrees true h refl (goes_answer R start true (message e) (running c []) h (λ bs ans' told. refl))
    yes_agrees (final l) h = answer_agrees true h refl (goes_answer R start true (last l) finished h (λ bs ans' told. refl))

    end_agrees : {c : C} {g : List ℕ} → Goes R start taken ans log (running c g)
        → Agrees (history taken ans false) end log ((event (last R.unfinished), 0), finished)
        (leads R start (history taken ans false) 0 (history taken ans true))
    unfolding scan
    end_agrees h =
        let e : reading R start taken ans true ≡ log ++ (length taken, last R.unfinished) ∷ [] = simp append-nil at (h.on [] [] true) in
        (rw (goes_now R start h, e, drop-append_seam log), ended (standing_snoc log (length taken) (last R.unfinished)) e, close)

    live_agrees : (s : State C E L) (k : Request) → standing log ≡ stands s → Goes R start taken ans log s
        → Agrees (history taken ans false) k log (respond R s k) (read_request R start (stands s) (history taken ans false) k)
    unfolding respond read_request
    live_agrees (running c g) (feed l) st h = fed_agrees st (goes_now R start h) (feed_agrees R start l _ (λ t. rw (goes_now R start h)) h)
    live_agrees (running c g) (answer a) st h = refusal_agrees 1 (live st h)
    live_agrees (running c g) end st h = end_agrees h
    live_agrees (asked y) (feed l) st h = refusal_agrees 1 (live st h)
    live_agrees (asked y) (answer true) st h = yes_agrees y h
    live_agrees (asked y) (answer false) st h =
        answer_agrees false h refl (goes_answer R start false (last R.denied) finished h (λ bs ans' told. refl))
    live_agrees (asked y) end st h = refusal_agrees 1 (live st h)
    live_agrees finished k st h = refusal_agrees 1 (live st h)

  request_agrees : {h : History} {log : Log Q E L} {s : State C E L} (k : Request) → Inv R start h log s
      → Agrees h k log (respond R s k) (read_request R start (stands s) h k)
  unfolding respond read_request
  request_agrees {s} k (live st g) = live_agrees s k st g
  request_agrees k (ended st e) = refusal_agrees 1 (ended st e)

  -- a call that is ill lent, wherever the machine stands
  ill_agrees : {h : History} {log : Log Q E L} (s : State C E L) (k : Request) → Inv R start h log s
      → Agrees h k log (turn R s (call false k)) (read_call R start h (call false k))
  unfolding turn read_call
  ill_agrees (running c g) k v = refusal_agrees 2 v
  ill_agrees (asked y) k v = refusal_agrees 2 v
  ill_agrees finished k v = refusal_agrees 2 v

  -- ONE CALL keeps the invariant, and its word and count are those of the reading.
  pub turn_agrees : {h : History} {log : Log Q E L} {s : State C E L} (k : Call) → Inv R start h log s
      → Agrees h (request k) log (turn R s k) (read_call R start h k)
  unfolding turn read_call
  turn_agrees {s} (call false k) v = ill_agrees s k v
  turn_agrees (call true k) v = rw (inv_read R start v, inv_stands R start v) (request_agrees k v)

  -- and so does every list of calls
  pub turns_agree : (ks : List Call) {h : History} {log : Log Q E L} {s : State C E L} → Inv R start h log s → run_from R s ks ≡ read_from R start h ks
  unfolding run_from read_from
  turns_agree [] v = refl
  turns_agree (k ∷ ks) v = let a = turn_agrees k v in λ i. a.0 i ∷ turns_agree ks a.1 i
