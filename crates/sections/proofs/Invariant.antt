-- What holds between calls: the history, the log of its plain reading and the machine's state belong together. Assumes nothing.
use mathlib.Core.Path.{◌≡◌, refl}
use mathlib.Core.Bool.{Bool, true, false}
use mathlib.Core.List.{List, [], ◌∷◌, ◌++◌, append_assoc, append-nil}
use Prim.Native.Nat.{ℕ, suc}
use native.Mathlib.Numerals.{add-one}
use lib.ListN.{length, length-append}
use Rattle.sections.specs.Reading.{Event, Log, Rules, reading}
use Rattle.sections.specs.Calls.{over, standing_at, standing, History, history, fresh, read}
use Rattle.sections.specs.Machine.{State, running, finished}
use Rattle.sections.proofs.Scans.{scan, reading_scan}
use Rattle.sections.proofs.States.{stands, resume, resume_nothing}

pub standing_snoc : {Q E L : Type 0} (log : Log Q E L) (at : ℕ) (e : Event Q E L) → standing (log ++ (at, e) ∷ []) ≡ standing_at e
unfolding standing
standing_snoc [] at e = refl
standing_snoc (x ∷ []) at e = refl
standing_snoc (x ∷ y ∷ log) at e = standing_snoc (y ∷ log) at e

module _ {C Q E L : Type 0} (R : Rules C Q E L) (start : C) where
  -- However the bytes and the answers go on, the reading is the log, and then what the state makes of them.
  pub record Goes (taken : List ℕ) (ans : List Bool) (log : Log Q E L) (s : State C E L) : Type 0 where
    pub on : (bs : List ℕ) (ans' : List Bool) (told : Bool)
        → reading R start (taken ++ bs) (ans ++ ans') told ≡ log ++ resume R s (length taken) bs ans' told

  -- The invariant. Before the end is told, the reading may go on; after it, the log is the reading and ends in a last word.
  pub data Inv : History → Log Q E L → State C E L → Type 0 where
    live : {taken : List ℕ} {ans : List Bool} {log : Log Q E L} {s : State C E L}
        → standing log ≡ stands s → Goes taken ans log s → Inv (history taken ans false) log s
    ended : {taken : List ℕ} {ans : List Bool} {log : Log Q E L}
        → standing log ≡ over → reading R start taken ans true ≡ log → Inv (history taken ans true) log finished

  pub at_start : Inv fresh [] (running start [])
  unfolding standing
  at_start = live refl (record { on = λ bs ans told. reading_scan R start bs ans told })

  module _ {taken : List ℕ} {ans : List Bool} {log : Log Q E L} where
    pub goes_now : {s : State C E L} → Goes taken ans log s → reading R start taken ans false ≡ log
    goes_now {s} h = simp (append-nil, resume_nothing R s (length taken)) at (h.on [] [] false)

    -- a byte more that gives no event, and one that does
    pub goes_quiet : {c : C} {g : List ℕ} (b : ℕ) (s : State C E L) → Goes taken ans log (running c g)
        → ((bs : List ℕ) (ans' : List Bool) (told : Bool)
        → scan R c g (length taken) (b ∷ bs) ans' told ≡ resume R s (suc (length taken)) bs ans' told)
        → Goes (taken ++ b ∷ []) ans log s
    goes_quiet b s h e = record {
      on = λ bs ans' told.
          rw (append_assoc taken (b ∷ []) bs, length-append taken (b ∷ []), add-one, ← e bs ans' told) (h.on (b ∷ bs) ans' told);
    }

    pub goes_heard : {c : C} {g : List ℕ} (b : ℕ) (y : Event Q E L) (s : State C E L) → Goes taken ans log (running c g)
        → ((bs : List ℕ) (ans' : List Bool) (told : Bool)
        → scan R c g (length taken) (b ∷ bs) ans' told ≡ (suc (length taken), y) ∷ resume R s (suc (length taken)) bs ans' told)
        → Goes (taken ++ b ∷ []) ans (log ++ (length (taken ++ b ∷ []), y) ∷ []) s
    goes_heard b y s h e = record {
      on = λ bs ans' told.
          rw (append_assoc taken (b ∷ []) bs, append_assoc log, length-append taken (b ∷ []), add-one, ← e bs ans' told)
          (h.on (b ∷ bs) ans' told);
    }

    -- an answer more
    pub goes_answer : {s : State C E L} (a : Bool) (y : Event Q E L) (s' : State C E L) → Goes taken ans log s
        → ((bs : List ℕ) (ans' : List Bool) (told : Bool)
        → resume R s (length taken) bs (a ∷ ans') told ≡ (length taken, y) ∷ resume R s' (length taken) bs ans' told)
        → Goes taken (ans ++ a ∷ []) (log ++ (length taken, y) ∷ []) s'
    goes_answer a y s' h e = record {
      on = λ bs ans' told.
          rw (append_assoc ans (a ∷ []) ans', append_assoc log, ← e bs ans' told) (h.on bs (a ∷ ans') told);
    }

  -- the log is the reading of the history, and stands where the machine stands
  pub inv_read : {h : History} {log : Log Q E L} {s : State C E L} → Inv h log s → read R start h ≡ log
  inv_read (live st g) = goes_now g
  inv_read (ended st e) = e

  pub inv_stands : {h : History} {log : Log Q E L} {s : State C E L} → Inv h log s → standing log ≡ stands s
  inv_stands (live st g) = st
  inv_stands (ended st e) = st
