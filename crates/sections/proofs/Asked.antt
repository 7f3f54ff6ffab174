-- An answer is heard only where a question is open, and closes it: a run hears no more answers than it asked questions. Assumes nothing.
use mathlib.Core.Path.{◌≡◌, refl, sym, ap}
use mathlib.Core.Bool.{Bool, true, false}
use mathlib.Core.List.{List, [], ◌∷◌, ◌++◌}
use Prim.Native.Nat.{ℕ, ◌+◌, ◌≤◌}
use native.Mathlib.Omega.{arith}
use lib.ListN.{length, length-append}
use Rattle.sections.specs.Reading.{Log, granted, final, Rules}
use Rattle.sections.specs.Calls.{Request, feed, answer, end, Call, call, Reply, more, event, misused, Out, Standing, going, asking, over, standing_at}
use Rattle.sections.specs.Machine.{State, running, asked, finished, Step, on, decides, follow, step, fed, respond, turn, run_from, run_calls}
use Rattle.sections.specs.Resuming.{heard, answer_by, request, entry, placed, events, answers_heard}
use Rattle.sections.proofs.States.{stands, Fits, step_fits}

-- a question is open, or none
abbrev open_at : Standing → ℕ
open_at going = 0
open_at asking = 1
open_at over = 0

module _ {Q E L : Type 0} where
  abbrev asks_by : Reply Q E L → ℕ
  asks_by more = 0
  asks_by (event e) = open_at (standing_at e)
  asks_by (misused n) = 0

  -- how many questions a list of events has
  unfoldable pub questions_in : Log Q E L → ℕ
  questions_in [] = 0
  questions_in (x ∷ log) = open_at (standing_at x.1) + questions_in log

  entry_asks : (n : ℕ) (w : Reply Q E L) (log : Log Q E L) → questions_in (entry n w ++ log) ≡ asks_by w + questions_in log
  unfolding questions_in
  entry_asks n more log = omega arith
  entry_asks n (event e) log = refl
  entry_asks n (misused k) log = omega arith

module _ {C Q E L : Type 0} (R : Rules C Q E L) where
  fed_asks : (bs : List ℕ) (c : C) (g : List ℕ) → open_at (stands (fed R c g bs).1) ≡ asks_by (fed R c g bs).0.0
  unfolding fed
  fed_asks [] c g = refl
  fed_asks (b ∷ bs) c g = by (step R c g b) (step_fits R c g b) (λ c' g'. fed_asks bs c' g')
    where
      by : (σ : Step C Q E L) → Fits σ → ((c' : C) (g' : List ℕ) → open_at (stands (fed R c' g' bs).1) ≡ asks_by (fed R c' g' bs).0.0)
          → open_at (stands (follow σ (λ c' g'. fed R c' g' bs)).1) ≡ asks_by (follow σ (λ c' g'. fed R c' g' bs)).0.0
      by (on c' g') f ih = ih c' g'
      by (decides e s) f ih = ap open_at (sym f)

  -- an answer is heard only where a question is open, and closes it
  respond_asks : (s : State C E L) (r : Request)
      → length (answer_by (heard (respond R s r).0.0) r) + open_at (stands (respond R s r).1) ≡ open_at (stands s) + asks_by (respond R s r).0.0
  unfolding respond
  respond_asks (running c g) (feed piece) = by (heard (fed R c g piece).0.0) (fed_asks piece c g)
    where
      by : (t : Bool) {m n : ℕ} → m ≡ n → length (answer_by t (feed piece)) + m ≡ 0 + n
      by true e = ap (λ (k : ℕ). 0 + k) e
      by false e = ap (λ (k : ℕ). 0 + k) e
  respond_asks (running c g) (answer a) = refl
  respond_asks (running c g) end = refl
  respond_asks (asked y) (feed piece) = refl
  respond_asks (asked (granted e c)) (answer true) = refl
  respond_asks (asked (final l)) (answer true) = refl
  respond_asks (asked y) (answer false) = refl
  respond_asks (asked y) end = refl
  respond_asks finished r = refl

  turn_asks : (s : State C E L) (k : Call)
      → length (answer_by (heard (turn R s k).0.0) (request k)) + open_at (stands (turn R s k).1) ≡ open_at (stands s) + asks_by (turn R s k).0.0
  unfolding turn
  turn_asks s (call false r) = omega arith
  turn_asks s (call true r) = respond_asks s r

  answers_from : (ks : List Call) (s : State C E L) (n : ℕ)
      → length (answers_heard ks (run_from R s ks)) ≤ open_at (stands s) + questions_in (placed n (run_from R s ks))
  unfolding answers_heard run_from placed
  answers_from [] s n = omega arith
  answers_from (k ∷ ks) s n =
      let o : Out Q E L = (turn R s k).0 in
      let os : List (Out Q E L) = run_from R (turn R s k).1 ks in
      omega (
        arith,
        length-append (answer_by (heard o.0) (request k)) (answers_heard ks os),
        turn_asks s k,
        entry_asks (n + o.1) o.0 (placed (n + o.1) os),
        answers_from ks (turn R s k).1 (n + o.1),
      )

  -- THE ANSWERS HEARD are no more than the questions asked.
  pub answers_asked : (start : C) (ks : List Call) → length (answers_heard ks (run_calls R start ks)) ≤ questions_in (events (run_calls R start ks))
  unfolding run_calls
  answers_asked start ks = omega (arith, answers_from ks (running start []) 0)
