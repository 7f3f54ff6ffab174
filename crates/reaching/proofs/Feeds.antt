-- A feed of the machine beside the reading of the stream: what it takes of its piece, what its word says of the state after it, and
-- what is still to be read. Assumes nothing.
use mathlib.Core.Path.{◌≡◌, refl, ap}
use mathlib.Core.Bool.{Bool, true, false}
use mathlib.Core.List.{List, [], ◌∷◌, ◌++◌}
use Prim.Native.Nat.{ℕ, suc, ◌+◌}
use native.Mathlib.Nat.{add-zero}
use native.Mathlib.Numerals.{add-one}
use native.Mathlib.Omega.{arith}
use lib.ListN.{length}
use Rattle.sections.specs.Reading.{question, message, last, Grant, Verdict, go, tell, ask, stop, Rules}
use Rattle.sections.specs.Calls.{Reply, more, event}
use Rattle.sections.specs.Machine.{State, running, asked, finished, Step, on, decides, Turn, ruling, one_more, follow, gathered, step, fed}
use Rattle.sections.specs.Resuming.{heard, entry}
use Rattle.sections.proofs.States.{stands, resume, stepped, scan_step}
use Rattle.sections.proofs.Scans.{scan}
use Rattle.reaching.specs.Caller.{after_word}

-- ---- a word and the state after it

module _ {C Q E L : Type 0} where
  pub data Leaves : Reply Q E L → State C E L → Type 0 where
    says_more : {c : C} {g : List ℕ} → Leaves more (running c g)
    says_message : {e : E} {c : C} {g : List ℕ} → Leaves (event (message e)) (running c g)
    says_question : {q : Q} {y : Grant C E L} → Leaves (event (question q)) (asked y)
    says_last : {l : L} → Leaves (event (last l)) finished

  pub leaves_heard : {w : Reply Q E L} {s : State C E L} → Leaves w s → heard w ≡ true
  leaves_heard says_more = refl
  leaves_heard says_message = refl
  leaves_heard says_question = refl
  leaves_heard says_last = refl

  pub leaves_after : {w : Reply Q E L} {s : State C E L} → Leaves w s → after_word w ≡ stands s
  leaves_after says_more = refl
  leaves_after says_message = refl
  leaves_after says_question = refl
  leaves_after says_last = refl

  -- the same of a byte's step
  abbrev StepLeaves : Step C Q E L → Type 0
  StepLeaves (on c g) = Unit {0}
  StepLeaves (decides e s) = Leaves (event e) s

  rule_leaves : (v : Verdict C Q E L) → StepLeaves (ruling v)
  rule_leaves (go c) = tt
  rule_leaves (tell e c) = says_message
  rule_leaves (ask q y) = says_question
  rule_leaves (stop l) = says_last

module _ {C Q E L : Type 0} (R : Rules C Q E L) where
  step_leaves : (c : C) (g : List ℕ) (b : ℕ) → StepLeaves (step R c g b)
  unfolding step
  step_leaves c g b = by (R.whole c (g ++ b ∷ [])) (g ++ b ∷ [])
    where
      by : (x : Bool) (t : List ℕ) → StepLeaves (gathered R x c t)
      by true t = rule_leaves (R.judge c t)
      by false t = tt

  -- ---- a piece

  -- What a feed of a piece, with `rest` after it in the stream, comes to: it takes the piece's beginning f. The reading of all of that
  -- is its word, at its place, and then the reading of what comes after f.
  pub data Brought (c : C) (g piece rest : List ℕ) : Turn C Q E L → Type 0 where
    brought : (f r : List ℕ) {w : Reply Q E L} {s : State C E L} → f ++ r ≡ piece → Leaves w s
        → ((at : ℕ) (answers : List Bool) → scan R c g at (piece ++ rest) answers true
        ≡ entry (at + length f) w ++ resume R s (at + length f) (r ++ rest) answers true)
        → Brought c g piece rest ((w, length f), s)

  pub brought_heard : {c : C} {g piece rest : List ℕ} {t : Turn C Q E L} → Brought c g piece rest t → heard t.0.0 ≡ true
  brought_heard (brought f r p x k) = leaves_heard x

  -- a byte that gives no event, and then the others
  one_more_lem : (c c' : C) (g g' : List ℕ) (b : ℕ) (piece rest : List ℕ) {t : Turn C Q E L}
      → ((at : ℕ) (answers : List Bool) → scan R c g at (b ∷ piece ++ rest) answers true ≡ scan R c' g' (suc at) (piece ++ rest) answers true)
      → Brought c' g' piece rest t → Brought c g (b ∷ piece) rest (one_more t)
  one_more_lem c c' g g' b piece rest e (brought f r p x k) =
      brought (b ∷ f) r (ap (λ (l : List ℕ). b ∷ l) p) x
      (λ at answers. let s : at + suc (length f) ≡ suc at + length f = omega arith in rw (e at answers, s) (k (suc at) answers))

  pub feeds : (piece rest : List ℕ) (c : C) (g : List ℕ) → Brought c g piece rest (fed R c g piece)
  unfolding fed
  feeds [] rest c g = brought [] [] refl (says_more {c = c} {g = g}) (λ at answers. rw (add-zero at))
  feeds (b ∷ piece) rest c g =
      by (step R c g b) (step_leaves c g b) (λ at answers. scan_step R c g at b (piece ++ rest) answers true) (λ c' g'. feeds piece rest c' g')
    where
      by : (σ : Step C Q E L) → StepLeaves σ
          → ((at : ℕ) (answers : List Bool) → scan R c g at (b ∷ piece ++ rest) answers true ≡ stepped R σ (suc at) (piece ++ rest) answers true)
          → ((c' : C) (g' : List ℕ) → Brought c' g' piece rest (fed R c' g' piece))
          → Brought c g (b ∷ piece) rest (follow σ (λ c' g'. fed R c' g' piece))
      by (on c' g') x e ih = one_more_lem c c' g g' b piece rest e (ih c' g')
      by (decides y s) x e ih = brought (b ∷ []) piece refl x (λ at answers. rw (add-one at) (e at answers))
