-- What the calls do to a mark, one after the other, and that its states are those of the machine. Assumes nothing.
use mathlib.Core.Path.{◌≡◌, refl}
use mathlib.Core.Bool.{true, false}
use mathlib.Core.List.{List, [], ◌∷◌}
use Prim.Native.Nat.{ℕ}
use Rattle.sections.specs.Reading.{Grant, granted, final, Rules}
use Rattle.sections.specs.Calls.{Request, feed, answer, end, Call, call}
use Rattle.sections.specs.Machine.{follow, fed, respond, turn}
use Rattle.sections.specs.Leaving.{Effects}
use Rattle.sections.proofs.Marks.{Mark, midway, waiting, done, Move, onward, halts, state_of, step_of, following, move, move_step}

module _ {C Q E L B : Type 0} (R : Rules C Q E L) (F : Effects C Q L B) where
  unfoldable pub fed_to : C → List ℕ → B → List ℕ → Mark C E L B
  fed_to c g b [] = midway c g b
  fed_to c g b (x ∷ xs) = following (move R F c g b x) (λ c' g' b'. fed_to c' g' b' xs)

  abbrev pub replied_to : C → List ℕ → Grant C E L → B → Mark C E L B
  replied_to c l (granted e c') b = midway c' [] b
  replied_to c l (final w) b = done (F.finish c l w b)

  unfoldable pub respond_to : Mark C E L B → Request → Mark C E L B
  respond_to (midway c g b) (feed piece) = fed_to c g b piece
  respond_to (midway c g b) (answer a) = midway c g b
  respond_to (midway c g b) end = done (F.finish c g R.unfinished (F.gather c g b))
  respond_to (waiting c l y b) (feed piece) = waiting c l y b
  respond_to (waiting c l y b) (answer true) = replied_to c l y b
  respond_to (waiting c l y b) (answer false) = done (F.finish c l R.denied b)
  respond_to (waiting c l y b) end = waiting c l y b
  respond_to (done b) r = done b

  unfoldable pub turn_to : Mark C E L B → Call → Mark C E L B
  turn_to m (call false r) = m
  turn_to m (call true r) = respond_to m r

  -- one call after the other
  unfoldable pub mark_after : Mark C E L B → List Call → Mark C E L B
  mark_after m [] = m
  mark_after m (k ∷ ks) = mark_after (turn_to m k) ks

  -- ---- the states are those of the machine

  fed_state : (piece : List ℕ) (c : C) (g : List ℕ) (b : B) → (fed R c g piece).1 ≡ state_of (fed_to c g b piece)
  unfolding fed fed_to
  fed_state [] c g b = refl
  fed_state (x ∷ xs) c g b = rw (← move_step R F c g b x) (by (move R F c g b x) (λ c' g' b'. fed_state xs c' g' b'))
    where
      by : (v : Move C Q E L B) → ((c' : C) (g' : List ℕ) (b' : B) → (fed R c' g' xs).1 ≡ state_of (fed_to c' g' b' xs))
          → (follow (step_of v) (λ c' g'. fed R c' g' xs)).1 ≡ state_of (following v (λ c' g' b'. fed_to c' g' b' xs))
      by (onward c' g' b') ih = ih c' g' b'
      by (halts e m) ih = refl

  pub turn_state : (m : Mark C E L B) (k : Call) → (turn R (state_of m) k).1 ≡ state_of (turn_to m k)
  unfolding turn turn_to respond respond_to
  turn_state m (call false r) = refl
  turn_state (midway c g b) (call true (feed piece)) = fed_state piece c g b
  turn_state (midway c g b) (call true (answer a)) = refl
  turn_state (midway c g b) (call true end) = refl
  turn_state (waiting c l y b) (call true (feed piece)) = refl
  turn_state (waiting c l (granted e c') b) (call true (answer true)) = refl
  turn_state (waiting c l (final w) b) (call true (answer true)) = refl
  turn_state (waiting c l y b) (call true (answer false)) = refl
  turn_state (waiting c l y b) (call true end) = refl
  turn_state (done b) (call true r) = refl
