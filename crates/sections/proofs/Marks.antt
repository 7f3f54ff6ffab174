-- The machine of Machine.antt once more, with what it leaves: the state has beside it what was there when its section began. Assumes nothing.
use mathlib.Core.Path.{◌≡◌, refl}
use mathlib.Core.Bool.{Bool, true, false}
use mathlib.Core.List.{List, [], ◌∷◌, ◌++◌}
use Prim.Native.Nat.{ℕ}
use Rattle.sections.specs.Reading.{Event, question, message, last, Grant, granted, final, Verdict, go, tell, ask, stop, Rules}
use Rattle.sections.specs.Machine.{State, running, asked, finished, Step, on, decides, ruling, gathered, step}
use Rattle.sections.specs.Leaving.{Effects, after_answer, after_verdict}
use Rattle.sections.proofs.Trails.{trail}

-- In a section, with the bytes gathered, and what was there when it began; at a question about the whole section of a context, with what a yes
-- gives and what is there; after a last word, with what is there.
pub data Mark (C E L B : Type 0) : Type 0 where
  midway : C → List ℕ → B → Mark C E L B
  waiting : C → List ℕ → Grant C E L → B → Mark C E L B
  done : B → Mark C E L B

-- what a byte does
pub data Move (C Q E L B : Type 0) : Type 0 where
  onward : C → List ℕ → B → Move C Q E L B
  halts : Event Q E L → Mark C E L B → Move C Q E L B

abbrev pub state_of : {C E L B : Type 0} → Mark C E L B → State C E L
state_of (midway c g b) = running c g
state_of (waiting c l y b) = asked y
state_of (done b) = finished

module _ {C Q E L B : Type 0} where
  abbrev pub step_of : Move C Q E L B → Step C Q E L
  step_of (onward c g b) = on c g
  step_of (halts e m) = decides e (state_of m)

  abbrev pub mark_of : Move C Q E L B → Mark C E L B
  mark_of (onward c g b) = midway c g b
  mark_of (halts e m) = m

  abbrev pub following : Move C Q E L B → (C → List ℕ → B → Mark C E L B) → Mark C E L B
  following (onward c g b) rest = rest c g b
  following (halts e m) rest = m

module _ {C Q E L B : Type 0} (R : Rules C Q E L) (F : Effects C Q L B) where
  -- what is there now
  abbrev pub left_at : Mark C E L B → B
  left_at (midway c g b) = F.gather c g b
  left_at (waiting c l y b) = b
  left_at (done b) = b

  -- what will be there after more bytes and answers
  abbrev pub trail_from : Mark C E L B → List ℕ → List Bool → Bool → B
  trail_from (midway c g b) bs ans told = trail R F c g bs ans told b
  trail_from (waiting c l y b) bs ans told = after_answer R F c l y ans b (λ c' ans' b'. trail R F c' [] bs ans' told b')
  trail_from (done b) bs ans told = b

  pub trail_now : (m : Mark C E L B) → trail_from m [] [] false ≡ left_at m
  unfolding trail
  trail_now (midway c g b) = refl
  trail_now (waiting c l (granted e c') b) = refl
  trail_now (waiting c l (final w) b) = refl
  trail_now (done b) = refl

  -- ---- a byte

  abbrev pub ruling_on : C → List ℕ → Verdict C Q E L → B → Move C Q E L B
  ruling_on c l (go c') b = onward c' [] b
  ruling_on c l (tell e c') b = halts (message e) (midway c' [] b)
  ruling_on c l (ask q y) b = halts (question q) (waiting c l y (F.ask q b))
  ruling_on c l (stop w) b = halts (last w) (done (F.finish c l w b))

  abbrev pub gathered_on : Bool → C → List ℕ → B → Move C Q E L B
  gathered_on true c l b = ruling_on c l (R.judge c l) (F.gather c l b)
  gathered_on false c l b = onward c l b

  unfoldable pub move : C → List ℕ → B → ℕ → Move C Q E L B
  move c g b x = gathered_on (R.whole c (g ++ x ∷ [])) c (g ++ x ∷ []) b

  ruling_step : (c : C) (l : List ℕ) (v : Verdict C Q E L) (b : B) → step_of (ruling_on c l v b) ≡ ruling v
  ruling_step c l (go c') b = refl
  ruling_step c l (tell e c') b = refl
  ruling_step c l (ask q y) b = refl
  ruling_step c l (stop w) b = refl

  pub move_step : (c : C) (g : List ℕ) (b : B) (x : ℕ) → step_of (move c g b x) ≡ step R c g x
  unfolding move step
  move_step c g b x = by (R.whole c (g ++ x ∷ []))
    where
      by : (t : Bool) → step_of (gathered_on t c (g ++ x ∷ []) b) ≡ gathered R t c (g ++ x ∷ [])
      by true = ruling_step c (g ++ x ∷ []) (R.judge c (g ++ x ∷ [])) (F.gather c (g ++ x ∷ []) b)
      by false = refl

  ruling_trail : (c : C) (l : List ℕ) (v : Verdict C Q E L) (b : B) (bs : List ℕ) (ans : List Bool) (told : Bool)
      → after_verdict R F c l v ans b (λ c' ans' b'. trail R F c' [] bs ans' told b') ≡ trail_from (mark_of (ruling_on c l v b)) bs ans told
  ruling_trail c l (go c') b bs ans told = refl
  ruling_trail c l (tell e c') b bs ans told = refl
  ruling_trail c l (ask q y) b bs ans told = refl
  ruling_trail c l (stop w) b bs ans told = refl

  pub move_trail : (c : C) (g : List ℕ) (b : B) (x : ℕ) (bs : List ℕ) (ans : List Bool) (told : Bool)
      → trail R F c g (x ∷ bs) ans told b ≡ trail_from (mark_of (move c g b x)) bs ans told
  unfolding move trail
  move_trail c g b x bs ans told = by (R.whole c (g ++ x ∷ []))
    where
      by : (t : Bool) → ◌≡◌ {A = B}
          (elim t [
            | true ↦ after_verdict R F c (g ++ x ∷ []) (R.judge c (g ++ x ∷ [])) ans (F.gather c (g ++ x ∷ []) b) (λ c' ans' b'. trail R F c' [] bs ans' told b')
            | false ↦ trail R F c (g ++ x ∷ []) bs ans told b
          ])
          (trail_from (mark_of (gathered_on t c (g ++ x ∷ []) b)) bs ans told)
      by true = ruling_trail c (g ++ x ∷ []) (R.judge c (g ++ x ∷ [])) (F.gather c (g ++ x ∷ []) b) bs ans told
      by false = refl
