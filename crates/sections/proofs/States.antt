-- What the plain reading makes of further bytes and answers where the machine stands in a given state. Assumes nothing.
use mathlib.Core.Path.{◌≡◌, refl}
use mathlib.Core.Bool.{Bool, true, false}
use mathlib.Core.List.{List, [], ◌∷◌, ◌++◌}
use Prim.Native.Nat.{ℕ, suc}
use Rattle.sections.specs.Reading.{Log, Verdict, go, tell, ask, stop, Rules, answered, judged}
use Rattle.sections.specs.Calls.{Standing, going, asking, over, standing_at}
use Rattle.sections.specs.Machine.{State, running, asked, finished, Step, on, decides, ruling, gathered, step}
use Rattle.sections.proofs.Scans.{scan}

abbrev pub stands : {C E L : Type 0} → State C E L → Standing
stands (running c g) = going
stands (asked y) = asking
stands finished = over

module _ {C Q E L : Type 0} where
  -- an event that a byte decides stands as the state after it does
  abbrev pub Fits : Step C Q E L → Type 0
  Fits (on c g) = Unit {0}
  Fits (decides e s) = standing_at e ≡ stands s

  rule_fits : (v : Verdict C Q E L) → Fits (ruling v)
  rule_fits (go c) = tt
  rule_fits (tell e c) = refl
  rule_fits (ask q y) = refl
  rule_fits (stop l) = refl

module _ {C Q E L : Type 0} (R : Rules C Q E L) where
  -- what the reading adds to its log
  abbrev pub resume : State C E L → ℕ → List ℕ → List Bool → Bool → Log Q E L
  resume (running c g) at bs ans told = scan R c g at bs ans told
  resume (asked y) at bs ans told = answered R y at ans (λ c' ans'. scan R c' [] at bs ans' told)
  resume finished at bs ans told = []

  pub resume_nothing : (s : State C E L) (at : ℕ) → resume s at [] [] false ≡ []
  unfolding scan
  resume_nothing (running c g) at = refl
  resume_nothing (asked y) at = refl
  resume_nothing finished at = refl

  -- the same after a byte's step
  abbrev pub stepped : Step C Q E L → ℕ → List ℕ → List Bool → Bool → Log Q E L
  stepped (on c g) at bs ans told = scan R c g at bs ans told
  stepped (decides e s) at bs ans told = (at, e) ∷ resume s at bs ans told

  pub step_fits : (c : C) (g : List ℕ) (b : ℕ) → Fits (step R c g b)
  unfolding step
  step_fits c g b = by (R.whole c (g ++ b ∷ [])) _
    where
      by : (x : Bool) (t : List ℕ) → Fits (gathered R x c t)
      by true t = rule_fits (R.judge c t)
      by false t = tt

  judged_stepped : (v : Verdict C Q E L) (at : ℕ) (bs : List ℕ) (ans : List Bool) (told : Bool)
      → judged R v at ans (λ c' ans'. scan R c' [] at bs ans' told) ≡ stepped (ruling v) at bs ans told
  judged_stepped (go c) at bs ans told = refl
  judged_stepped (tell e c) at bs ans told = refl
  judged_stepped (ask q y) at bs ans told = refl
  judged_stepped (stop l) at bs ans told = refl

  -- the reading of one byte more is the machine's step
  pub scan_step : (c : C) (g : List ℕ) (at b : ℕ) (bs : List ℕ) (ans : List Bool) (told : Bool)
      → scan R c g at (b ∷ bs) ans told ≡ stepped (step R c g b) (suc at) bs ans told
  unfolding scan step
  scan_step c g at b bs ans told = by (R.whole c (g ++ b ∷ []))
    where
      by : (x : Bool) → ◌≡◌ {A = Log Q E L}
          (elim x [
            | true ↦ judged R (R.judge c (g ++ b ∷ [])) (suc at) ans (λ c' ans'. scan R c' [] (suc at) bs ans' told)
            | false ↦ scan R c (g ++ b ∷ []) (suc at) bs ans told
          ])
          (stepped (gathered R x c (g ++ b ∷ [])) (suc at) bs ans told)
      by true = judged_stepped (R.judge c (g ++ b ∷ [])) (suc at) bs ans told
      by false = refl
