-- A text held against a form byte by byte: a scanner has a state to start in, the state that a byte leads to, or none, and the states in which
-- a good text may be at its end. Where it stops is the longest beginning that some good text also has (proofs/Reach.antt). Assumes nothing.
use Rattle.std.specs.Prelude.{Bool, false, List, [], ◌∷◌, ℕ, suc}
use Rattle.std.proofs.Math.Option.{Option, none, some}

pub record Scanner (S : Type 0) : Type 0 where
  pub start : S
  pub step : S → ℕ → Option S
  pub may_end : S → Bool

-- ---- from a state on

-- every byte has a step, and the last one leads to a state in which a text may end
unfoldable pub accepts_from : {S : Type 0} → (S → ℕ → Option S) → (S → Bool) → S → List ℕ → Bool
accepts_from step may_end s [] = may_end s
accepts_from step may_end s (b ∷ l) = elim (step s b) [ none ↦ false | some t ↦ accepts_from step may_end t l ]

-- how many bytes have a step, up to the first that has none
unfoldable pub reach_from : {S : Type 0} → (S → ℕ → Option S) → S → List ℕ → ℕ
reach_from step s [] = 0
reach_from step s (b ∷ l) = elim (step s b) [ none ↦ 0 | some t ↦ suc (reach_from step t l) ]

-- ---- from the start

unfoldable pub accepts : {S : Type 0} → Scanner S → List ℕ → Bool
accepts sc l = accepts_from sc.step sc.may_end sc.start l

unfoldable pub reach : {S : Type 0} → Scanner S → List ℕ → ℕ
reach sc l = reach_from sc.step sc.start l
