-- How a text is completed from where a scanner stops. Assumes nothing.
use mathlib.Core.Bool.{true}
use mathlib.Core.List.{List, [], ◌∷◌}
use mathlib.Core.Option.{Option, none, some}
use mathlib.Core.Path.{◌≡◌}
use Prim.Native.Nat.{ℕ}
use Rattle.scanner.specs.Scanner.{Scanner, accepts_from}

-- the state in which it stops
unfoldable pub last_from : {S : Type 0} → (S → ℕ → Option S) → S → List ℕ → S
last_from step s [] = s
last_from step s (b ∷ l) = elim (step s b) [ none ↦ s | some t ↦ last_from step t l ]

-- from every state some bytes lead to an end
pub record Finishing {S : Type 0} (sc : Scanner S) : Type 0 where
  pub finish : S → List ℕ
  pub finishes : (s : S) → accepts_from sc.step sc.may_end s (finish s) ≡ true

-- what completes a text, as far as it is reached
unfoldable pub ending : {S : Type 0} (sc : Scanner S) → Finishing sc → List ℕ → List ℕ
ending sc fin l = fin.finish (last_from sc.step sc.start l)
