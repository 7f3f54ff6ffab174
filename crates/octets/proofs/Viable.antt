-- A text has only one longest beginning that some good text also has. Assumes nothing.
use mathlib.Core.Bool.{Bool}
use mathlib.Core.List.{List}
use mathlib.Core.Path.{◌≡◌}
use Prim.Native.Nat.{ℕ}
use native.Mathlib.Nat.{le_antisymm}
use Rattle.octets.specs.Viable.{LongestViable}

pub longest_only : {good : List ℕ → Bool} {t : List ℕ} {m n : ℕ} → LongestViable good t m → LongestViable good t n → m ≡ n
longest_only {good} {t} {m} {n} p q = le_antisymm (q.longest m p.within p.viable) (p.longest n q.within q.viable)
