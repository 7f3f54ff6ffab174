-- How far a text goes well: the length of its longest beginning that some good text also has. Nothing here speaks of how a text is
-- read. Assumes nothing.
use Rattle.std.specs.Prelude.{Bool, true, List, ◌++◌, ◌≡◌, ℕ, ◌≤◌, length, take}
use Rattle.std.proofs.Math.Pow.{are_bytes}

-- Some good text begins with p: with these bytes after it, p is one.
pub record Viable (good : List ℕ → Bool) (p : List ℕ) : Type 0 where
  pub rest : List ℕ
  pub bytes : are_bytes rest ≡ true
  pub completes : good (p ++ rest) ≡ true

-- n is the length of the longest beginning of t that some good text also has.
pub record LongestViable (good : List ℕ → Bool) (t : List ℕ) (n : ℕ) : Type 0 where
  pub within : n ≤ length t
  pub viable : Viable good (take n t)
  pub longest : (m : ℕ) → m ≤ length t → Viable good (take m t) → m ≤ n
