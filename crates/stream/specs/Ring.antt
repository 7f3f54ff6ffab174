-- The key ring (paper 01, "The head"): "a 32-byte key, first and last second trusted". Assumes nothing.
use Rattle.std.specs.Prelude.{Bool, true, false, ◌&&◌, List, [], ◌∷◌, ℕ, suc}
use Rattle.std.proofs.Math.Option.{Option, none, some}
use Rattle.stream.specs.Bytes.{same, between}

pub record Trusted : Type 0 where
  pub key : List ℕ
  pub first : ℕ
  pub last : ℕ

abbrev pub Ring : Type 0
Ring = List Trusted

-- the record has the key, and the time is within its span, both ends included
unfoldable pub fits : List ℕ → ℕ → Trusted → Bool
fits key time r = same key r.key && between r.first r.last time

-- "the first record that fits ends the search": its number, where the ring's first is i
unfoldable pub first_from : ℕ → List ℕ → ℕ → Ring → Option ℕ
first_from i key time [] = none
first_from i key time (r ∷ rs) = elim (fits key time r) [ true ↦ some i | false ↦ first_from (suc i) key time rs ]

-- records are counted from 0
unfoldable pub found : List ℕ → ℕ → Ring → Option ℕ
found key time ring = first_from 0 key time ring

abbrev pub is_found : Option ℕ → Bool
is_found none = false
is_found (some i) = true

abbrev pub number_of : Option ℕ → ℕ
number_of none = 0
number_of (some i) = i
