-- Rules in the order in which they are tested, each with its refusal's number. Assumes nothing.
use Rattle.std.specs.Prelude.{Bool, List, [], ◌∷◌, ℕ}
use Rattle.octets.specs.Choice.{pick}

pub record Rule : Type 0 where
  pub number : ℕ
  pub holds : Bool

abbrev pub rule : ℕ → Bool → Rule
rule n b = record { number = n; holds = b }

-- the number of the first rule that is broken; 0 where all hold
unfoldable pub first_broken : List Rule → ℕ
first_broken [] = 0
first_broken (r ∷ rs) = pick r.holds (first_broken rs) r.number
