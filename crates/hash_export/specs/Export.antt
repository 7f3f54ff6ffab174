-- What the exported functions answer. Assumes nothing.
use Rattle.std.specs.Prelude.{Bool, true, false, List, ◌++◌, ℕ, eqb, length}
use Rattle.octets.specs.Choice.{pick}
use Rattle.hash.specs.Sha512.{sha512}
use Rattle.sha256.specs.Sha256.{sha256}

-- The result, and what the lent bytes then are.
pub record Answer : Type 0 where
  pub done : Bool
  pub out : List ℕ

abbrev pub made : Bool → List ℕ → Answer
made b l = record { done = b; out = l }

abbrev pub answered : List ℕ → List ℕ → List ℕ → Answer
answered before message out =
    pick (eqb (length before) 64) (pick (eqb (length out) 64) (made true (sha512 (before ++ message))) (made false out)) (made false out)

abbrev pub answered256 : List ℕ → List ℕ → List ℕ → Answer
answered256 first second out = pick (eqb (length out) 32) (made true (sha256 (first ++ second))) (made false out)
