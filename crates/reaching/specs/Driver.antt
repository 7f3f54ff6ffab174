-- The ordinary caller over the machine of crate sections: its calls, each of them well lent. Assumes nothing.
use Rattle.std.specs.Prelude.{Bool, true, List, [], ◌∷◌, ℕ}
use Rattle.sections.specs.Reading.{Rules}
use Rattle.sections.specs.Calls.{Request, Call, call}
use Rattle.sections.specs.Machine.{State, running, Turn, turn}
use Rattle.reaching.specs.Caller.{requests_over}

unfoldable pub well_lent : List Request → List Call
well_lent [] = []
well_lent (r ∷ rs) = call true r ∷ well_lent rs

module _ {C Q E L : Type 0} (R : Rules C Q E L) where
  abbrev pub turns : State C E L → Request → Turn C Q E L
  turns s r = turn R s (call true r)

  -- from the start
  abbrev pub calls_over : C → List ℕ → List Bool → List ℕ → List Call
  calls_over start lengths answers stream = well_lent (requests_over turns (running start []) lengths answers stream)
