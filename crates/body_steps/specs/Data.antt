-- What one byte of a block's data does, and one of the CR LF after it (paper 01, "Blocks"): it is gathered, and what is whole with it
-- is judged. In a state that no stream leads to, with a count past its buffer, it is refused as too long. Assumes nothing.
use Rattle.std.specs.Prelude.{[], ◌∷◌, ℕ, ◌+◌, eqb, leb, length, set, get_or}
use Rattle.octets.specs.Choice.{pick}
use Rattle.refusals.specs.Refusals.{placed}
use Rattle.stream.specs.Bytes.{same}
use Rattle.stream.specs.Lines.{crlf}
use Rattle.stream.specs.Places.{data_end_place}
use Rattle.state.specs.Configuration.{Configuration, configuration, in_phase, moved, lined, Next, on, refuse}
use Rattle.state.specs.declared.phase.Phase.{Phase}
use Rattle.state.specs.declared.phase.Phase.TheVariants as P

-- with the last byte of the block comes its data end
abbrev pub after_data : ℕ → ℕ → Phase
after_data have size = pick (leb size have) (P.DataEnd 0 size) (P.Data have size)

unfoldable pub push_data : Configuration → ℕ → ℕ → ℕ → Next
push_data d have size x =
    pick (leb (length d.block) have)
    (refuse (placed 6 0) have d)
    (on (configuration (in_phase d.reader (after_data (have + 1) size)) d.head (set d.block have x) d.question))

-- "judged when both have come": the first byte waits in the line
unfoldable pub push_data_end : Configuration → ℕ → ℕ → ℕ → Next
push_data_end d have size x =
    pick (eqb have 0)
    (on (lined d (P.DataEnd 1 size) (set d.reader.line 0 x)))
    (pick (same (get_or d.reader.line 0 0 ∷ x ∷ []) crlf) (on (moved d (P.NextLine 0 size))) (refuse (placed 6 (data_end_place (get_or d.reader.line 0 0 ∷ x ∷ []))) size d))
