-- What the exported functions answer and leave in the bytes that they are lent, in terms of the reader's calls on the first parts of the
-- buffers (crate fronts) and of how state, ring and results are written down (crates layout, packing and results). Assumes nothing.
use Rattle.std.specs.Prelude.{Bool, not, List, [], ℕ, eqb, leb, length, take}
use Rattle.octets.specs.Choice.{pick}
use Rattle.stream.specs.Limits.{head_limit, block_limit}
use Rattle.handing.specs.Handing.{handed_value, handed_count}
use Rattle.packing.specs.Keys.{keys_in}
use Rattle.packing.specs.Parts.{Placed, placing, placed}
use Rattle.results.specs.Written.{Answer, made, are_long, answered}
use Rattle.layout.specs.State.{state_size, stored, decoded}
use Rattle.calls.specs.Response.{Response}
use Rattle.fronts.specs.Fronts.{feed_front, answer_front, end_front}
use Rattle.handing.specs.Released.{block_part}
use Rattle.state.specs.Configuration.{Configuration, configuration, fresh_reader}

-- the answer where the buffer of the state or of the result is too short: nothing is changed then
abbrev pub short : ℕ
short = 255

-- ---- a fresh reader

pub record Begun : Type 0 where
  pub word : ℕ
  pub state : List ℕ

abbrev pub begun : ℕ → List ℕ → Begun
begun n s = record { word = n; state = s }

unfoldable pub begun_in : List ℕ → Begun
begun_in s = pick (leb state_size (length s)) (begun 0 (stored fresh_reader s)) (begun short s)

-- ---- the three calls

unfoldable pub called : List ℕ → List ℕ → List ℕ → List ℕ → List ℕ → Response → Answer
called s h b q t c = pick (are_long (length s) (length t)) (answered s t c) (made short s h b q t)

-- the reader that the bytes say, with the buffers that it is lent
abbrev pub configuration_in : List ℕ → List ℕ → List ℕ → List ℕ → Configuration
configuration_in s h b q = configuration (decoded s) h b q

abbrev pub feed_in : List ℕ → List ℕ → List ℕ → List ℕ → List ℕ → List ℕ → List ℕ → Response
feed_in s h b q ring uri piece = feed_front (keys_in ring) uri (configuration_in s h b q) piece

abbrev pub is_yes : ℕ → Bool
is_yes n = not (eqb n 0)

abbrev pub answer_in : List ℕ → List ℕ → List ℕ → List ℕ → Bool → Response
answer_in s h b q good = answer_front (configuration_in s h b q) good

abbrev pub end_in : List ℕ → List ℕ → List ℕ → List ℕ → Response
end_in s h b q = end_front (configuration_in s h b q)

-- ---- what is handed out

-- of the first part of the buffer, and nothing where the state's buffer is too short
unfoldable pub block_in : List ℕ → List ℕ → List ℕ
block_in s b = pick (leb state_size (length s)) (block_part (take block_limit b) (decoded s).released) []

unfoldable pub value_in : List ℕ → List ℕ → List ℕ → List ℕ → Placed
value_in s h name v =
    pick (leb state_size (length s)) (placed (handed_value (take head_limit h) (decoded s).fixed.accepted name) v) (placing 0 v)

unfoldable pub count_in : List ℕ → List ℕ → List ℕ → ℕ
count_in s h name = pick (leb state_size (length s)) (handed_count (take head_limit h) (decoded s).fixed.accepted name) 0
