-- The block that is handed out (paper 01, "How a sitting goes"). Assumes nothing.
use Rattle.std.specs.Prelude.{List, [], ℕ, leb, length, take}
use Rattle.octets.specs.Choice.{pick}
use Rattle.stream.specs.Limits.{block_limit}

-- "as a part of the block hold, its first bytes": `released` is the reader's count, 0 where no block is out; "with too short a hold,
-- the part is empty"
unfoldable pub block_part : List ℕ → ℕ → List ℕ
block_part b released = pick (leb block_limit (length b)) (take released b) []
