-- The part of the first part. Assumes nothing.
use Rattle.fronts.proofs.FrontLaws.{block_front}
use Rattle.fronts.proofs.block_part.Goals as goal

pub returns : goal.returns
returns c = block_front _ _ _ _ c.min-n.ensures c.block_part.ensures
