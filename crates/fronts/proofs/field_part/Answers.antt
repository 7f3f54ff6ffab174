-- The part of the first part. Assumes nothing.
use Rattle.fronts.proofs.FrontLaws.{value_front}
use Rattle.fronts.proofs.field_part.Goals as goal

pub returns : goal.returns
returns c = value_front _ _ _ _ _ c.min-n.ensures c.field_part.ensures
