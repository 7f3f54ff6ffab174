-- The count in the first part. Assumes nothing.
use Rattle.fronts.proofs.FrontLaws.{count_front}
use Rattle.fronts.proofs.field_count.Goals as goal

pub returns : goal.returns
returns c = count_front _ _ _ _ _ c.min-n.ensures c.field_count.ensures
