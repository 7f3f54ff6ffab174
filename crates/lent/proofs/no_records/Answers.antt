-- The empty ring is the ring of no records. Assumes nothing.
use mathlib.Core.Path.{◌∙◌}
use Rattle.lent.proofs.TableLaws.{keys_none}
use Rattle.lent.proofs.no_records.Goals as goal

pub returns : goal.returns
returns c = c.empty.ensures.whole ∙ keys_none
