-- Name and colon, one after the other. Assumes nothing.
use Rattle.signing.proofs.StringLaws.{label_written}
use Rattle.signing.proofs.line.put_label.Goals as goal

pub returns : goal.returns
returns c = label_written _ _ _ _ _ c.put_lower-colon.ensures _ _ c.put.ensures
