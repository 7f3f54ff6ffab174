-- What stands before the value, and the value. Assumes nothing.
use Rattle.signing.proofs.StringLaws.{line_written}
use Rattle.signing.proofs.line.put_line.Goals as goal

pub returns : goal.returns
returns c = line_written _ _ _ _ _ c.put_label-start.ensures _ _ _ c.put.ensures
