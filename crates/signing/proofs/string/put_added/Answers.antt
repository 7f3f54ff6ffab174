-- The line feed, and the line. Assumes nothing.
use Rattle.signing.proofs.StringLaws.{added_written}
use Rattle.signing.proofs.string.put_added.Goals as goal

pub returns : goal.returns
returns c = added_written _ _ _ _ _ _ c.put-start.ensures _ _ c.put_line.ensures
