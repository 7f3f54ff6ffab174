-- The lines, the version and the rest, together. Assumes nothing.
use Rattle.head.proofs.WholeLaws.{bad_lines, line_there, version_broken, head_reads}
use Rattle.head.proofs.whole.read.Goals as goal

pub returns-in_default : goal.returns-in_default
returns-in_default c = bad_lines _ c.in_default.ensures

pub returns-then-version-ne0 : goal.returns-then-version-ne0
returns-then-version-ne0 c = version_broken _ (rw c.in-Some.is at c.read_lines.ensures) c.version_fault-version.ensures c.if-version-ne0.true

pub read_rest-requires-clause-status_line : goal.read_rest-requires-clause-status_line
read_rest-requires-clause-status_line c = line_there _ (rw c.in-Some.is at c.read_lines.ensures)

pub returns : goal.returns
returns c =
    rw c.ok_or.ensures.value
    (head_reads _ (rw c.in-Some.is at c.read_lines.ensures) c.version_fault-version.ensures c.if-version-ne0.false _ c.read_rest.ensures)
