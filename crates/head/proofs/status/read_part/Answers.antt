-- By the range that is read, and the number of lines that have one. Assumes nothing.
use Rattle.head.proofs.StatusLaws.{part_good, part_bad, part_told}
use Rattle.head.proofs.status.read_part.Goals as goal

pub returns-then-signed-is_some-clause-kept : goal.returns-then-signed-is_some-clause-kept
returns-then-signed-is_some-clause-kept c = rw c.unwrap_or.ensures (part_good _ _ (rw c.value_of.ensures at c.read-range.ensures) c.count_of.ensures _ (rw c.is_some.ensures at c.if-signed-is_some.true))

pub returns-else-signed-is_some-clause-kept : goal.returns-else-signed-is_some-clause-kept
returns-else-signed-is_some-clause-kept c = part_bad _ _ (rw c.value_of.ensures at c.read-range.ensures) c.count_of.ensures _ (rw c.is_some.ensures at c.if-signed-is_some.false)

pub returns-else-signed-is_some-clause-said : goal.returns-else-signed-is_some-clause-said
returns-else-signed-is_some-clause-said c = rw c.unwrap_or.ensures (part_told _ _ (rw c.value_of.ensures at c.read-range.ensures) c.count_of.ensures)
