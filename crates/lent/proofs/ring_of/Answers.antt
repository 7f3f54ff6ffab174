-- A record is added at each turn, and at the end all that are looked at are there: they tell all. Assumes nothing.
use Rattle.lent.proofs.TableLaws.{keys_next, keys_looked}
use Rattle.lent.proofs.ring_of.Goals as goal

pub loop-entry-preserved : goal.loop-entry-preserved
loop-entry-preserved c = keys_next _ _ _ _ _ c.loop-entry-test.true c.loop-entry.invariant c.with_next-ring.ensures

pub returns : goal.returns
returns c = keys_looked _ _ _ _ c.looked_at.ensures c.loop-entry-test.false c.loop-entry.invariant
