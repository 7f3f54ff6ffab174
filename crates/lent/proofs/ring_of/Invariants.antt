-- The ring is that of the records that were passed. Assumes nothing.
use Rattle.std.proofs.Common.{◌≡◌, take}
use Rattle.lent.specs.Table.{keys_of}
use Rattle.lent.proofs.ring_of.Given as goal

abbrev pub invariant-loop-entry : goal.invariant-loop-entry
invariant-loop-entry l = l.ring ≡ keys_of (take l.entry-index l.looked)
