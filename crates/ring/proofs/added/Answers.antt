-- A full ring is returned as it came; else the record is stored behind the others. Assumes nothing.
use borrow.Author.Tests.{lt-ltb, le-ltb}
use Rattle.ring.specs.Keys.{keys_with}
use Rattle.ring.proofs.KeysLaws.{with_full, with_room}
use Rattle.ring.proofs.Room.{room}
use Rattle.ring.proofs.added.Goals as goal

pub returns-then-count-ge-RING_LIMIT : goal.returns-then-count-ge-RING_LIMIT
unfolding keys_with
returns-then-count-ge-RING_LIMIT c =
    let r = c.args.ring in
    record { whole = rw (le-ltb _ _ c.if-count-ge-RING_LIMIT.true); ring = with_full r (room r _ c.well_formed.0) _ c.if-count-ge-RING_LIMIT.true }

pub returns : goal.returns
unfolding keys_with
returns c =
    let r = c.args.ring in
    record { whole = rw (lt-ltb _ _ c.if-count-ge-RING_LIMIT.false); ring = with_room r (room r _ c.well_formed.0) _ c.if-count-ge-RING_LIMIT.false }
