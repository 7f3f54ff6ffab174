-- The records so far are read each by itself. Assumes nothing.
use native.Mathlib.Omega.{arith}
use Rattle.packing.specs.Keys.{record_at, keys_in}
use Rattle.packing.proofs.KeyLaws.{no_key}
use Rattle.packing.proofs.PartLaws.{filled}
use Rattle.packing.proofs.keys.keys_in.Goals as goal

pub returns : goal.returns
unfolding keys_in
returns c = rw (c.count_of.ensures, filled (record_at c.args.ring.now) 16 no_key c.loop-i.entry-items c.loop-i.invariant.0 (λ k h. c.loop-i.invariant.1 k no_key (omega arith)))
