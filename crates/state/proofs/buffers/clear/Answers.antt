-- The front is zero, and what is left is the rest. Assumes nothing.
use mathlib.Core.Path.{◌≡◌}
use native.Mathlib.Omega.{arith}
use Prim.Native.Nat.{min}
use lib.ListN.{length, take, length-take}
use Rattle.state.specs.Configuration.{cleared}
use Rattle.state.proofs.BufferLaws.{drop_min}
use Rattle.state.proofs.buffers.clear.Goals as goal

pub returns : goal.returns
unfolding cleared
returns c =
    let n : length (take c.min-end.result c.args.block.now) ≡ min c.args.count (length c.args.block.now) = omega (arith, length-take c.min-end.result c.args.block.now) in
    rw (c.fill.ensures.after (λ y e. e), n, c.min-end.ensures, drop_min c.args.count c.args.block.now)
