-- Two pieces written over a fresh block.
use Rattle.std.proofs.Common.{◌≡◌, length, arith, rules}
use Rattle.sha256.proofs.StepLaws.{keep_is}
use Rattle.sha256.proofs.keep.Goals as goal

pub slice_bounds-put-end-2 : goal.slice_bounds-put-end-2
slice_bounds-put-end-2 c =
    let long : length c.args.h.rest ≡ 64 = search rules in
    omega (arith, long, c.held-n.ensures)

pub returns : goal.returns
returns c =
    let long : length c.args.h.rest ≡ 64 = search rules in
    let h = c.args.h in
    keep_is h c.args.bytes.now c.held-n.result (long) c.held-n.ensures c.put.new.out c.put-2.new.out _ _ c.counted.result
    c.requires c.put.ensures c.put-2.ensures c.counted.ensures
