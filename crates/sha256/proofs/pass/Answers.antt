-- The block that waits, the whole blocks, and what is left.
use Rattle.std.proofs.Common.{◌≡◌, length, refl, rules}
use Rattle.sha256.proofs.StepLaws.{pass_is}
use Rattle.sha256.proofs.pass.Goals as goal

pub returns : goal.returns
returns c =
    let long : length c.args.h.rest ≡ 64 = search rules in
    let h = c.args.h in
    pass_is h c.args.bytes.now c.held.result (long) c.held.ensures _ _ _ c.close-first.result c.hash_blocks-last.result c.put.new.out _ c.counted.result
    refl refl refl c.requires.1 c.close-first.ensures c.hash_blocks-last.ensures c.put.ensures c.counted.ensures
