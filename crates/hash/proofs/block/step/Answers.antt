-- One round: each sum and function by what its call ensures.
use Rattle.std.proofs.Common.{◌≡◌, length, rules}
use Rattle.hash.specs.Sha2.{round}
use Rattle.hash.proofs.BlockLaws.{eight}
use Rattle.hash.proofs.block.step.Goals as goal

pub returns : goal.returns
unfolding round
returns g c =
    let l : length c.args.s ≡ 8 = search rules in
    rw (eight g.S.Words.value c.args.s c.index-s-0.result c.index-s-1.result c.index-s-2.result c.index-s-3.result c.index-s-4.result c.index-s-5.result c.index-s-6.result c.index-s-7.result l, c.plus-4.ensures, c.plus-5.ensures, c.plus-t1.ensures, c.plus-3.ensures, c.plus-2.ensures, c.plus.ensures, c.big1.ensures, c.choose.ensures, c.plus-t2.ensures, c.big0.ensures, c.majority.ensures)
