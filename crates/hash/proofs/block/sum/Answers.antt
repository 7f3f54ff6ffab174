-- The eight sums by what each call ensures.
use Rattle.std.proofs.Common.{◌≡◌, length, rules}
use Rattle.hash.specs.Sha2.{sums}
use Rattle.hash.proofs.BlockLaws.{eight}
use Rattle.hash.proofs.block.sum.Goals as goal

pub returns : goal.returns
unfolding sums
returns g c =
    let f = g.S.Words.value in
    let l : length c.args.s ≡ 8 = search rules in
    let m : length c.args.t ≡ 8 = search rules in
    rw (eight f c.args.s c.index-s-0.result c.index-s-1.result c.index-s-2.result c.index-s-3.result c.index-s-4.result c.index-s-5.result c.index-s-6.result c.index-s-7.result l, eight f c.args.t c.index-t-0.result c.index-t-1.result c.index-t-2.result c.index-t-3.result c.index-t-4.result c.index-t-5.result c.index-t-6.result c.index-t-7.result m, c.plus.ensures, c.plus-2.ensures, c.plus-3.ensures, c.plus-4.ensures, c.plus-5.ensures, c.plus-6.ensures, c.plus-7.ensures, c.plus-8.ensures)
