-- The hash value of all blocks is that of the blocks left, from the value now.
use Rattle.std.proofs.Common.{◌≡◌, map}
use Rattle.hash.specs.Sha2.{block_size, blocks, hashed}
use Rattle.hash.specs.Parts.{by_table}
use Rattle.hash.proofs.block.compress_all.Given as goal

abbrev pub invariant-loop-block : goal.invariant-loop-block
invariant-loop-block g l =
    let f = g.S.Words.value in
    let v = by_table g.S.Words.variant (map f l.words) in
    let p = l.block-iterator.rest.now in
    (hashed v (blocks v l.p) l.p (map f l.initial.s) ≡ hashed v (blocks v p) p (map f l.s))
    × (l.block-iterator.size ≡ block_size v)
