-- The schedule, the rounds and the sums, each by what its call ensures.
use Rattle.std.proofs.Common.{◌≡◌, length, map, replicate, ◌∙◌, rules}
use Rattle.std.proofs.lemmas.List.{length-map}
use Rattle.hash.specs.Sha2.{parsed, schedule, sums}
use Rattle.hash.specs.Parts.{by_table}
use Rattle.hash.proofs.BlockLaws.{compressed_is}
use Rattle.hash.proofs.block.compress.Goals as goal

pub returns : goal.returns
unfolding parsed schedule sums
returns g c =
    let f = g.S.Words.value in
    let v = by_table g.S.Words.variant (map f c.args.words.now) in
    let l : length v.constants ≡ g.row.ROUNDS = length-map c.args.words.now f ∙ (search rules) in
    compressed_is v g.row.ROUNDS c.args.block.now (map f (replicate g.row.ROUNDS c.ZERO-w.result)) (map f c.load.new.w) (map f c.extend.new.w) (map f c.args.s) (map f c.run-t.result) (map f c.sum.result) l c.load.ensures c.extend.ensures c.run-t.ensures c.sum.ensures
