-- The hash value of all blocks is that of the blocks left, from the value now.
use Rattle.std.proofs.Common.{◌<◌, map, sym, ◌∙◌, arith, rules}
use Rattle.hash.specs.Parts.{by_table}
use Rattle.hash.proofs.LastLaws.{hashed_turn, hashed_end}
use Rattle.hash.proofs.block.compress_all.Goals as goal

pub loop-block-preserved : goal.loop-block-preserved
loop-block-preserved g c =
    let f = g.S.Words.value in
    let v = by_table g.S.Words.variant (map f c.args.words.now) in
    let some : 0 < v.bytes = omega (arith, g.met.S.Words.bytes_are, g.met.S.Words.bytes_fit) in (
      c.loop-block.invariant.0 ∙ hashed_turn v c.loop-block.block-iterator.rest.now c.in-Some.block.now c.next.new.self.rest.now (map f c.loop-block.s) (map f c.compress-s.result) some (search rules) (search rules) c.compress-s.ensures,
      search rules,
    )

pub returns : goal.returns
returns g c = sym (c.loop-block.invariant.0 ∙ hashed_end (by_table g.S.Words.variant (map g.S.Words.value c.args.words.now)) c.loop-block.block-iterator.rest.now (map g.S.Words.value c.loop-block.s) (search rules))
