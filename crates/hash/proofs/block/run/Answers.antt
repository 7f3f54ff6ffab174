-- The working variables are those after as many rounds as are done.
use Rattle.std.proofs.Common.{map, refl}
use Rattle.hash.specs.Sha2.{rounds}
use Rattle.hash.specs.Parts.{by_table}
use Rattle.hash.proofs.BlockLaws.{four_rounds}
use Rattle.hash.proofs.block.run.Goals as goal

pub loop-turn-init : goal.loop-turn-init
unfolding rounds
loop-turn-init g c = (refl, refl)

pub loop-turn-preserved : goal.loop-turn-preserved
loop-turn-preserved g c =
    let f = g.S.Words.value in (
      four_rounds (by_table g.S.Words.variant (map f c.args.words.now)) (map f c.args.w.now) (map f c.args.before) (map f c.loop-turn.s) (map f c.round_at-s1.result) (map f c.round_at-s2.result) (map f c.round_at-s3.result) (map f c.round_at-s.result) c.loop-turn.turn
          c.loop-turn.invariant.0 c.round_at-s1.ensures c.round_at-s2.ensures c.round_at-s3.ensures c.round_at-s.ensures,
      refl,
    )
