-- The words made so far stand in front of those of the entry.
use Rattle.std.proofs.Common.{◌+◌, map, take, ◌∙◌, length-take-le, rules}
use Rattle.std.proofs.lemmas.List.{length-map, map-set}
use Rattle.hash.specs.Sha2.{schedule}
use Rattle.hash.proofs.BlockLaws.{schedule_turn}
use Rattle.hash.proofs.block.extend.Goals as goal

pub loop-t-init : goal.loop-t-init
unfolding schedule
loop-t-init g c = search rules

pub loop-t-preserved : goal.loop-t-preserved
loop-t-preserved g c =
    let f = g.S.Words.value in
    let d = map f c.args.w.now in
    let t = c.loop-t.t in (
      map-set f c.loop-t.w (t + 16) c.next_word.result
          ∙ schedule_turn g.S.Words.variant (take 16 d) d (map f c.loop-t.w) t (f c.next_word.result) (length-take-le 16 d (simp length-map (search rules))) (simp length-map (search rules)) c.loop-t.invariant.0 c.next_word.ensures,
      search rules,
      c.loop-t.invariant.2,
      c.loop-t.invariant.3,
    )
