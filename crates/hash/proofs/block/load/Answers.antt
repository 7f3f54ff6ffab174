-- The words read so far stand in front of those of the entry.
use Rattle.std.proofs.Common.{map, sym, ◌∙◌, rules}
use Rattle.std.proofs.lemmas.List.{length-map, map-set}
use Rattle.hash.specs.Sha2.{parsed}
use Rattle.hash.proofs.BlockLaws.{parse_turn, parse_place}
use Rattle.hash.proofs.block.load.Goals as goal

pub loop-i-init : goal.loop-i-init
unfolding parsed
loop-i-init g c = search rules

pub loop-i-preserved : goal.loop-i-preserved
loop-i-preserved g c =
    let v = g.S.Words.variant in
    let f = g.S.Words.value in
    let p = c.args.block.now in
    let size = sym g.met.S.Words.bytes_are in (
      map-set f c.loop-i.w c.loop-i.i c.read.result
          ∙ parse_turn v p (map f c.args.w.now) (map f c.loop-i.w) c.loop-i.i (f c.read.result) c.loop-i.invariant.0 (simp length-map (search rules))
          (parse_place v p _ _ c.loop-i.i (f c.read.result) (c.BYTES.ensures ∙ size) (c.BYTES-in-loop-i.ensures ∙ size) (c.read.ensures (search rules))),
      search rules,
      c.loop-i.invariant.2,
      c.loop-i.invariant.3,
    )
