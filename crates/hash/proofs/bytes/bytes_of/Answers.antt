-- The bytes of the words so far stand in front of those of the fresh array.
use Rattle.std.proofs.Common.{map, sym, ◌∙◌, zero-mul, arith, rules}
use Rattle.std.proofs.lemmas.List.{length-map, get_or-map}
use lib.ListN.{length-replicate}
use Rattle.hash.specs.Sha2.{unparsed}
use Rattle.hash.proofs.ByteLaws.{unparse_turn, unparse_end}
use Rattle.hash.proofs.bytes.bytes_of.Goals as goal

pub loop-i-init : goal.loop-i-init
unfolding unparsed
loop-i-init g c = (rw (zero-mul g.S.Words.variant.bytes), length-replicate g.row.SIZE 0 ∙ c.requires, length-replicate g.row.SIZE 0 ∙ c.requires, search rules)

pub loop-i-preserved : goal.loop-i-preserved
loop-i-preserved g c =
    let f = g.S.Words.value in (
      unparse_turn g.S.Words.variant (map f c.args.words) _ c.loop-i.out c.put_word.new.out c.loop-i.i _ _ c.loop-i.invariant.0 (simp length-map (omega arith)) (search rules) (sym (get_or-map f c.args.words c.loop-i.i _ 0 (omega arith))) c.put_word.ensures,
      c.loop-i.invariant.1,
      search rules,
      c.loop-i.invariant.3,
    )

pub returns : goal.returns
returns g c = unparse_end g.S.Words.variant (map g.S.Words.value c.args.words) _ c.loop-i.out c.loop-i.i 8 (omega arith) (simp length-map c.loop-i.invariant.3) c.loop-i.invariant.1 c.loop-i.invariant.0
