-- The names passed, in front of the names of what is left of the text. Assumes nothing.
use mathlib.Core.Path.{refl}
use Prim.Native.Nat.{◌<◌}
use native.Mathlib.Omega.{arith}
use lib.ListN.{length, length-set}
use Rattle.names.proofs.NameListLaws.{turn_within, turn_last, turn_more, list_good, list_long, none_within}
use Rattle.names.proofs.reading.read_names.Goals as goal

pub loop-i-init : goal.loop-i-init
loop-i-init c = (omega arith, refl, refl, none_within _ 32)

pub returns-then-text-end : goal.returns-then-text-end
returns-then-text-end c =
    let i = c.loop-i.invariant in
    let k : c.loop-i.i < length c.loop-i.spans = omega (arith, i.1) in
    record {
      meaning = list_good _ _ _ (simp length-set i.1) (omega arith) (turn_last _ _ _ _ _ c.name_end-end.ensures k i.2 c.if-text-end.true);
      within = turn_within _ _ _ _ _ c.name_end-end.ensures k i.0 i.3;
    }

pub loop-i-preserved : goal.loop-i-preserved
loop-i-preserved c =
    let i = c.loop-i.invariant in
    let k : c.loop-i.i < length c.loop-i.spans = omega (arith, i.1) in
    (omega arith, simp length-set i.1, turn_more _ _ _ _ _ c.name_end-end.ensures k i.2 c.if-text-end.false, turn_within _ _ _ _ _ c.name_end-end.ensures k i.0 i.3)

pub returns : goal.returns
returns c = record { meaning = list_long _ _ _ c.loop-i.invariant.1 (omega arith) _ c.loop-i.invariant.2 c.loop-i-test.false; within = tt }
