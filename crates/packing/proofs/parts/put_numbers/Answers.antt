-- The numbers that are left, written over the buffer as it is now, give the same as all of them over it as it was. Assumes nothing.
use mathlib.Core.Path.{sym, ◌∙◌}
use native.Mathlib.Omega.{arith}
use Rattle.packing.proofs.PartLaws.{numbers_turn, numbers_end}
use Rattle.packing.proofs.parts.put_numbers.Goals as goal

pub loop-i-preserved : goal.loop-i-preserved
loop-i-preserved c = c.loop-i.invariant ∙ numbers_turn c.args.numbers.now c.loop-i.to c.put_number.new.to c.args.at c.loop-i.i (omega arith) (rw c.from-start.ensures at c.put_number.ensures)

pub returns : goal.returns
returns c = sym (c.loop-i.invariant ∙ numbers_end c.args.numbers.now c.loop-i.to c.args.at c.loop-i.i (omega arith))
