-- The bytes from the place on, written over zeros. Assumes nothing.
use native.Mathlib.Omega.{arith}
use Rattle.std.proofs.lemmas.Grind.{common_steps}
use Rattle.packing.proofs.PartLaws.{part_put, part_none}
use Rattle.packing.proofs.parts.bytes.Goals as goal

pub returns-in-Some : goal.returns-in-Some
returns-in-Some g c = part_put c.args.from.now _ _ c.args.at g.row.N _ (grind (arith, common_steps, c.in-Some.ensures.lookup)) c.put.ensures

pub returns-in_default : goal.returns-in_default
returns-in_default g c = part_none c.args.from.now c.args.at g.row.N (omega (arith, c.in_default.ensures.lookup))
