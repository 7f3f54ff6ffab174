-- What is written, with the values of the entries from i on, is all values. Assumes nothing.
use lib.ListN.{length, drop}
use Rattle.stream.specs.Signing.{joined_value}
use Rattle.fields.specs.Table.{fields_in}
use Rattle.fields.proofs.TableLaws.{values}
use Rattle.places.specs.Writing.{wrote}
use Rattle.signing.proofs.ValueLaws.{Kept}
use Rattle.signing.proofs.line.put_values.Given as goal

abbrev pub invariant-loop-e : goal.invariant-loop-e
invariant-loop-e l = Kept (length l.initial.out) (wrote l.initial.out l.from (joined_value l.name (fields_in l.text l.fn.f))) l.out l.at l.first (values l.text l.name (drop l.e-index l.e-items))
