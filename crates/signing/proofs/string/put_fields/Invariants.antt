-- What is written, with the lines of the names from i on, is all lines. Assumes nothing.
use mathlib.Core.Path.{◌≡◌}
use lib.ListN.{length, drop}
use Rattle.fields.specs.Table.{fields_in}
use Rattle.names.specs.NameList.{names_in}
use Rattle.stream.specs.Signing.{joined_fields}
use Rattle.places.specs.Writing.{wrote}
use Rattle.signing.specs.Writing.{following}
use Rattle.signing.proofs.string.put_fields.Given as goal

abbrev pub invariant-loop-i : goal.invariant-loop-i
invariant-loop-i l =
    (length l.out ≡ length l.initial.out)
    × (wrote l.out l.at (following (joined_fields (fields_in l.text l.f) (drop l.i (names_in l.list l.n)))) ≡ wrote l.initial.out l.from (following (joined_fields (fields_in l.text l.f) (drop 2 (names_in l.list l.n)))))
