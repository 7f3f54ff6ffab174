-- The pairs that are left say what all pairs say: in the inner loop those of the first field with the rest, and those of the others. Assumes nothing.
use mathlib.Core.Bool.{◌||◌}
use mathlib.Core.Path.{◌≡◌}
use mathlib.Core.List.{map}
use lib.ListN.{length}
use Rattle.stream.specs.Fields.{among, is_protected_doubled, names_of}
use Rattle.field_lines.specs.Entries.{entry_field}
use Rattle.fields.specs.Table.{fields_in}
use Rattle.fields.proofs.TableLaws.{doubled}
use Rattle.fields.proofs.doubled.is_doubled.Given as goal

abbrev pub invariant-loop-other : goal.invariant-loop-other
invariant-loop-other l = is_protected_doubled (names_of (fields_in l.text l.fn.f)) ≡ among l.name (names_of (map (entry_field l.text) l.rest)) || doubled l.text l.others

abbrev pub decreases-loop-other : goal.decreases-loop-other
decreases-loop-other l = length l.rest

abbrev pub invariant-pairs : goal.invariant-pairs
invariant-pairs l = is_protected_doubled (names_of (fields_in l.text l.fn.f)) ≡ doubled l.text l.left

abbrev pub decreases-pairs : goal.decreases-pairs
decreases-pairs l = length l.left
