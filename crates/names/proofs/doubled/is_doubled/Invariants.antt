-- The pairs that are left say what all pairs say: in the inner loop those of the first name with the rest, and those of the others. Assumes nothing.
use mathlib.Core.Bool.{◌||◌}
use mathlib.Core.Path.{◌≡◌}
use lib.ListN.{length}
use Rattle.stream.specs.Fields.{among, is_doubled}
use Rattle.names.specs.NameList.{names_in}
use Rattle.names.proofs.SpanLaws.{names_of}
use Rattle.names.proofs.doubled.is_doubled.Given as goal

abbrev pub invariant-loop-other : goal.invariant-loop-other
invariant-loop-other l = is_doubled (names_in l.text l.fn.n) ≡ among l.name (names_of l.text l.rest) || is_doubled (names_of l.text l.others)

abbrev pub decreases-loop-other : goal.decreases-loop-other
decreases-loop-other l = length l.rest

abbrev pub invariant-pairs : goal.invariant-pairs
invariant-pairs l = is_doubled (names_in l.text l.fn.n) ≡ is_doubled (names_of l.text l.left)

abbrev pub decreases-pairs : goal.decreases-pairs
decreases-pairs l = length l.left
