-- At each turn the whole text's answer is that of the bytes before and of what the state stands for on the rest. Assumes nothing.
use mathlib.Core.Path.{◌≡◌}
use lib.ListN.{drop}
use Rattle.scanning.specs.States.{form_at, scanned}
use Rattle.scanning.proofs.LoopLaws.{scanned_on}
use Rattle.scanning.proofs.scan.scan.Given as goal

abbrev pub invariant-loop-i : goal.invariant-loop-i
invariant-loop-i l = scanned (form_at l.initial.at) l.text ≡ scanned_on l.i (form_at l.at) (drop l.i l.text)
