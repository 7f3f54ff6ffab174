-- The fields in the table, with those of the lines that are left, are the fields of all lines. Assumes nothing.
use mathlib.Core.Path.{◌≡◌}
use lib.ListN.{drop}
use Rattle.stream.specs.Lines.{text_lines}
use Rattle.field_lines.proofs.PlacedLaws.{lines_in}
use Rattle.fields.proofs.LinesLaws.{Filled}
use Rattle.fields.proofs.reading.read_fields.Given as goal

abbrev pub invariant-loop-start : goal.invariant-loop-start
invariant-loop-start l = (l.start-iterator.text.now ≡ l.text) × Filled l.text (text_lines (drop l.from l.text)) l.fields (lines_in l.start-iterator)
