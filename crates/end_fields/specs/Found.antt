-- The fields of a head and of the trailer after it (request #101), by the table that the code has of the head's. Assumes nothing.
use Rattle.std.specs.Prelude.{true, List, ◌++◌, ◌≡◌, ℕ}
use Rattle.fields.specs.Table.{fields_in}
use Rattle.fields.specs.declared.table.Fields.{Fields}
use Rattle.stream.specs.Lines.{Field, are_field_lines, fields_of, text_lines}

-- a trailer that has fields to look for
abbrev pub AreLines : List ℕ → Type 0
AreLines trailer = are_field_lines (text_lines trailer) ≡ true

abbrev pub both_in : List ℕ → Fields → List ℕ → List Field
both_in text f trailer = fields_in text f ++ fields_of (text_lines trailer)
