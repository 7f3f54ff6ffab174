-- What a table of fields says of the text that it was made from: the bytes at its places, so a table of any numbers has fields.
-- Assumes nothing.
use Rattle.std.specs.Prelude.{List, ℕ, map, min, take}
use Rattle.stream.specs.Limits.{field_limit}
use Rattle.stream.specs.Lines.{Field}
use Rattle.field_lines.specs.Entries.{entry_field}
use Rattle.field_lines.specs.declared.entry.Entry.{Entry}
use Rattle.fields.specs.declared.table.Fields.{Fields}

-- the first `count` entries are fields, or all if there are fewer
abbrev pub used_entries : Fields → List Entry
used_entries f = take (min f.count field_limit) f.entries

unfoldable pub fields_in : List ℕ → Fields → List Field
fields_in text f = map (entry_field text) (used_entries f)
