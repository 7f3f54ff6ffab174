-- What an entry says of the text that it was made from: the bytes at its places, so an entry of any numbers has a field.
-- Assumes nothing.
use Rattle.std.specs.Prelude.{List, ℕ, ◌≤◌}
use Rattle.stream.specs.Lines.{Field}
use Rattle.places.specs.Place.{part_of}
use Rattle.field_lines.specs.declared.entry.Entry.{Entry}

abbrev pub entry_name : List ℕ → Entry → List ℕ
entry_name text e = part_of text e.name.start e.name.end

abbrev pub entry_value : List ℕ → Entry → List ℕ
entry_value text e = part_of text e.value.start e.value.end

unfoldable pub entry_field : List ℕ → Entry → Field
entry_field text e = record { name = entry_name text e; value = entry_value text e }

-- where nothing was read an entry stands for no bytes
abbrev pub no_entry : Entry
no_entry = record { name = record { start = 0; end = 0 }; value = record { start = 0; end = 0 } }

-- an entry's places are those of parts of a text so long
pub record Within (size : ℕ) (e : Entry) : Type 0 where
  pub name_ordered : e.name.start ≤ e.name.end
  pub name_within : e.name.end ≤ size
  pub value_ordered : e.value.start ≤ e.value.end
  pub value_within : e.value.end ≤ size
