-- What the answer says of a line that is read as a field line. Assumes nothing.
use Rattle.std.specs.Prelude.{Bool, true, false, Option, None, Some, IfSome, List, ◌≡◌, ℕ, length}
use Rattle.std.specs.Option.{option_map}
use Rattle.stream.specs.Lines.{is_field_line, field_of}
use Rattle.field_lines.specs.Entries.{entry_field, Within}
use Rattle.field_lines.specs.declared.entry.Entry.{Entry}

-- what is told of something only if it is good
unfoldable pub answer : {A : Type 0} → Bool → A → Option A
answer true a = Some a
answer false a = None

-- the line's field by its places in the text, against what the line says
pub record ReadsField (text line : List ℕ) (r : Option Entry) : Type 0 where
  pub meaning : option_map (entry_field text) r ≡ answer (is_field_line line) (field_of line)
  pub within : IfSome r (Within (length text))
