-- What the functions' answers say, each of the text that it was asked of. Assumes nothing.
use Rattle.std.specs.Prelude.{Bool, ◌&&◌, Option, is_some, IfSome, MatchOption, List, [], ◌≡◌, ℕ, ◌≤◌, leb, length, get_or}
use Rattle.std.specs.Option.{option_map}
use Rattle.stream.specs.Fields.{has_field, value_of}
use Rattle.stream.specs.Limits.{field_limit}
use Rattle.stream.specs.Lines.{are_field_lines, fields_of}
use Rattle.places.specs.declared.Span.{Span}
use Rattle.places.specs.Place.{part_of}
use Rattle.field_lines.specs.Entries.{no_entry, Within}
use Rattle.field_lines.specs.Reading.{answer}
use Rattle.fields.specs.Table.{fields_in}
use Rattle.fields.specs.declared.table.Fields.{Fields}

-- a search: whether there is such a thing, its bytes, and that its places are those of a part of the text
pub record Finds (text : List ℕ) (there : Bool) (bytes : List ℕ) (r : Option Span) : Type 0 where
  pub found : is_some r ≡ there
  pub content : MatchOption r ([] ≡ bytes) (λ s. part_of text s.start s.end ≡ bytes)
  pub ordered : IfSome r (λ s. s.start ≤ s.end)
  pub within : IfSome r (λ s. s.end ≤ length text)

-- the value of a field by the field's name, where names are compared without case (paper 01, "The head")
abbrev pub FindsValue : List ℕ → Fields → List ℕ → Option Span → Type 0
FindsValue text f name r = Finds text (has_field name (fields_in text f)) (value_of name (fields_in text f)) r

-- ---- lines read as the fields of a head

-- the table's fields, against what the lines say: no more than a head may have, each a field line
pub record ReadsFields (text : List ℕ) (lines : List (List ℕ)) (r : Option Fields) : Type 0 where
  pub meaning : option_map (fields_in text) r ≡ answer (are_field_lines lines && leb (length lines) field_limit) (fields_of lines)
  pub within : IfSome r (λ f. (i : ℕ) → Within (length text) (get_or f.entries i no_entry))
