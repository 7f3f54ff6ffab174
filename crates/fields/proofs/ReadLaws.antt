-- What the answer's meaning says of lines read as the fields of a head. Assumes nothing.
use mathlib.Core.Bool.{Bool, true, false, ◌&&◌}
use mathlib.Core.List.{List}
use mathlib.Core.Path.{◌≡◌, sym}
use Prim.Native.Nat.{ℕ}
use lib.Dec.{leb}
use lib.ListN.{length}
use Rattle.std.specs.Prelude.{Option, None, Some, MatchOption, is_some}
use Rattle.stream.specs.Limits.{field_limit}
use Rattle.stream.specs.Lines.{are_field_lines, fields_of}
use Rattle.field_lines.proofs.AnswerLaws.{tells}
use Rattle.fields.specs.Answers.{ReadsFields}
use Rattle.fields.specs.Table.{fields_in}
use Rattle.fields.specs.declared.table.Fields.{Fields}

abbrev good : List (List ℕ) → Bool
good ls = are_field_lines ls && leb (length ls) field_limit

module _ {text : List ℕ} {ls : List (List ℕ)} where
  pub fields_tell : (r : Option Fields) → ReadsFields text ls r → MatchOption r (good ls ≡ false) (λ f. (good ls ≡ true) × (fields_in text f ≡ fields_of ls))
  fields_tell r x = tells (fields_in text) r (good ls) (fields_of ls) x.meaning

  pub fields_good : (r : Option Fields) → ReadsFields text ls r → is_some r ≡ good ls
  fields_good None x = sym (fields_tell None x)
  fields_good (Some f) x = sym (fields_tell (Some f) x).0

  pub fields_are : (f : Fields) → ReadsFields text ls (Some f) → fields_in text f ≡ fields_of ls
  fields_are f x = (fields_tell (Some f) x).1
