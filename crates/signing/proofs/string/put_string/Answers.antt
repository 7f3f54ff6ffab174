-- The two lines that are no fields, and the lines of the fields. Assumes nothing.
use Rattle.fields.specs.Table.{fields_in}
use Rattle.names.specs.NameList.{names_in}
use Rattle.signing.proofs.StringLaws.{string_written}
use Rattle.signing.proofs.string.put_string.Goals as goal

pub returns : goal.returns
returns c = string_written (fields_in c.args.text.now c.args.f) (names_in c.args.list.now c.args.n) _ _ _ _ _ c.put_line-second.ensures _ _ c.put-start.ensures _ _ c.put_line-third.ensures _ _ c.put_fields.ensures
