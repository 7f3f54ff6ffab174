-- What the entry says of the line's name. Assumes nothing.
use borrow.Author.Rules.{rules}
use Rattle.stream.specs.Bytes.{same_name}
use Rattle.field_lines.proofs.AnswerLaws.{line_test}
use Rattle.field_lines.proofs.search.is_named.Goals as goal

pub returns : goal.returns
returns c = line_test c.field_line.result (same_name c.args.name.now) _ c.field_line.ensures (search rules)
