-- The value at the entry's places. Assumes nothing.
use borrow.Author.Rules.{rules}
use Rattle.field_lines.proofs.AnswerLaws.{line_value}
use Rattle.field_lines.proofs.search.value.Goals as goal

pub returns : goal.returns
returns c = line_value c.field_line.result _ c.field_line.ensures (search rules)
