-- Each line is asked. Assumes nothing.
use borrow.Author.Rules.{rules}
use borrow.Author.Tests.{tests}
use mathlib.Core.Path.{◌∙◌}
use Rattle.std.proofs.lemmas.Iterator.Search.{all_from_yields_List}
use Rattle.field_lines.specs.Placed.{placed_lines}
use Rattle.field_lines.proofs.AnswerLaws.{line_some}
use Rattle.field_lines.proofs.PlacedLaws.{lines_given}
use Rattle.field_lines.proofs.SearchLaws.{is_line, all_lines}
use Rattle.field_lines.proofs.trailer.are_field_lines.Goals as goal

pub returns : goal.returns
unfolding placed_lines
returns c =
    all_from_yields_List is_line c.all.new.self _ _ c.all.ensures.ran (lines_given _ _ _ c.lines_from.ensures.text c.lines_from.ensures.place) (λ x b q k. search (rules, tests, line_some)) ∙ all_lines _ _
