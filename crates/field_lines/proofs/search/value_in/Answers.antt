-- The first of the lines that has the name is found. Assumes nothing.
use borrow.Author.Rules.{rules}
use borrow.Author.Tests.{tests}
use Rattle.std.proofs.lemmas.Iterator.Search.{find_from_yields_List}
use Rattle.field_lines.specs.Placed.{placed_lines}
use Rattle.field_lines.proofs.PlacedLaws.{lines_given}
use Rattle.field_lines.proofs.SearchLaws.{is_named, found_value}
use Rattle.field_lines.proofs.search.value_in.Goals as goal

pub returns : goal.returns
unfolding placed_lines
returns c = λ g.
    let found = find_from_yields_List (is_named c.args.name.now) c.find.new.self _ c.find.result c.find.ensures.ran (lines_given _ _ _ c.lines_from.ensures.text c.lines_from.ensures.place) (λ x b q k. search (rules, tests)) in
    found_value c.args.name.now _ _ c.find.result _ found g (search rules)
