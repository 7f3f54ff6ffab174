-- Those of the lines that have the name are counted. Assumes nothing.
use borrow.Author.Rules.{rules}
use borrow.Author.Tests.{tests}
use native.Mathlib.Omega.{arith}
use mathlib.Core.Logic.{inl}
use mathlib.Core.Path.{◌∙◌}
use Rattle.std.proofs.lemmas.Iterator.Consumers.{YieldsList-at, YieldsList-from_filter, count_from_yields_List}
use Rattle.field_lines.specs.Placed.{placed_lines}
use Rattle.field_lines.proofs.PlacedLaws.{lines_given}
use Rattle.field_lines.proofs.SearchLaws.{is_named, count_named}
use Rattle.field_lines.proofs.search.count_in.Goals as goal

pub count-requires-clause-fits : goal.count-requires-clause-fits
count-requires-clause-fits c = inl (omega arith)

pub returns : goal.returns
unfolding placed_lines
returns c = λ g.
    count_from_yields_List c.filter.result _ c.count.ensures.ran
    (YieldsList-from_filter _ (is_named c.args.name.now) (YieldsList-at c.filter.ensures.source (lines_given _ _ _ c.lines_from.ensures.text c.lines_from.ensures.place)) c.filter.ensures.closure (λ x b q k. search (rules, tests)))
    ∙ count_named _ _ _ g
