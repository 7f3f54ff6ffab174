-- Those of the entries that have the name are counted. Assumes nothing.
use borrow.Author.Rules.{rules}
use borrow.Author.Tests.{tests}
use mathlib.Core.Path.{◌∙◌}
use Rattle.std.proofs.lemmas.Iterator.{YieldsList-from_slice}
use Rattle.std.proofs.lemmas.Iterator.Consumers.{YieldsList-at, YieldsList-from_filter, count_from_yields_List}
use Rattle.fields.specs.Table.{fields_in, used_entries}
use Rattle.fields.proofs.TableLaws.{is_named, count_named}
use Rattle.fields.proofs.lookup.count_of.Goals as goal

pub returns : goal.returns
unfolding fields_in
returns c =
    count_from_yields_List c.filter.result _ c.count.ensures.ran
    (YieldsList-from_filter _ (is_named c.args.text.now c.args.name.now) (YieldsList-at c.filter.ensures.source (YieldsList-from_slice (used_entries c.args.f) (cc))) c.filter.ensures.closure (λ x b q k. search (rules, tests)))
    ∙ count_named _ _ _
