-- Each entry is asked. Assumes nothing.
use borrow.Author.Rules.{rules}
use borrow.Author.Tests.{tests}
use mathlib.Core.Path.{◌∙◌}
use Rattle.std.proofs.lemmas.Iterator.{YieldsList-from_slice}
use Rattle.std.proofs.lemmas.Iterator.Search.{any_from_yields_List}
use Rattle.fields.proofs.TableLaws.{is_named, any_named}
use Rattle.fields.proofs.lookup.is_among.Goals as goal

pub returns : goal.returns
returns c =
    any_from_yields_List (is_named c.args.text.now c.args.name.now) _ _ _ c.any.ensures.ran (YieldsList-from_slice c.args.entries.now cc) (λ x b q k. search (rules, tests)) ∙ any_named _ _ _
