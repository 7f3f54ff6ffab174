-- The first of the entries that has the name is found. Assumes nothing.
use borrow.Author.Rules.{rules}
use borrow.Author.Tests.{tests}
use Rattle.std.proofs.lemmas.Iterator.{YieldsList-from_slice}
use Rattle.std.proofs.lemmas.Iterator.Search.{find_from_yields_List}
use Rattle.fields.specs.Table.{fields_in, used_entries}
use Rattle.fields.proofs.TableLaws.{is_named, finds_none, finds_first}
use Rattle.fields.proofs.lookup.find.Goals as goal

pub returns-in_err-e : goal.returns-in_err-e
unfolding fields_in
returns-in_err-e c =
    let e = find_from_yields_List (is_named c.args.text.now c.args.name.now) _ _ c.find.result c.find.ensures.ran (YieldsList-from_slice (used_entries c.args.f) (cc)) (λ x b q k. search (rules, tests)) in
    rw c.from_residual.ensures (finds_none _ _ _ c.find.result e c.in_err-e.was)

pub returns : goal.returns
unfolding fields_in
returns c =
    let e = find_from_yields_List (is_named c.args.text.now c.args.name.now) _ _ c.find.result c.find.ensures.ran (YieldsList-from_slice (used_entries c.args.f) (cc)) (λ x b q k. search (rules, tests)) in
    finds_first _ _ _ c.find.result e _ c.in_ok-e.was _ c.clip.ensures
