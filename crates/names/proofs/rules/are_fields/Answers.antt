-- Each name after the first two is looked up. Assumes nothing.
use borrow.Author.Rules.{rules}
use borrow.Author.Tests.{tests}
use mathlib.Core.Path.{ap, ◌∙◌}
use Rattle.std.proofs.lemmas.Iterator.{YieldsList-from_slice}
use Rattle.std.proofs.lemmas.Iterator.Adapters.{YieldsList-from_skip}
use Rattle.std.proofs.lemmas.Iterator.Consumers.{YieldsList-at}
use Rattle.std.proofs.lemmas.Iterator.Search.{all_from_yields_List}
use Rattle.fields.specs.Table.{fields_in}
use Rattle.stream.specs.Fields.{has_field}
use Rattle.stream.specs.Signatures.{are_fields}
use Rattle.places.specs.declared.Span.{Span}
use Rattle.names.specs.NameList.{names_in, span_bytes, used_spans}
use Rattle.names.proofs.SpanLaws.{all_names, names_dropped}
use Rattle.names.proofs.rules.are_fields.Goals as goal

pub returns : goal.returns
unfolding names_in
returns c =
    all_from_yields_List (λ (s : Span). has_field (span_bytes c.args.list.now s) (fields_in c.args.text.now c.args.f)) c.all.new.self _ _ c.all.ensures.ran
    (YieldsList-from_skip 2 (YieldsList-at c.skip.ensures.source (YieldsList-from_slice (used_spans c.args.n) (cc))) c.skip.ensures.count)
    (λ x b q k. search (rules, tests))
    ∙ all_names _ _ _
    ∙ ap (are_fields (fields_in c.args.text.now c.args.f)) (names_dropped c.args.list.now 2 (used_spans c.args.n))
