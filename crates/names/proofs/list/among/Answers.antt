-- Each name from there on is compared. Assumes nothing.
use borrow.Author.Rules.{rules}
use borrow.Author.Tests.{tests}
use mathlib.Core.Path.{ap, ◌∙◌}
use Rattle.std.proofs.lemmas.Iterator.{YieldsList-from_slice}
use Rattle.std.proofs.lemmas.Iterator.Adapters.{YieldsList-from_skip}
use Rattle.std.proofs.lemmas.Iterator.Consumers.{YieldsList-at}
use Rattle.std.proofs.lemmas.Iterator.Search.{any_from_yields_List}
use Rattle.stream.specs.Bytes.{same_name}
use Rattle.stream.specs.Fields.{among}
use Rattle.places.specs.declared.Span.{Span}
use Rattle.names.specs.NameList.{names_in, span_bytes, used_spans}
use Rattle.names.proofs.SpanLaws.{any_name, names_dropped}
use Rattle.names.proofs.list.among.Goals as goal

pub returns : goal.returns
unfolding names_in
returns c =
    any_from_yields_List (λ (s : Span). same_name c.args.wanted.now (span_bytes c.args.list.now s)) c.any.new.self _ _ c.any.ensures.ran
    (YieldsList-from_skip c.args.from (YieldsList-at c.skip.ensures.source (YieldsList-from_slice (used_spans c.args.n) (cc))) c.skip.ensures.count)
    (λ x b q k. search (rules, tests))
    ∙ any_name _ _ _
    ∙ ap (among c.args.wanted.now) (names_dropped c.args.list.now c.args.from (used_spans c.args.n))
