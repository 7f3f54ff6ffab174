-- The blanks behind are the run of the rest read backwards. Assumes nothing.
use borrow.Author.Rules.{rules}
use mathlib.Core.List.{reverse}
use mathlib.Core.Path.{◌≡◌, sym, ap, ap₂, ◌∙◌}
use Prim.Native.Nat.{◌-◌}
use native.Mathlib.Nat.{zero-add}
use native.Mathlib.Omega.{arith}
use lib.ListN.{length, drop}
use Rattle.std.proofs.Common.{tests}
use Rattle.std.proofs.lemmas.Iterator.Adapters.{YieldsList-from_rev_slice}
use Rattle.std.proofs.lemmas.Iterator.Consumers.{YieldsList-at, count_from_yields_List}
use Rattle.std.proofs.lemmas.Iterator.Search.{YieldsList-from_take_while}
use Rattle.std.proofs.lemmas.Slice.{between_to_end}
use Rattle.stream.specs.Bytes.{is_blank}
use Rattle.stream.specs.Template.{run, past}
use Rattle.classes.specs.Class.{class_of}
use Rattle.classes.specs.Span.{span_of}
use Rattle.classes.proofs.SpanLaws.{span}
use Rattle.classes.proofs.RunLaws.{run_count, past_drop}
use Rattle.classes.proofs.spans.trim.Goals as goal

pub returns : goal.returns
unfolding span_of class_of
returns c =
    let s = c.args.s.now in
    let rest = past is_blank s in
    let e : c.run_end-start.result ≡ length (run is_blank s) = c.run_end-start.ensures ∙ zero-add _ in
    let here = c.iter.ensures.rest ∙ between_to_end s _ (length s) (omega arith) ∙ ap (λ k. drop k s) e ∙ sym (past_drop is_blank s) in
    let chain = YieldsList-at c.take_while.ensures.source (YieldsList-from_rev_slice rest (ap (λ i. i.rest.now) c.rev.ensures.source ∙ here)) in
    let counted = count_from_yields_List c.take_while.result _ c.count-behind.ensures.ran (YieldsList-from_take_while _ is_blank chain c.take_while.ensures.closure c.take_while.ensures.done (λ x r q k. search (rules, tests))) in
    ap₂ (λ i n. span i (length s - n)) e (counted ∙ run_count is_blank (reverse rest))
