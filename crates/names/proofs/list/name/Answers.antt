-- The span of the number, or no bytes. Assumes nothing.
use mathlib.Core.List.{[]}
use mathlib.Core.Path.{sym, ◌∙◌}
use native.Mathlib.Omega.{arith}
use lib.ListN.{get_or-eq_default, length-map}
use Rattle.names.specs.NameList.{names_in, span_bytes, used_spans}
use Rattle.names.proofs.SpanLaws.{names_of, name_of}
use Rattle.names.proofs.list.name.Goals as goal

pub returns-in-Some : goal.returns-in-Some
unfolding names_in
returns-in-Some c =
    let k = rw c.used.ensures at c.in-Some.ensures.lookup in
    c.name_at.ensures ∙ sym (name_of _ (used_spans c.args.n) _ _ k.3.0 k.1)

pub returns-in-None : goal.returns-in-None
unfolding names_in
returns-in-None c =
    let k = rw c.used.ensures at c.in-None.ensures.lookup in
    sym (get_or-eq_default (names_of c.args.list.now (used_spans c.args.n)) [] (omega (arith, length-map (used_spans c.args.n) (span_bytes c.args.list.now), k.3)))
