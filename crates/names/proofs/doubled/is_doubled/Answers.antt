-- The pairs that are left say what all pairs say; some names are left exactly where a pair ended the search. Assumes nothing.
use mathlib.Core.Bool.{Bool, true, false, not, ◌||◌}
use mathlib.Core.List.{List}
use mathlib.Core.Path.{sym, ap, ◌∙◌}
use Prim.Native.Nat.{ℕ}
use native.Mathlib.Omega.{arith}
use borrow.Author.Tests.{ne_eqb}
use lib.ListN.{length}
use Rattle.std.specs.Bool.{◌==◌}
use Rattle.std.proofs.lemmas.List.{nil_from_length}
use Rattle.stream.specs.Bytes.{same_name}
use Rattle.stream.specs.Fields.{among, is_doubled}
use Rattle.places.specs.declared.Span.{Span}
use Rattle.names.specs.NameList.{names_in}
use Rattle.names.proofs.SpanLaws.{names_of, none_doubled, doubled_on, none_among, among_past}
use Rattle.names.proofs.doubled.is_doubled.Goals as goal
use Rattle.names.proofs.doubled.is_doubled.Goals.{in-Some+in-Some-split_first+then-same_name, in_default}

pub pairs-init : goal.pairs-init
unfolding names_in
pairs-init c = rw c.used-left.ensures

pub loop-other-init : goal.loop-other-init
loop-other-init c =
    let l = c.args.text.now in
    c.pairs.invariant ∙ ap (λ (ss : List Span). is_doubled (names_of l ss)) c.in-Some.ensures.cases.0
    ∙ doubled_on l _ _ _ (ap (λ (n : List ℕ). among n (names_of l c.in-Some.others.now)) c.name_at-name.ensures)

pub loop-other-preserved : goal.loop-other-preserved
loop-other-preserved c =
    let l = c.args.text.now in
    c.loop-other.invariant ∙ ap (λ (ss : List Span). among c.name_at-name.result.now (names_of l ss) || is_doubled (names_of l c.in-Some.others.now)) c.in-Some-split_first.ensures.cases.0
    ∙ ap (λ (b : Bool). b || is_doubled (names_of l c.in-Some.others.now))
    (among_past l _ _ _ false (sym c.if-same_name.false ∙ c.same_name.ensures ∙ ap (same_name c.name_at-name.result.now) c.name_at.ensures))

pub pairs-preserved : goal.pairs-preserved
pairs-preserved c =
    let l = c.args.text.now in
    c.loop-other.invariant
    ∙ ap (λ (ss : List Span). among c.name_at-name.result.now (names_of l ss) || is_doubled (names_of l c.in-Some.others.now)) (nil_from_length _ c.in_default-split_first.ensures.cases)
    ∙ ap (λ (b : Bool). b || is_doubled (names_of l c.in-Some.others.now)) (none_among l _)

pub returns : goal.returns
returns c =
    let l = c.args.text.now in
    elim c.match-split_first.branch [
      | in-Some+in-Some-split_first+then-same_name w ↦
          ap not (c.is_empty.ensures ∙ ne_eqb (length c.pairs.left.now) 0 (λ z. omega (arith, z, ap (λ (ss : List Span). length ss) w.in-Some.ensures.cases.0)))
          ∙ sym (w.loop-other.invariant ∙ ap (λ (ss : List Span). among w.name_at-name.result.now (names_of l ss) || is_doubled (names_of l w.in-Some.others.now)) w.in-Some-split_first.ensures.cases.0
          ∙ ap (λ (b : Bool). b || is_doubled (names_of l w.in-Some.others.now))
          (among_past l _ _ _ true (sym w.if-same_name.true ∙ w.same_name.ensures ∙ ap (same_name w.name_at-name.result.now) w.name_at.ensures)))
      | in_default w ↦
          ap not (c.is_empty.ensures ∙ ap (λ (n : ℕ). n == 0) w.in_default.ensures.cases)
          ∙ sym (c.pairs.invariant ∙ ap (λ (ss : List Span). is_doubled (names_of l ss)) (nil_from_length _ w.in_default.ensures.cases) ∙ none_doubled l)
    ]
