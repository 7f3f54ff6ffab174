-- The pairs that are left say what all pairs say; some fields are left exactly where a pair ended the search. Assumes nothing.
use mathlib.Core.Bool.{Bool, true, false, not, ◌||◌}
use mathlib.Core.List.{List, map}
use mathlib.Core.Path.{sym, ap, ◌∙◌}
use Prim.Native.Nat.{ℕ}
use native.Mathlib.Omega.{arith}
use borrow.Author.Tests.{ne_eqb}
use lib.ListN.{length}
use Rattle.std.specs.Bool.{◌==◌}
use Rattle.stream.specs.Fields.{among, names_of}
use Rattle.field_lines.specs.Entries.{entry_field}
use Rattle.field_lines.specs.declared.entry.Entry.{Entry}
use Rattle.std.proofs.lemmas.List.{nil_from_length}
use Rattle.fields.specs.Table.{fields_in}
use Rattle.fields.proofs.TableLaws.{doubled, none_doubled, compared_on, among_past, none_among}
use Rattle.fields.proofs.doubled.is_doubled.Goals as goal
use Rattle.fields.proofs.doubled.is_doubled.Goals.{in-Some+in-Some-split_first+then-is_named, in_default}

pub pairs-init : goal.pairs-init
unfolding fields_in
pairs-init c = rw c.used-left.ensures

pub loop-other-init : goal.loop-other-init
loop-other-init c =
    c.pairs.invariant ∙ ap (doubled c.args.text.now) c.in-Some.ensures.cases.0
    ∙ compared_on c.args.text.now _ _ _ _ c.name_in-name.ensures c.compared-rest.ensures.protected c.compared-rest.ensures.free

pub loop-other-preserved : goal.loop-other-preserved
loop-other-preserved c =
    let text = c.args.text.now in
    c.loop-other.invariant ∙ ap (λ (es : List Entry). among c.name_in-name.result.now (names_of (map (entry_field text) es)) || doubled text c.in-Some.others.now) c.in-Some-split_first.ensures.cases.0
    ∙ ap (λ (b : Bool). b || doubled text c.in-Some.others.now) (among_past text _ _ _ false (sym c.if-is_named.false ∙ c.is_named.ensures))

pub pairs-preserved : goal.pairs-preserved
pairs-preserved c =
    let text = c.args.text.now in
    c.loop-other.invariant
    ∙ ap (λ (es : List Entry). among c.name_in-name.result.now (names_of (map (entry_field text) es)) || doubled text c.in-Some.others.now) (nil_from_length _ c.in_default-split_first.ensures.cases)
    ∙ ap (λ (b : Bool). b || doubled text c.in-Some.others.now) (sym (none_among text _))

pub returns : goal.returns
returns c =
    let text = c.args.text.now in
    elim c.match-split_first.branch [
      | in-Some+in-Some-split_first+then-is_named w ↦
          ap not (c.is_empty.ensures ∙ ne_eqb (length c.pairs.left.now) 0 (λ z. omega (arith, z, ap (λ (es : List Entry). length es) w.in-Some.ensures.cases.0)))
          ∙ sym (w.loop-other.invariant ∙ ap (λ (es : List Entry). among w.name_in-name.result.now (names_of (map (entry_field text) es)) || doubled text w.in-Some.others.now) w.in-Some-split_first.ensures.cases.0
          ∙ ap (λ (b : Bool). b || doubled text w.in-Some.others.now) (among_past text _ _ _ true (sym w.if-is_named.true ∙ w.is_named.ensures)))
      | in_default w ↦
          ap not (c.is_empty.ensures ∙ ap (λ (n : ℕ). n == 0) w.in_default.ensures.cases)
          ∙ sym (c.pairs.invariant ∙ ap (doubled text) (nil_from_length _ w.in_default.ensures.cases) ∙ none_doubled text)
    ]
