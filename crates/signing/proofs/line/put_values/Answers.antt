-- What is written, with the values of the entries from i on, is all values. Assumes nothing.
use mathlib.Core.Bool.{not}
use mathlib.Core.List.{List, ◌∷◌}
use mathlib.Core.Path.{◌≡◌, refl, sym, ap, ap₂, ◌∙◌}
use Prim.Native.Nat.{ℕ, ◌+◌}
use native.Mathlib.Numerals.{add-one}
use lib.ListN.{length, drop, drop_of_length-le}
use lib.Seq.{drop-cons}
use Rattle.stream.specs.Fields.{values_of}
use Rattle.field_lines.specs.Entries.{no_entry}
use Rattle.stream.specs.Signing.{joined_value}
use Rattle.fields.specs.Table.{fields_in}
use Rattle.fields.proofs.TableLaws.{values, values_hit, values_next}
use Rattle.places.specs.Writing.{placed, wrote}
use Rattle.signing.proofs.ValueLaws.{Due, comma_written, no_comma, value_written, kept_as, values_end}
use Rattle.signing.proofs.line.put_values.Goals as goal
use Rattle.signing.proofs.line.put_values.Goals.{then-is_named, else-is_named, then-not-first, else-not-first}

pub loop-e-init : goal.loop-e-init
unfolding fields_in
loop-e-init c = record { sized = refl; makes = rw c.used-e-items.ensures }

pub loop-e-preserved : goal.loop-e-preserved
loop-e-preserved c =
    let es = c.used-e-items.result.now in
    let i = c.loop-e.e-index in
    let Left : ℕ → List (List ℕ) = λ k. values c.args.text.now c.args.name.now (drop k es) in
    let d = rw (← add-one i) at (drop-cons es i no_entry c.loop-e-test.true) in
    elim c.if-is_named.branch [
      | then-is_named w ↦
          let e : Left i ≡ _ ∷ Left (i + 1) = ap (values c.args.text.now c.args.name.now) d ∙ values_hit _ _ _ _ (sym c.is_named.ensures ∙ w.if-is_named.true) in
          let k = rw e at c.loop-e.invariant in
          let begun : Due (length c.args.out.now) (wrote c.args.out.now c.args.from (joined_value c.args.name.now (fields_in c.args.text.now c.args.f))) w.if-not-first.out w.if-not-first.at _ (Left (i + 1)) =
          elim w.if-not-first.branch [
            | then-not-first w' ↦ comma_written k _ _ (ap not w'.if-not-first.true) (ap₂ placed w'.at-is w'.out-is ∙ w'.put-at.ensures)
            | else-not-first w' ↦ no_comma k _ _ (ap not w'.if-not-first.false) w'.at-is w'.out-is
          ]
          in
          kept_as (value_written begun _ _ (w.put-at-then-is_named.ensures ∙ ap (wrote _ _) w.value_in.ensures)) _ _ _ w.at-is w.out-is w.first-is
      | else-is_named w ↦
          let e : Left i ≡ Left (i + 1) = ap (values c.args.text.now c.args.name.now) d ∙ values_next _ _ _ _ (sym c.is_named.ensures ∙ w.if-is_named.false) in
          kept_as (rw e at c.loop-e.invariant) _ _ _ w.at-is w.out-is w.first-is
    ]

pub shape_of-out : goal.shape_of-out
shape_of-out c = c.loop-e.invariant.sized

pub returns : goal.returns
unfolding values_of
returns c =
    let e = drop_of_length-le c.used-e-items.result.now c.loop-e-test.false in
    values_end (rw e at c.loop-e.invariant)
