-- What is written, with the lines of the names from i on, is all lines. Assumes nothing.
use mathlib.Core.Path.{◌≡◌, refl, ◌∙◌}
use Prim.Native.Nat.{◌<◌}
use native.Mathlib.Omega.{arith}
use lib.ListN.{length}
use Rattle.fields.specs.Table.{fields_in}
use Rattle.names.proofs.NameLaws.{names_count}
use Rattle.names.specs.NameList.{names_in}
use Rattle.signing.proofs.StringLaws.{turn_written, turns_end}
use Rattle.signing.proofs.string.put_fields.Goals as goal

pub loop-i-init : goal.loop-i-init
loop-i-init c = (refl, refl)

pub loop-i-preserved : goal.loop-i-preserved
loop-i-preserved c =
    let ends : c.count-i-end.result ≡ length ((names_in c.args.list.now c.args.n)) = omega (arith, c.count-i-end.ensures, names_count c.args.list.now c.args.n) in
    let goes_on : c.loop-i.i < length ((names_in c.args.list.now c.args.n)) = omega (arith, ends, c.loop-i-test.true) in
    let x = c.loop-i.invariant in
    let t = turn_written ((fields_in c.args.text.now c.args.f)) ((names_in c.args.list.now c.args.n)) c.loop-i.i c.loop-i.out c.loop-i.at (goes_on) _ c.name.ensures _ _ c.put-start.ensures _ _ c.put_field-at.ensures in
    (t.0 ∙ x.0, t.1 ∙ x.1)

pub shape_of-out : goal.shape_of-out
shape_of-out c = c.loop-i.invariant.0

pub returns : goal.returns
returns c =
    let ends : c.count-i-end.result ≡ length ((names_in c.args.list.now c.args.n)) = omega (arith, c.count-i-end.ensures, names_count c.args.list.now c.args.n) in
    turns_end ((fields_in c.args.text.now c.args.f)) ((names_in c.args.list.now c.args.n)) c.loop-i.i c.loop-i.out c.loop-i.at (omega (arith, ends, c.loop-i-test.false)) ∙ c.loop-i.invariant.1
