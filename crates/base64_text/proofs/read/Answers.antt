-- `base64::read` meets its contract. The invariant: the whole is a text of n bytes just where the rest is one of the bytes left; it stands as far as the
-- rest does; and what is written so far, followed by the bytes of the rest, are the bytes of the whole. The measure is the number of groups
-- left, so there is at most one turn for each group: 11 turns for 32 bytes, 22 for 64. Assumes nothing.
use mathlib.Core.Bool.{false≢true}
use mathlib.Core.Path.{◌≡◌, refl, sym, ap, ◌∙◌}
use Prim.Native.Nat.{◌-◌}
use native.Mathlib.Omega.{arith}
use Rattle.places.specs.declared.Checked.{Checked}
use Rattle.base64_text.proofs.Groups.{turn, turn_length, turns_end}
use Rattle.base64_text.proofs.Turns.{read_at, stops_here, goes_on, ends_here}
use Rattle.base64_text.proofs.read.Goals as goal

pub loop-o-init : goal.loop-o-init
loop-o-init c =
    let n : c.args.n - 0 ≡ c.args.n = omega arith in
    (rw n, omega arith, λ _. rw n, refl, refl, refl, omega arith)

pub shape_of-out-then-g-lt4 : goal.shape_of-out-then-g-lt4
shape_of-out-then-g-lt4 c = c.loop-o.invariant.3

pub returns-then-g-lt4 : goal.returns-then-g-lt4
returns-then-g-lt4 c =
    let i = c.loop-o.invariant in
    let g = read_at c.args.text.now (c.args.n - c.loop-o.o) c.loop-o.i _ _ _ _ c.byte_at.ensures c.byte_at-in-loop-o.ensures c.byte_at-in-loop-o-2.ensures c.byte_at-in-loop-o-3.ensures c.read_group-g.ensures in
    let s = stops_here _ _ _ _ g i.4 i.5 (omega arith) i.0 i.1 c.if-g-lt4.true in
    record { answers = s; writes = λ _ h. absurd (false≢true (ap (λ (k : Checked). k.good) s ∙ h)) }

pub overflow_add-o-in-loop-o-2 : goal.overflow_add-o-in-loop-o-2
overflow_add-o-in-loop-o-2 c =
    let i = c.loop-o.invariant in
    let g = read_at c.args.text.now (c.args.n - c.loop-o.o) c.loop-o.i _ _ _ _ c.byte_at.ensures c.byte_at-in-loop-o.ensures c.byte_at-in-loop-o-2.ensures c.byte_at-in-loop-o-3.ensures c.read_group-g.ensures in
    let e = goes_on _ _ _ _ g i.4 i.5 (omega arith) i.0 i.1 (omega arith) in
    omega (arith, e.2, c.well_formed.0.1, i.5)

pub overflow_add-i-in-loop-o-3 : goal.overflow_add-i-in-loop-o-3
overflow_add-i-in-loop-o-3 c =
    let i = c.loop-o.invariant in
    let g = read_at c.args.text.now (c.args.n - c.loop-o.o) c.loop-o.i _ _ _ _ c.byte_at.ensures c.byte_at-in-loop-o.ensures c.byte_at-in-loop-o-2.ensures c.byte_at-in-loop-o-3.ensures c.read_group-g.ensures in
    let e = goes_on _ _ _ _ g i.4 i.5 (omega arith) i.0 i.1 (omega arith) in
    omega (arith, e.2, c.well_formed.0.1)

pub loop-o-preserved : goal.loop-o-preserved
loop-o-preserved c =
    let l = c.loop-o in
    let i = l.invariant in
    let g = read_at c.args.text.now (c.args.n - c.loop-o.o) c.loop-o.i _ _ _ _ c.byte_at.ensures c.byte_at-in-loop-o.ensures c.byte_at-in-loop-o-2.ensures c.byte_at-in-loop-o-3.ensures c.read_group-g.ensures in
    let e = goes_on _ _ _ _ g i.4 i.5 (omega arith) i.0 i.1 c.if-g-lt4.false in (
      e.0,
      e.1,
      λ h. turn _ l.out _ l.i g.bits c.put.ensures c.put-in-loop-o.ensures c.put-in-loop-o-2.ensures _ (i.3 ∙ h) ∙ i.2 h,
      turn_length c.args.text.now l.out _ l.i g.bits c.put.ensures c.put-in-loop-o.ensures c.put-in-loop-o-2.ensures ∙ i.3,
      omega arith,
      omega arith,
      e.2,
    )

pub shape_of-out : goal.shape_of-out
shape_of-out c = c.loop-o.invariant.3

pub returns : goal.returns
returns c =
    let t = c.args.text.now in
    let i = c.loop-o.invariant in record { answers = ends_here t _ c.loop-o.o c.loop-o.i i.5 (omega arith) i.6 i.0 i.1; writes = λ h _. sym (turns_end t c.loop-o.out c.loop-o.o c.loop-o.i _ (i.3 ∙ h) (omega arith)) ∙ i.2 h }
