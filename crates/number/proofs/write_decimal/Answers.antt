-- The invariant: the whole text over the buffer at entry is the first digits, which are left, over the buffer now. Assumes nothing.
use mathlib.Core.Path.{◌≡◌, sym, ap, ◌∙◌}
use mathlib.Core.List.{List}
use Prim.Native.Nat.{ℕ, zero, suc, ◌+◌, ◌-◌, ◌/◌, ◌%◌, ◌≤◌, ◌<◌}
use native.Mathlib.Omega.{arith}
use lib.ListN.{length, set}
use Rattle.stream.specs.Numbers.{decimal}
use Rattle.number.specs.Writing.{written, over}
use Rattle.number.proofs.Numerals.{last_digits, length_last, decimal_last}
use Rattle.number.proofs.Placing.{over_nothing, over_last, decimal_fits, decimal_no_room}
use Rattle.number.proofs.write_decimal.Goals as goal

-- a store of the last digit leaves the others
turn : (o : List ℕ) (at left i : ℕ) → 1 ≤ i → at + i ≤ length o → over o at (last_digits i left) ≡ over (set o (at + (i - 1)) (48 + left % 10)) at (last_digits (i - 1) (left / 10))
unfolding last_digits
turn o at left zero h k = absurd (omega arith)
turn o at left (suc i) h k =
    let e : suc i - 1 ≡ i = omega arith in
    let f = length_last i (left / 10) in
    rw (e, last_digits) (over_last o at (last_digits i (left / 10)) (48 + left % 10) (omega arith) ∙ rw f)

finish : (o : List ℕ) (at left i : ℕ) → i < 1 → over o at (last_digits i left) ≡ o
unfolding last_digits
finish o at left zero h = over_nothing o at
finish o at left (suc i) h = absurd (omega arith)

pub returns-then-out-at : goal.returns-then-out-at
returns-then-out-at c = sym (decimal_no_room c.args.out.now c.args.at c.args.n (omega arith))

pub returns-then-out-at-2 : goal.returns-then-out-at-2
returns-then-out-at-2 c = sym (decimal_no_room c.args.out.now c.args.at c.args.n (omega (arith, c.width-count.ensures)))

pub loop-i-init : goal.loop-i-init
loop-i-init c = ap (over c.args.out.now c.args.at) (rw c.width-count.ensures (decimal_last c.args.n))

pub loop-i-preserved : goal.loop-i-preserved
loop-i-preserved c = c.loop-i.invariant ∙ turn c.loop-i.out c.args.at c.loop-i.left c.loop-i.i (omega arith) (omega arith)

pub returns : goal.returns
returns c =
    sym (decimal_fits c.args.out.now c.args.at c.args.n (omega (arith, c.width-count.ensures))
    ∙ ap (written (length (decimal c.args.n))) (c.loop-i.invariant ∙ finish c.loop-i.out c.args.at c.loop-i.left c.loop-i.i (omega arith))
    ∙ ap (λ (k : ℕ). written k c.loop-i.out) (sym c.width-count.ensures))
