-- The invariant: the digits in front of the text are those that were read, with those in front of the rest; and the number so far is below
-- base ^ count. Assumes nothing.
use mathlib.Core.Path.{◌≡◌, refl, sym, ap, ◌∙◌}
use mathlib.Core.Bool.{Bool, true, false}
use mathlib.Core.List.{List, [], ◌∷◌}
use Prim.Native.Nat.{ℕ, zero, suc, ◌+◌, ◌-◌, ◌*◌, ◌^◌, ◌≤◌, ◌<◌, min}
use native.Mathlib.Nat.{pow-suc, pow-le-pow_right, lt_of_lt_of_le, le_trans}
use native.Mathlib.Numerals.{add-one}
use native.Mathlib.Omega.{arith}
use borrow.Author.Tests.{lt-ltb, le-ltb}
use lib.Dec.{ltb}
use lib.ListN.{length, get_or, take, drop, length-take, length-drop}
use lib.Seq.{drop-cons, get_or-take}
use Rattle.octets.specs.Choice.{pick}
use Rattle.number.specs.Digits.{digit_of, is_digit_of, digits, front_from}
use Rattle.number.proofs.Values.{grows}
use Rattle.number.proofs.front.Goals as goal
use Rattle.number.proofs.front.Goals.{Else-base-d}

front_cons : (base k count v b : ℕ) (l : List ℕ) (t : Bool) → is_digit_of base b ≡ t
    → front_from base (suc k) count v (b ∷ l) ≡ pick t (front_from base k (suc count) (v * base + digit_of b) l) (digits count v)
unfolding front_from
front_cons base k count v b l true e = rw (e, front_from)
front_cons base k count v b l false e = rw (e, front_from)

-- the digits from a place on, by whether the byte there, whose value is d, is a digit of the base
front_at : (s : List ℕ) (base most i v d : ℕ) (t : Bool) → i < length s → i < most → d ≡ digit_of (get_or s i 0) → ltb d base ≡ t
    → front_from base (most - i) i v (drop i s) ≡ pick t (front_from base (most - (i + 1)) (i + 1) (v * base + d) (drop (i + 1) s)) (digits i v)
front_at s base most i v d t h k e f =
    let m : most - i ≡ suc (most - (i + 1)) = omega arith in
    rw (← f, e, m, drop-cons s i 0 h, add-one i) (front_cons base (most - suc i) i v (get_or s i 0) (drop (suc i) s) _ refl)

front_end : (base k i v : ℕ) (l : List ℕ) → min (length l) k ≡ 0 → front_from base k i v l ≡ digits i v
unfolding front_from
front_end base zero i v l h = refl
front_end base (suc k) i v [] h = refl
front_end base (suc k) i v (b ∷ l) h = absurd (omega arith)

front_over : (s : List ℕ) (base most n i v : ℕ) → n ≡ min (length s) most → n ≤ i → i ≤ n → front_from base (most - i) i v (drop i s) ≡ digits n v
front_over s base most n i v e h k =
    let f : i ≡ n = omega arith in
    rw f (front_end base (most - n) n v (drop n s) (omega (arith, length-drop n s)))

-- the number with the next digit is below the next power, and that is at most the last one
next : (base d v i : ℕ) → d < base → v < base ^ i → v * base + d < base ^ (i + 1)
next base d v i h k = rw (add-one i, pow-suc base i) (grows base d v (base ^ i) h k)

fits : (base d v i n : ℕ) → d < base → v < base ^ i → i + 1 ≤ n → base ^ n ≤ 2 ^ 64 → v * base + d < 2 ^ 64
fits base d v i n h k l m = lt_of_lt_of_le (next base d v i h k) (le_trans (pow-le-pow_right {n = base} (omega arith) l) m)

digit_read : (s : List ℕ) (n i d : ℕ) → i < length (take n s) → d ≡ digit_of (get_or (take n s) i 0) → d ≡ digit_of (get_or s i 0)
digit_read s n i d h e = e ∙ ap digit_of (get_or-take n s i 0 (omega (arith, length-take n s)))

turn : (c : Else-base-d) → c.loop-count.value * c.args.base + c.digit-d.result < 2 ^ 64
turn c =
    fits c.args.base c.digit-d.result c.loop-count.value c.loop-count.count c.args.most c.if-base-d.false c.loop-count.invariant.1
    (omega (arith, c.min.ensures, length-take c.min.result c.args.s.now)) c.requires

pub returns-then-base-d : goal.returns-then-base-d
returns-then-base-d c =
    let m = c.min.ensures in
    let k = length-take c.min.result c.args.s.now in
    sym (c.loop-count.invariant.0 ∙ front_at c.args.s.now c.args.base c.args.most c.loop-count.count c.loop-count.value c.digit-d.result false (omega arith) (omega arith) (digit_read _ _ _ _ c.loop-count-test.true c.digit-d.ensures) (le-ltb _ _ c.if-base-d.true))

pub overflow_mul-value : goal.overflow_mul-value
overflow_mul-value c = omega (arith, turn c)

pub overflow_add-value : goal.overflow_add-value
overflow_add-value c = omega (arith, turn c)

pub loop-count-preserved : goal.loop-count-preserved
loop-count-preserved c =
    let m = c.min.ensures in
    let k = length-take c.min.result c.args.s.now in (
      c.loop-count.invariant.0 ∙ front_at c.args.s.now c.args.base c.args.most c.loop-count.count c.loop-count.value c.digit-d.result true (omega arith) (omega arith) (digit_read _ _ _ _ c.loop-count-test.true c.digit-d.ensures) (lt-ltb _ _ c.if-base-d.false),
      next c.args.base c.digit-d.result c.loop-count.value c.loop-count.count c.if-base-d.false c.loop-count.invariant.1,
    )

pub returns : goal.returns
returns c =
    let m = c.min.ensures in
    let k = length-take c.min.result c.args.s.now in
    let e = c.loop-count.auto.count-end in
    sym (c.loop-count.invariant.0 ∙ front_over c.args.s.now c.args.base c.args.most (length (take c.min.result c.args.s.now)) c.loop-count.count c.loop-count.value (omega arith) (omega arith) (omega arith))
