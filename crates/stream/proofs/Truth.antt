-- What the tests of the definitions say where they hold, or fail: `&&`, `||`, `same` and `same_name`. Assumes nothing.
use borrow.Author.Tests.{eqb-true, eq-eqb, leb-true}
use mathlib.Core.Bool.{Bool, true, false, ◌&&◌, ◌||◌, true≢false, false≢true, and-eq-true_iff}
use mathlib.Core.List.{List, [], ◌∷◌}
use mathlib.Core.Path.{◌≡◌, refl, sym, ap, ◌∙◌}
use Prim.Native.Nat.{ℕ, ◌≤◌}
use lib.Dec.{eqb, leb}
use lib.ListN.{length, length-map}
use Rattle.stream.specs.Bytes.{between, same, lower, lowered, same_name}

pub left_holds : (a b : Bool) → (a && b) ≡ true → a ≡ true
left_holds a b h = ((and-eq-true_iff a b).0 h).0

pub right_holds : (a b : Bool) → (a && b) ≡ true → b ≡ true
right_holds a b h = ((and-eq-true_iff a b).0 h).1

pub left_fails : (a b : Bool) → (a || b) ≡ false → a ≡ false
left_fails true b h = h
left_fails false b h = refl

pub right_fails : (a b : Bool) → (a || b) ≡ false → b ≡ false
right_fails true b h = absurd (true≢false h)
right_fails false b h = h

pub or-true : (a : Bool) → (a || true) ≡ true
or-true true = refl
or-true false = refl

-- a number within bounds
pub within : (low high n : ℕ) → between low high n ≡ true → (low ≤ n) × (n ≤ high)
within low high n h =
    (leb-true low n (left_holds (leb low n) (leb n high) h), leb-true n high (right_holds (leb low n) (leb n high) h))

-- the same bytes are one list
pub same_equal : (xs ys : List ℕ) → same xs ys ≡ true → xs ≡ ys
unfolding same
same_equal [] [] h = refl
same_equal [] (y ∷ ys) h = absurd (false≢true h)
same_equal (x ∷ xs) [] h = absurd (false≢true h)
same_equal (x ∷ xs) (y ∷ ys) h =
    let e : x ≡ y = eqb-true x y (left_holds (eqb x y) (same xs ys) h) in
    let es : xs ≡ ys = same_equal xs ys (right_holds (eqb x y) (same xs ys) h) in
    cc

pub same_self : (xs : List ℕ) → same xs xs ≡ true
unfolding same
same_self [] = refl
same_self (x ∷ xs) = rw (eq-eqb x x refl, same_self xs)

-- two names that are both the name k are the same
pub names_same : (k m n : List ℕ) → same_name m k ≡ true → same_name n k ≡ true → same_name m n ≡ true
unfolding same_name
names_same k m n h i = rw (same_equal (lowered m) (lowered k) h, same_equal (lowered n) (lowered k) i) (same_self (lowered k))

pub lowered_length : (n : List ℕ) → length (lowered n) ≡ length n
unfolding lowered
lowered_length n = length-map n lower

pub same_length : (m n : List ℕ) → same_name m n ≡ true → length m ≡ length n
unfolding same_name
same_length m n h = sym (lowered_length m) ∙ ap length (same_equal (lowered m) (lowered n) h) ∙ lowered_length n
