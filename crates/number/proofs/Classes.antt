-- The table of digits agrees with the two classes of digits and their values. Assumes nothing.
use mathlib.Core.Path.{◌≡◌, refl, sym}
use mathlib.Core.Bool.{Bool, true, false, ◌&&◌, ◌||◌, false≢true}
use Prim.Native.Nat.{ℕ, ◌-◌, ◌≤◌}
use native.Mathlib.Omega.{arith}
use borrow.Author.Tests.{leb-true, lt-ltb, le-ltb, le-leb, lt-leb}
use lib.Dec.{leb, ltb}
use Rattle.octets.specs.Choice.{pick}
use Rattle.stream.specs.Bytes.{is_digit, is_hex, between}
use Rattle.stream.specs.Numbers.{decimal_digit, hex_digit}
use Rattle.number.specs.Digits.{digit_of, is_digit_of}

-- both of two tests hold where their conjunction does
pub both : (s t : Bool) → s && t ≡ true → (s ≡ true) × (t ≡ true)
both true t e = (refl, e)
both false t e = absurd (false≢true e)

pub joined : (s t : Bool) → s ≡ true → t ≡ true → s && t ≡ true
joined s t a b = rw a b

-- ---- a byte between two others, or outside

pub inside : (low high b : ℕ) → between low high b ≡ true → (low ≤ b) × (b ≤ high)
inside low high b e =
    let w = both (leb low b) (leb b high) e in
    (leb-true low b w.0, leb-true b high w.1)

pub within : (low high b : ℕ) → low ≤ b → b ≤ high → between low high b ≡ true
within low high b h k = simp (le-leb low b h, le-leb b high k)

-- ---- the three rows of the table, each with what its byte is between

-- what a byte in a row is between
abbrev Row : ℕ → ℕ → ℕ → Bool → Type 0
Row low high b t = t ≡ true → (low ≤ b) × (b ≤ high)

abbrev table : ℕ → Bool → Bool → Bool → ℕ
table b x y z = pick x (b - 48) (pick y (b - 55) (pick z (b - 87) 16))

decimal_row : (b : ℕ) (x y z : Bool) → Row 48 57 b x → Row 65 70 b y → Row 97 102 b z → x ≡ ltb (table b x y z) 10
decimal_row b true y z f g h = let w = f refl in sym (lt-ltb (b - 48) 10 (omega arith))
decimal_row b false true z f g h = let w = g refl in sym (le-ltb (b - 55) 10 (omega arith))
decimal_row b false false true f g h = let w = h refl in sym (le-ltb (b - 87) 10 (omega arith))
decimal_row b false false false f g h = refl

hex_row : (b : ℕ) (x y z : Bool) → Row 48 57 b x → Row 65 70 b y → Row 97 102 b z → x || (y || z) ≡ ltb (table b x y z) 16
hex_row b true y z f g h = let w = f refl in sym (lt-ltb (b - 48) 16 (omega arith))
hex_row b false true z f g h = let w = g refl in sym (lt-ltb (b - 55) 16 (omega arith))
hex_row b false false true f g h = let w = h refl in sym (lt-ltb (b - 87) 16 (omega arith))
hex_row b false false false f g h = refl

hex_value_lem : (b : ℕ) (x y z : Bool) → Row 48 57 b x → Row 65 70 b y → Row 97 102 b z → x || (y || z) ≡ true → table b x y z ≡ hex_digit b
hex_value_lem b true y z f g h e = let w = f refl in simp (le-leb b 57 w.1)
hex_value_lem b false true z f g h e = let w = g refl in simp (lt-leb b 57 (omega arith), le-leb b 70 w.1)
hex_value_lem b false false true f g h e = let w = h refl in simp (lt-leb b 57 (omega arith), lt-leb b 70 (omega arith))
hex_value_lem b false false false f g h e = absurd (false≢true e)

-- ---- the classes

pub decimal_class : (b : ℕ) → is_digit b ≡ is_digit_of 10 b
unfolding digit_of
decimal_class b = decimal_row b (is_digit b) (between 65 70 b) (between 97 102 b) (inside 48 57 b) (inside 65 70 b) (inside 97 102 b)

pub decimal_digit_lem : (b : ℕ) → is_digit b ≡ true → digit_of b ≡ decimal_digit b
unfolding digit_of
decimal_digit_lem b e = simp e

pub hex_class : (b : ℕ) → is_hex b ≡ is_digit_of 16 b
unfolding digit_of
hex_class b = hex_row b (is_digit b) (between 65 70 b) (between 97 102 b) (inside 48 57 b) (inside 65 70 b) (inside 97 102 b)

pub hex_digit_lem : (b : ℕ) → is_hex b ≡ true → digit_of b ≡ hex_digit b
unfolding digit_of
hex_digit_lem b e = hex_value_lem b (is_digit b) (between 65 70 b) (between 97 102 b) (inside 48 57 b) (inside 65 70 b) (inside 97 102 b) e
