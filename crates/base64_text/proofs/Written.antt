-- The text of some bytes is a text of as many, and is read as these. Assumes nothing.
use borrow.Author.Tests.{ltb-true, le-leb}
use mathlib.Core.Bool.{true}
use mathlib.Core.List.{List, [], ◌∷◌}
use mathlib.Core.Path.{◌≡◌, refl, ap, ◌∙◌}
use Prim.Native.Nat.{ℕ, suc, ◌+◌, ◌*◌, ◌/◌, ◌%◌, ◌<◌}
use native.Mathlib.Omega.{arith}
use lib.Dec.{ltb}
use lib.ListN.{length}
use lib.Pow.{are_bytes}
use Rattle.base64_text.specs.Base64.{pad_character, letter_of, text_of, holds_one, holds_two, holds_three, joined_letters, high_byte, mid_byte, low_byte, is_base64, base64_bytes}
use Rattle.base64_text.proofs.Computed.{both_left, both_right}
use Rattle.base64_text.proofs.Values.{value_letter, is_letter_lem, sextet_letter, padding_zero, cons_eq}

-- a group of letters whose values are below 64
three_hold : (a b c d : ℕ) → a < 64 → b < 64 → c < 64 → d < 64 → holds_three (letter_of a) (letter_of b) (letter_of c) (letter_of d) ≡ true
unfolding holds_three
three_hold a b c d ha hb hc hd = rw (is_letter_lem a ha, is_letter_lem b hb, is_letter_lem c hc, is_letter_lem d hd)

two_hold : (a b c : ℕ) → a < 64 → b < 64 → c < 64 → c % 4 ≡ 0 → holds_two (letter_of a) (letter_of b) (letter_of c) pad_character ≡ true
unfolding holds_two
two_hold a b c ha hb hc z = rw (is_letter_lem a ha, is_letter_lem b hb, is_letter_lem c hc, value_letter c hc, z)

one_holds : (a b : ℕ) → a < 64 → b < 64 → b % 16 ≡ 0 → holds_one (letter_of a) (letter_of b) pad_character pad_character ≡ true
unfolding holds_one
one_holds a b ha hb z = rw (is_letter_lem a ha, is_letter_lem b hb, value_letter b hb, z)

three_join : (a b c d : ℕ) → a < 64 → b < 64 → c < 64 → d < 64
    → joined_letters (letter_of a) (letter_of b) (letter_of c) (letter_of d) ≡ ((a * 64 + b) * 64 + c) * 64 + d
unfolding joined_letters
three_join a b c d ha hb hc hd = rw (sextet_letter a ha, sextet_letter b hb, sextet_letter c hc, sextet_letter d hd)

two_join : (a b c : ℕ) → a < 64 → b < 64 → c < 64 → joined_letters (letter_of a) (letter_of b) (letter_of c) pad_character ≡ ((a * 64 + b) * 64 + c) * 64 + 0
unfolding joined_letters
two_join a b c ha hb hc = rw (sextet_letter a ha, sextet_letter b hb, sextet_letter c hc, padding_zero)

one_joins : (a b : ℕ) → a < 64 → b < 64 → joined_letters (letter_of a) (letter_of b) pad_character pad_character ≡ ((a * 64 + b) * 64 + 0) * 64 + 0
unfolding joined_letters
one_joins a b ha hb = rw (sextet_letter a ha, sextet_letter b hb, padding_zero)

-- three bytes as four values of six bits
regrouped : (x y z : ℕ) → ((x / 4 * 64 + (x % 4 * 16 + y / 16)) * 64 + (y % 16 * 4 + z / 64)) * 64 + z % 64 ≡ x * 65536 + y * 256 + z
regrouped x y z = omega arith

parts : (x y z : ℕ) → x < 256 → y < 256 → z < 256
    → let g = x * 65536 + y * 256 + z in (high_byte g ≡ x) × (mid_byte g ≡ y) × (low_byte g ≡ z)
parts x y z hx hy hz = (omega arith, omega arith, omega arith)

-- a group before a text
group_text : (n a b c d : ℕ) (t : List ℕ) → holds_three a b c d ≡ true → is_base64 n t ≡ true → is_base64 (suc (suc (suc n))) (a ∷ b ∷ c ∷ d ∷ t) ≡ true
unfolding is_base64
group_text n a b c d t h r = rw (le-leb 4 (suc (suc (suc (suc (length t))))) (omega arith), h) r

group_bytes : (n a b c d g : ℕ) (t : List ℕ) → joined_letters a b c d ≡ g
    → base64_bytes (suc (suc (suc n))) (a ∷ b ∷ c ∷ d ∷ t) ≡ high_byte g ∷ mid_byte g ∷ low_byte g ∷ base64_bytes n t
unfolding base64_bytes
group_bytes n a b c d g t e = rw e

-- the bytes at the front of a list
first_byte : (x : ℕ) (r : List ℕ) → are_bytes (x ∷ r) ≡ true → x < 256
first_byte x r h = ltb-true x 256 (both_left (ltb x 256) (are_bytes r) h)

rest_bytes : (x : ℕ) (r : List ℕ) → are_bytes (x ∷ r) ≡ true → are_bytes r ≡ true
rest_bytes x r h = both_right (ltb x 256) (are_bytes r) h

-- the text of some bytes is a text of as many
pub text_is : (bs : List ℕ) → are_bytes bs ≡ true → is_base64 (length bs) (text_of bs) ≡ true
unfolding is_base64 text_of
text_is [] h = refl
text_is (x ∷ []) h =
    let hx = first_byte x [] h in
    one_holds (x / 4) (x % 4 * 16) (omega arith) (omega arith) (omega arith)
text_is (x ∷ y ∷ []) h =
    let hx = first_byte x (y ∷ []) h in
    let hy = first_byte y [] (rest_bytes x (y ∷ []) h) in
    two_hold (x / 4) (x % 4 * 16 + y / 16) (y % 16 * 4) (omega arith) (omega arith) (omega arith) (omega arith)
text_is (x ∷ y ∷ z ∷ r) h =
    let h' = rest_bytes x (y ∷ z ∷ r) h in
    let h'' = rest_bytes y (z ∷ r) h' in
    let hx = first_byte x (y ∷ z ∷ r) h in
    let hy = first_byte y (z ∷ r) h' in
    let hz = first_byte z r h'' in
    group_text (length r) _ _ _ _ (text_of r)
    (three_hold (x / 4) (x % 4 * 16 + y / 16) (y % 16 * 4 + z / 64) (z % 64) (omega arith) (omega arith) (omega arith) (omega arith))
    (text_is r (rest_bytes z r h''))

-- and is read as these
pub text_bytes : (bs : List ℕ) → are_bytes bs ≡ true → base64_bytes (length bs) (text_of bs) ≡ bs
unfolding base64_bytes text_of
text_bytes [] h = refl
text_bytes (x ∷ []) h =
    let hx = first_byte x [] h in
    let p : high_byte (((x / 4 * 64 + x % 4 * 16) * 64 + 0) * 64 + 0) ≡ x = omega arith in
    ap (λ (b : ℕ). b ∷ []) (ap high_byte (one_joins (x / 4) (x % 4 * 16) (omega arith) (omega arith)) ∙ p)
text_bytes (x ∷ y ∷ []) h =
    let hx = first_byte x (y ∷ []) h in
    let hy = first_byte y [] (rest_bytes x (y ∷ []) h) in
    let e = two_join (x / 4) (x % 4 * 16 + y / 16) (y % 16 * 4) (omega arith) (omega arith) (omega arith) in
    let p : high_byte (((x / 4 * 64 + (x % 4 * 16 + y / 16)) * 64 + y % 16 * 4) * 64 + 0) ≡ x = omega arith in
    let q : mid_byte (((x / 4 * 64 + (x % 4 * 16 + y / 16)) * 64 + y % 16 * 4) * 64 + 0) ≡ y = omega arith in
    cons_eq (ap high_byte e ∙ p) (cons_eq (ap mid_byte e ∙ q) refl)
text_bytes (x ∷ y ∷ z ∷ r) h =
    let h' = rest_bytes x (y ∷ z ∷ r) h in
    let h'' = rest_bytes y (z ∷ r) h' in
    let hx = first_byte x (y ∷ z ∷ r) h in
    let hy = first_byte y (z ∷ r) h' in
    let hz = first_byte z r h'' in
    let e = three_join (x / 4) (x % 4 * 16 + y / 16) (y % 16 * 4 + z / 64) (z % 64) (omega arith) (omega arith) (omega arith) (omega arith) ∙ regrouped x y z in
    let p = parts x y z hx hy hz in
    group_bytes (length r) _ _ _ _ _ (text_of r) e ∙ cons_eq p.0 (cons_eq p.1 (cons_eq p.2 (text_bytes r (rest_bytes z r h''))))
