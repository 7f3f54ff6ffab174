-- A letter's value and a value's letter, and the six bits of a character. Assumes nothing.
use borrow.Author.Tests.{eqb-true, ltb-true, lt-ltb}
use mathlib.Core.Bool.{Bool, true, false}
use mathlib.Core.List.{List, [], ◌∷◌}
use mathlib.Core.Path.{◌≡◌, refl, sym}
use Prim.Native.Nat.{ℕ, suc, ◌%◌, ◌<◌}
use native.Mathlib.Nat.{le_of_suc-le-suc, not-suc-le-zero}
use native.Mathlib.Omega.{arith}
use lib.Dec.{eqb}
use lib.ListN.{length, get_or}
use Rattle.base64_text.specs.Base64.{alphabet, pad_character, index_of, letter_value, is_base64_letter, letter_of, sextet}
use Rattle.base64_text.proofs.Computed.{below}

-- a letter's value, and a value's letter
back : ℕ → Bool
back v = eqb (letter_value (letter_of v)) v

pub value_letter : (v : ℕ) → v < 64 → letter_value (letter_of v) ≡ v
unfolding back letter_value
value_letter v h = eqb-true _ _ (below back 64 refl v h)

found : (b x : ℕ) (xs : List ℕ) (t : Bool) → eqb b x ≡ t → (index_of b xs < length xs → get_or xs (index_of b xs) 0 ≡ b)
    → elim t [ true ↦ 0 | false ↦ suc (index_of b xs) ] < suc (length xs) → get_or (x ∷ xs) (elim t [ true ↦ 0 | false ↦ suc (index_of b xs) ]) 0 ≡ b
found b x xs true e rest h = sym (eqb-true b x e)
found b x xs false e rest h = rest (le_of_suc-le-suc h)

at_index : (l : List ℕ) (b : ℕ) → index_of b l < length l → get_or l (index_of b l) 0 ≡ b
at_index [] b h = absurd (not-suc-le-zero h)
at_index (x ∷ xs) b h = found b x xs (eqb b x) refl (at_index xs b) h

pub letter_value_lem : (b : ℕ) → is_base64_letter b ≡ true → letter_of (letter_value b) ≡ b
unfolding letter_value
letter_value_lem b h = at_index alphabet b (ltb-true _ _ h)

pub sextet_letter : (v : ℕ) → v < 64 → letter_value (letter_of v) % 64 ≡ v
sextet_letter v h = rw (value_letter v h) (omega arith)

pub is_letter_lem : (v : ℕ) → v < 64 → is_base64_letter (letter_of v) ≡ true
is_letter_lem v h = rw (value_letter v h) (lt-ltb v 64 h)

pub padding_zero : letter_value pad_character % 64 ≡ 0
unfolding letter_value
padding_zero = refl

-- a letter, from its six bits
pub six : (b : ℕ) → sextet b < 64
six b = omega arith

pub same_letter : (v b : ℕ) → is_base64_letter b ≡ true → v ≡ sextet b → letter_of v ≡ b
same_letter v b h e =
    let l : letter_value b < 64 = ltb-true (letter_value b) 64 h in
    let w : v ≡ letter_value b = omega arith in
    rw w (letter_value_lem b h)

-- two lists by their parts
pub cons_eq : {x y : ℕ} {l m : List ℕ} → x ≡ y → l ≡ m → x ∷ l ≡ y ∷ m
cons_eq p q = rw (p, q)
