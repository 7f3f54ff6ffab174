-- A text of n bytes is the text of the bytes that it is read as: no two texts stand for the same bytes. Assumes nothing.
use borrow.Author.Tests.{eqb-true, leb-true}
use mathlib.Core.Bool.{Bool, true, ◌&&◌}
use mathlib.Core.List.{List, [], ◌∷◌}
use mathlib.Core.Path.{◌≡◌, refl, sym, ap, ◌∙◌}
use Prim.Native.Nat.{ℕ, zero, suc, ◌+◌, ◌*◌, ◌/◌, ◌%◌, ◌≤◌, ◌<◌}
use native.Mathlib.Omega.{arith}
use lib.Dec.{eqb, leb}
use lib.ListN.{length, get_or, drop, drop_of_length-le}
use Rattle.base64_text.specs.Base64.{letter_value, is_base64_letter, pad_character, sextet, first4, letter_of, text_of, holds_one, holds_two, holds_three, joined_letters, high_byte, mid_byte, low_byte, is_base64, base64_bytes}
use Rattle.base64_text.proofs.Computed.{both_left, both_right}
use Rattle.base64_text.proofs.Values.{six, same_letter, cons_eq}

-- what the truth of four and of five tests says
all4 : (p q r s : Bool) → (p && q && r && s) ≡ true → (p ≡ true) × (q ≡ true) × (r ≡ true) × (s ≡ true)
all4 p q r s h =
    let pqr = both_left (p && q && r) s h in
    let pq = both_left (p && q) r pqr in
    (both_left p q pq, both_right p q pq, both_right (p && q) r pqr, both_right (p && q && r) s h)

all5 : (p q r s u : Bool) → (p && q && r && s && u) ≡ true → (p ≡ true) × (q ≡ true) × (r ≡ true) × (s ≡ true) × (u ≡ true)
all5 p q r s u h =
    let f = all4 p q r s (both_left (p && q && r && s) u h) in
    (f.0, f.1, f.2, f.3, both_right (p && q && r && s) u h)

-- a text of four characters at least, taken apart
four : (t : List ℕ) → 4 ≤ length t → t ≡ get_or t 0 0 ∷ get_or t 1 0 ∷ get_or t 2 0 ∷ get_or t 3 0 ∷ drop 4 t
four [] h = absurd (omega arith)
four (a ∷ []) h = absurd (omega arith)
four (a ∷ b ∷ []) h = absurd (omega arith)
four (a ∷ b ∷ c ∷ []) h = absurd (omega arith)
four (a ∷ b ∷ c ∷ d ∷ t) h = refl

-- the values of a group, from its bytes
module _ (a b c d : ℕ) (ha : a < 64) (hb : b < 64) (hc : c < 64) (hd : d < 64) where
  ungrouped : let g = ((a * 64 + b) * 64 + c) * 64 + d in
      (high_byte g / 4 ≡ a) × (high_byte g % 4 * 16 + mid_byte g / 16 ≡ b) × (mid_byte g % 16 * 4 + low_byte g / 64 ≡ c) × (low_byte g % 64 ≡ d)
  ungrouped = (omega arith, omega arith, omega arith, omega arith)

  ungrouped_two : c % 4 ≡ 0 → mid_byte (((a * 64 + b) * 64 + c) * 64 + d) % 16 * 4 ≡ c
  ungrouped_two z = omega arith

  ungrouped_one : b % 16 ≡ 0 → high_byte (((a * 64 + b) * 64 + c) * 64 + d) % 4 * 16 ≡ b
  ungrouped_one z = omega arith

-- the characters of a group, from its bytes
module _ (a b c d : ℕ) where
  abbrev g : ℕ
  g = joined_letters a b c d

  three_back : holds_three a b c d ≡ true → (t : List ℕ)
      → letter_of (high_byte g / 4) ∷ letter_of (high_byte g % 4 * 16 + mid_byte g / 16) ∷ letter_of (mid_byte g % 16 * 4 + low_byte g / 64) ∷ letter_of (low_byte g % 64) ∷ t
      ≡ a ∷ b ∷ c ∷ d ∷ t
  unfolding holds_three joined_letters
  three_back h t =
      let f = all4 (is_base64_letter a) (is_base64_letter b) (is_base64_letter c) (is_base64_letter d) h in
      let u = ungrouped (sextet a) (sextet b) (sextet c) (sextet d) (six a) (six b) (six c) (six d) in
      cons_eq (same_letter _ a f.0 u.0)
      (cons_eq (same_letter _ b f.1 u.1) (cons_eq (same_letter _ c f.2 u.2) (cons_eq (same_letter _ d f.3 u.3) refl)))

  two_back : holds_two a b c d ≡ true
      → letter_of (high_byte g / 4) ∷ letter_of (high_byte g % 4 * 16 + mid_byte g / 16) ∷ letter_of (mid_byte g % 16 * 4) ∷ pad_character ∷ [] ≡ a ∷ b ∷ c ∷ d ∷ []
  unfolding holds_two joined_letters
  two_back h =
      let f = all5 (is_base64_letter a) (is_base64_letter b) (is_base64_letter c) (eqb (letter_value c % 4) 0) (eqb d pad_character) h in
      let u = ungrouped (sextet a) (sextet b) (sextet c) (sextet d) (six a) (six b) (six c) (six d) in
      let z : letter_value c % 4 ≡ 0 = eqb-true (letter_value c % 4) 0 f.3 in
      let w = ungrouped_two (sextet a) (sextet b) (sextet c) (sextet d) (six a) (six b) (six c) (six d) (omega arith) in
      cons_eq (same_letter _ a f.0 u.0)
      (cons_eq (same_letter _ b f.1 u.1) (cons_eq (same_letter _ c f.2 w) (cons_eq (sym (eqb-true d pad_character f.4)) refl)))

  one_back : holds_one a b c d ≡ true → letter_of (high_byte g / 4) ∷ letter_of (high_byte g % 4 * 16) ∷ pad_character ∷ pad_character ∷ [] ≡ a ∷ b ∷ c ∷ d ∷ []
  unfolding holds_one joined_letters
  one_back h =
      let f = all5 (is_base64_letter a) (is_base64_letter b) (eqb (letter_value b % 16) 0) (eqb c pad_character) (eqb d pad_character) h in
      let u = ungrouped (sextet a) (sextet b) (sextet c) (sextet d) (six a) (six b) (six c) (six d) in
      let z : letter_value b % 16 ≡ 0 = eqb-true (letter_value b % 16) 0 f.2 in
      let w = ungrouped_one (sextet a) (sextet b) (sextet c) (sextet d) (six a) (six b) (six c) (six d) (omega arith) in
      cons_eq (same_letter _ a f.0 u.0)
      (cons_eq (same_letter _ b f.1 w) (cons_eq (sym (eqb-true c pad_character f.3)) (cons_eq (sym (eqb-true d pad_character f.4)) refl)))

empty : (t : List ℕ) → length t ≡ 0 → [] ≡ t
empty [] h = refl
empty (x ∷ t) h = absurd (omega arith)

ends : (t : List ℕ) → length t ≡ 4 → get_or t 0 0 ∷ get_or t 1 0 ∷ get_or t 2 0 ∷ get_or t 3 0 ∷ [] ≡ t
ends t h =
    let l : length t ≤ 4 = omega arith in
    ap (λ (r : List ℕ). get_or t 0 0 ∷ get_or t 1 0 ∷ get_or t 2 0 ∷ get_or t 3 0 ∷ r) (sym (drop_of_length-le t l)) ∙ sym (four t (omega arith))

-- a text of n bytes is the text of what it is read as
pub bytes_text : (n : ℕ) (t : List ℕ) → is_base64 n t ≡ true → text_of (base64_bytes n t) ≡ t
unfolding is_base64 base64_bytes text_of
bytes_text zero t h = empty t (eqb-true (length t) 0 h)
bytes_text (suc zero) t h =
    let l = eqb-true (length t) 4 (both_left (eqb (length t) 4) (first4 holds_one t) h) in
    one_back _ _ _ _ (both_right (eqb (length t) 4) (first4 holds_one t) h) ∙ ends t l
bytes_text (suc (suc zero)) t h =
    let l = eqb-true (length t) 4 (both_left (eqb (length t) 4) (first4 holds_two t) h) in
    two_back _ _ _ _ (both_right (eqb (length t) 4) (first4 holds_two t) h) ∙ ends t l
bytes_text (suc (suc (suc n))) t h =
    let w = leb 4 (length t) && first4 holds_three t in
    let v = both_left w (is_base64 n (drop 4 t)) h in
    let rest = bytes_text n (drop 4 t) (both_right w (is_base64 n (drop 4 t)) h) in
    three_back _ _ _ _ (both_right (leb 4 (length t)) (first4 holds_three t) v) _
    ∙ ap (λ (r : List ℕ). get_or t 0 0 ∷ get_or t 1 0 ∷ get_or t 2 0 ∷ get_or t 3 0 ∷ r) rest
    ∙ sym (four t (leb-true 4 (length t) (both_left (leb 4 (length t)) (first4 holds_three t) v)))
