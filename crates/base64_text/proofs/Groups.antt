-- Laws of a text's groups: what a turn of a loop over four characters and three bytes does to the definitions. Assumes nothing.
use mathlib.Core.List.{List, [], ◌∷◌, ◌++◌, append_assoc, append-nil}
use mathlib.Core.Path.{◌≡◌, refl, sym, ap, ◌∙◌}
use Prim.Native.Nat.{ℕ, zero, suc, ◌+◌, ◌-◌, ◌≤◌, ◌<◌}
use native.Mathlib.Nat.{add-zero}
use native.Mathlib.Omega.{arith}
use lib.ListN.{length, get_or, set, take, drop, length-drop, length-set}
use lib.Seq.{get_or-drop, drop-drop, take_all, take-nil}
use Rattle.base64_text.specs.Base64.{first4, joined_letters, high_byte, mid_byte, low_byte, base64_bytes}

-- the first four characters from a place on
pub first4_from : {A : Type 0} (f : ℕ → ℕ → ℕ → ℕ → A) (t : List ℕ) (i : ℕ)
    → first4 f (drop i t) ≡ f (get_or t i 0) (get_or t (i + 1) 0) (get_or t (i + 2) 0) (get_or t (i + 3) 0)
first4_from f t i = simp (get_or-drop, add-zero)

-- a text's bytes: the first group's, as far as n goes, and then those of the text after it
abbrev pub three : ℕ → List ℕ
three g = high_byte g ∷ mid_byte g ∷ low_byte g ∷ []

bytes_three : (n : ℕ) (t : List ℕ) → base64_bytes (suc (suc (suc n))) t ≡ three (first4 joined_letters t) ++ base64_bytes n (drop 4 t)
unfolding base64_bytes
bytes_three n t = refl

bytes_few : (n : ℕ) (t : List ℕ) → n < 3 → base64_bytes n t ≡ take n (three (first4 joined_letters t)) ++ base64_bytes 0 (drop 4 t)
unfolding base64_bytes
bytes_few zero t h = refl
bytes_few (suc zero) t h = refl
bytes_few (suc (suc zero)) t h = refl
bytes_few (suc (suc (suc n))) t h = absurd (omega arith)

take_three : (n x y z : ℕ) (r : List ℕ) → take (suc (suc (suc n))) (x ∷ y ∷ z ∷ []) ++ r ≡ x ∷ y ∷ z ∷ r
take_three n x y z r = ap (λ (l : List ℕ). x ∷ y ∷ z ∷ (l ++ r)) (take-nil n)

pub bytes_step : (n : ℕ) (t : List ℕ) → base64_bytes n t ≡ take n (three (first4 joined_letters t)) ++ base64_bytes (n - 3) (drop 4 t)
bytes_step zero t = bytes_few 0 t (omega arith)
bytes_step (suc zero) t = bytes_few 1 t (omega arith)
bytes_step (suc (suc zero)) t = bytes_few 2 t (omega arith)
bytes_step (suc (suc (suc n))) t =
    let e : suc (suc (suc n)) - 3 ≡ n = omega arith in
    bytes_three n t ∙ rw e (sym (take_three n _ _ _ (base64_bytes n (drop 4 t))))

-- three bytes written at a place, those past the end left out
put_three : (l : List ℕ) (o x y z : ℕ)
    → take (suc (suc (suc o))) (set (set (set l o x) (suc o) y) (suc (suc o)) z) ≡ take o l ++ take (length (drop o l)) (x ∷ y ∷ z ∷ [])
put_three [] zero x y z = refl
put_three [] (suc o) x y z = refl
put_three (a ∷ []) zero x y z = refl
put_three (a ∷ b ∷ []) zero x y z = refl
put_three (a ∷ b ∷ c ∷ l) zero x y z = ap (λ (r : List ℕ). x ∷ y ∷ z ∷ r) (sym (take-nil (length l)))
put_three (a ∷ l) (suc o) x y z = ap (λ (r : List ℕ). a ∷ r) (put_three l o x y z)

-- What a turn of the loop writes: a group's bits g, and the buffer after each of its three bytes.
module _ (t out : List ℕ) (o i : ℕ) {g : ℕ} {p q r : List ℕ}
    (bits : g ≡ joined_letters (get_or t i 0) (get_or t (i + 1) 0) (get_or t (i + 2) 0) (get_or t (i + 3) 0))
    (first : p ≡ set out o (high_byte g)) (second : q ≡ set p (o + 1) (mid_byte g)) (third : r ≡ set q (o + 2) (low_byte g)) where
  pub turn_length : length r ≡ length out
  turn_length = rw (third, second, first, length-set, length-set, length-set)

  pub turn : (n : ℕ) → length out ≡ n → take (o + 3) r ++ base64_bytes (n - (o + 3)) (drop (i + 4) t) ≡ take o out ++ base64_bytes (n - o) (drop i t)
  turn n whole =
      let e1 : o + 1 ≡ suc o = omega arith in
      let e2 : o + 2 ≡ suc (suc o) = omega arith in
      let e3 : o + 3 ≡ suc (suc (suc o)) = omega arith in
      let l : n - (o + 3) ≡ n - o - 3 = omega arith in
      rw (bytes_step (n - o) (drop i t), l, third, second, first, e1, e2, e3, put_three, append_assoc, length-drop, whole, bits, first4_from joined_letters, drop-drop)

pub turns_end : (t out : List ℕ) (o i n : ℕ) → length out ≡ n → n ≤ o → take o out ++ base64_bytes (n - o) (drop i t) ≡ out
unfolding base64_bytes
turns_end t out o i n whole h =
    let z : n - o ≡ 0 = omega arith in
    let l : length out ≤ o = omega arith in
    rw (z, take_all o out l) (append-nil out)
