-- What a caller may use of a text and its bytes without looking into them: their lengths, and that the bytes are bytes. Assumes nothing.
use borrow.Author.Tests.{eqb-true, leb-true}
use mathlib.Core.Bool.{Bool, true, false, ◌&&◌}
use mathlib.Core.List.{List}
use mathlib.Core.Path.{◌≡◌, refl, ap, ◌∙◌}
use Prim.Native.Nat.{ℕ, zero, suc, ◌*◌, ◌<◌}
use native.Mathlib.Omega.{arith}
use lib.Dec.{eqb, leb}
use lib.ListN.{length, get_or, drop, length-drop}
use Rattle.octets.specs.Choice.{pick}
use Rattle.base64_text.specs.Base64.{first4, holds_one, holds_two, holds_three, is_base64, base64_bytes}
use Rattle.base64_text.specs.Decoding.{Decoded, answered, decoded}
use Rattle.base64_text.specs.Places.{groups}
use Rattle.base64_text.proofs.Computed.{both_left, both_right}

-- n bytes are n bytes
pub bytes_length : (n : ℕ) (t : List ℕ) → length (base64_bytes n t) ≡ n
unfolding base64_bytes
bytes_length zero t = refl
bytes_length (suc zero) t = refl
bytes_length (suc (suc zero)) t = refl
bytes_length (suc (suc (suc n))) t = ap (λ (k : ℕ). suc (suc (suc k))) (bytes_length n (drop 4 t))

-- each of them is below 256
pub bytes_below : (n : ℕ) (t : List ℕ) (i : ℕ) → get_or (base64_bytes n t) i 0 < 256
unfolding base64_bytes
bytes_below zero t i = omega arith
bytes_below (suc zero) t zero = omega arith
bytes_below (suc zero) t (suc i) = omega arith
bytes_below (suc (suc zero)) t zero = omega arith
bytes_below (suc (suc zero)) t (suc zero) = omega arith
bytes_below (suc (suc zero)) t (suc (suc i)) = omega arith
bytes_below (suc (suc (suc n))) t zero = omega arith
bytes_below (suc (suc (suc n))) t (suc zero) = omega arith
bytes_below (suc (suc (suc n))) t (suc (suc zero)) = omega arith
bytes_below (suc (suc (suc n))) t (suc (suc (suc i))) = bytes_below n (drop 4 t) i

-- a text of n bytes has four characters for each three of them, begun or whole
pub text_length : (n : ℕ) (t : List ℕ) → is_base64 n t ≡ true → length t ≡ groups n * 4
unfolding is_base64
text_length zero t h = eqb-true _ _ h
text_length (suc zero) t h = eqb-true _ _ (both_left (eqb (length t) 4) (first4 holds_one t) h)
text_length (suc (suc zero)) t h = eqb-true _ _ (both_left (eqb (length t) 4) (first4 holds_two t) h)
text_length (suc (suc (suc n))) t h =
    let w = leb 4 (length t) && first4 holds_three t in
    let l = both_left (leb 4 (length t)) (first4 holds_three t) (both_left w (is_base64 n (drop 4 t)) h) in
    let r = text_length n (drop 4 t) (both_right w (is_base64 n (drop 4 t)) h) in
    omega (arith, leb-true 4 (length t) l, length-drop 4 t, r)

-- decoding, by what the text is
decoded_text : (n : ℕ) (t buffer : List ℕ) → is_base64 n t ≡ true → decoded n t buffer ≡ answered true (base64_bytes n t)
unfolding decoded
decoded_text n t buffer h = rw h

decoded_other : (n : ℕ) (t buffer : List ℕ) → is_base64 n t ≡ false → decoded n t buffer ≡ answered false buffer
unfolding decoded
decoded_other n t buffer h = rw h

-- what a caller learns of the answer and the buffer from a contract, `answered ok after ≡ decoded n t before`
module _ (n : ℕ) (t before : List ℕ) {ok : Bool} {after : List ℕ} (said : answered ok after ≡ decoded n t before) where
  pub answer_is : ok ≡ is_base64 n t
  unfolding decoded
  answer_is = ap (λ (d : Decoded). d.ok) said ∙ by_test_lem (is_base64 n t)
    where
      by_test_lem : (b : Bool) → (pick b (answered true (base64_bytes n t)) (answered false before)).ok ≡ b
      by_test_lem true = refl
      by_test_lem false = refl

  pub buffer_read : is_base64 n t ≡ true → after ≡ base64_bytes n t
  buffer_read h = ap (λ (d : Decoded). d.buffer) (said ∙ decoded_text n t before h)

  pub buffer_kept : is_base64 n t ≡ false → after ≡ before
  buffer_kept h = ap (λ (d : Decoded). d.buffer) (said ∙ decoded_other n t before h)
