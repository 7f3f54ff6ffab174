-- A text without line feed, and CR LF after it: that is its first end. Assumes nothing.
use mathlib.Core.Bool.{Bool, true, false, not}
use mathlib.Core.List.{List, [], ◌∷◌, ◌++◌, append_assoc}
use mathlib.Core.Path.{◌≡◌, refl, sym, ◌∙◌}
use Prim.Native.Nat.{ℕ, zero, suc, ◌+◌, ◌-◌, ◌*◌, ◌/◌, ◌%◌, ◌≤◌, ◌<◌}
use native.Mathlib.Omega.{arith}
use borrow.Author.Tests.{eqb-true, lt-ltb}
use lib.Dec.{eqb}
use lib.ListN.{length, take, drop, get_or, length-append}
use lib.Pow.{are_bytes}
use lib.Seq.{drop_at, take-append-le}
use Rattle.base64_text.specs.Base64.{alphabet, letter_of, text_of}
use Rattle.stream.specs.Bytes.{all, same, is_hex}
use Rattle.stream.specs.Lines.{crlf, ends_with}
use Rattle.stream.proofs.Truth.{left_holds, right_holds, same_equal, same_self}
use Rattle.exactness.specs.Good.{EndsFirst}

-- no line feed
abbrev pub is_clean : ℕ → Bool
is_clean b = not (eqb b 10)

-- ---- every byte of a list

pub all_both : (p : ℕ → Bool) (l m : List ℕ) → all p l ≡ true → all p m ≡ true → all p (l ++ m) ≡ true
unfolding all
all_both p [] m h k = k
all_both p (b ∷ l) m h k = rw (left_holds (p b) (all p l) h) (all_both p l m (right_holds (p b) (all p l) h) k)

all_take : (p : ℕ → Bool) (n : ℕ) (l : List ℕ) → all p l ≡ true → all p (take n l) ≡ true
unfolding all
all_take p zero l h = refl
all_take p (suc n) [] h = refl
all_take p (suc n) (b ∷ l) h = rw (left_holds (p b) (all p l) h) (all_take p n l (right_holds (p b) (all p l) h))

all_drop : (p : ℕ → Bool) (n : ℕ) (l : List ℕ) → all p l ≡ true → all p (drop n l) ≡ true
unfolding all
all_drop p zero l h = h
all_drop p (suc n) [] h = refl
all_drop p (suc n) (b ∷ l) h = all_drop p n l (right_holds (p b) (all p l) h)

all-at : (p : ℕ → Bool) (l : List ℕ) (i d : ℕ) → all p l ≡ true → p d ≡ true → p (get_or l i d) ≡ true
unfolding all
all-at p [] i d h k = k
all-at p (b ∷ l) zero d h k = left_holds (p b) (all p l) h
all-at p (b ∷ l) (suc i) d h k = all-at p l i d (right_holds (p b) (all p l) h) k

pub below_bytes : (l : List ℕ) → ((i : ℕ) → get_or l i 0 < 256) → are_bytes l ≡ true
below_bytes [] h = refl
below_bytes (x ∷ l) h = rw (lt-ltb x 256 (h 0)) (below_bytes l (λ i. h (suc i)))

-- ---- digits and letters

hex_clean : (b : ℕ) → is_hex b ≡ true → is_clean b ≡ true
hex_clean b h = by (eqb b 10) refl
  where
    by : (t : Bool) → eqb b 10 ≡ t → not t ≡ true
    by true e =
        let k : b ≡ 10 = eqb-true b 10 e in
        let z : is_hex 10 ≡ true = rw k at h in
        z
    by false e = refl

pub digits_clean : (l : List ℕ) → all is_hex l ≡ true → all is_clean l ≡ true
unfolding all
digits_clean [] h = refl
digits_clean (b ∷ l) h = rw (hex_clean b (left_holds (is_hex b) (all is_hex l) h)) (digits_clean l (right_holds (is_hex b) (all is_hex l) h))

letter_clean : (v : ℕ) → is_clean (letter_of v) ≡ true
unfolding all
letter_clean v = all-at is_clean alphabet v 0 refl refl

pub text_clean : (l : List ℕ) → all is_clean (text_of l) ≡ true
unfolding all text_of
text_clean [] = refl
text_clean (x ∷ []) = rw (letter_clean (x / 4), letter_clean (x % 4 * 16))
text_clean (x ∷ y ∷ []) = rw (letter_clean (x / 4), letter_clean (x % 4 * 16 + y / 16), letter_clean (y % 16 * 4))
text_clean (x ∷ y ∷ z ∷ r) =
    rw (letter_clean (x / 4), letter_clean (x % 4 * 16 + y / 16), letter_clean (y % 16 * 4 + z / 64), letter_clean (z % 64)) (text_clean r)

-- ---- CR LF

clean_return : all is_clean (13 ∷ []) ≡ true
unfolding all
clean_return = refl

feed_unclean : all is_clean crlf ≡ false
unfolding all
feed_unclean = refl

pub clean_ends : (t : List ℕ) → all is_clean t ≡ true → EndsFirst (ends_with crlf) (t ++ crlf)
unfolding ends_with
clean_ends t c = record { there = there; earlier = λ n y. by n y (same crlf (drop (length (take n (t ++ crlf)) - 2) (take n (t ++ crlf)))) refl }
  where
    there : same crlf (drop (length (t ++ crlf) - 2) (t ++ crlf)) ≡ true
    there =
        let e : length t ≡ length (t ++ crlf) - 2 = omega (arith, length-append t crlf) in
        rw (drop_at t crlf (length (t ++ crlf) - 2) e) (same_self crlf)

    -- all but the last byte
    most : List ℕ
    most = t ++ (13 ∷ [])

    clean_part : (n : ℕ) → n < length (t ++ crlf) → all is_clean (take n (t ++ crlf)) ≡ true
    clean_part n y =
        let e : t ++ crlf ≡ most ++ (10 ∷ []) = sym (append_assoc t (13 ∷ []) (10 ∷ [])) in
        let m : n ≤ length most = omega (arith, length-append t (13 ∷ []), length-append t crlf) in
        rw (e, take-append-le n most (10 ∷ []) m) (all_take is_clean n most (all_both is_clean t (13 ∷ []) c clean_return))

    by : (n : ℕ) → n < length (t ++ crlf) → (x : Bool) → same crlf (drop (length (take n (t ++ crlf)) - 2) (take n (t ++ crlf))) ≡ x → x ≡ false
    by n y true e =
        let k : crlf ≡ drop (length (take n (t ++ crlf)) - 2) (take n (t ++ crlf)) = same_equal crlf _ e in
        let z : all is_clean crlf ≡ true = rw k (all_drop is_clean (length (take n (t ++ crlf)) - 2) (take n (t ++ crlf)) (clean_part n y)) in
        sym z ∙ feed_unclean
    by n y false e = refl
