-- A hash is bytes: how many, and that each number of it is below 256.
-- Assumes nothing.
use Rattle.std.proofs.Common.{◌≡◌, ℕ, zero, suc, ◌*◌, ◌/◌, ◌%◌, ◌<◌, List, [], ◌∷◌, ◌++◌, length, get_or, drop, refl, ap, ◌∙◌, arith}
use Rattle.hash.specs.Sha2.{Variant, block_size, big_endian, padded, parsed, sums, compressed, hashed, unparsed, digest}
use Rattle.hash.specs.Sha512.{variant, sha512}
use Rattle.hash.proofs.ByteLaws.{long_unparsed}

-- each element is a byte (past the end `get_or` gives 0)
abbrev pub AreBytes : List ℕ → Type 0
AreBytes l = (i : ℕ) → get_or l i 0 < 256

bytes_append : (l r : List ℕ) → AreBytes l → AreBytes r → AreBytes (l ++ r)
bytes_append [] r h k i = k i
bytes_append (x ∷ l) r h k zero = h 0
bytes_append (x ∷ l) r h k (suc i) = bytes_append l r (λ j. h (suc j)) k i

bytes_one : (n : ℕ) → AreBytes (n % 256 ∷ [])
bytes_one n zero = omega arith
bytes_one n (suc i) = omega arith

bytes_of : (k n : ℕ) → AreBytes (big_endian k n)
unfolding big_endian
bytes_of zero n i = omega arith
bytes_of (suc k) n i = bytes_append (big_endian k (n / 256)) (n % 256 ∷ []) (bytes_of k (n / 256)) (bytes_one n) i

bytes_unparsed : (v : Variant) (s : List ℕ) → AreBytes (unparsed v s)
unfolding unparsed
bytes_unparsed v [] i = omega arith
bytes_unparsed v (x ∷ s) i = bytes_append (big_endian v.bytes x) (unparsed v s) (bytes_of v.bytes x) (bytes_unparsed v s) i

-- a hash value has eight words
pub long_hashed : (v : Variant) (n : ℕ) (p s : List ℕ) → length s ≡ 8 → length (hashed v n p s) ≡ 8
unfolding hashed compressed sums
long_hashed v zero p s h = h
long_hashed v (suc n) p s h = long_hashed v n (drop (block_size v) p) (compressed v (parsed v 16 p) s) refl

pub long_digest : (v : Variant) (m : List ℕ) → length v.initial ≡ 8 → length (digest v m) ≡ 8 * v.bytes
unfolding digest
long_digest v m h =
    let p = padded v m in
    let n = length p / block_size v in
    long_unparsed v (hashed v n p v.initial) ∙ ap (λ (i : ℕ). i * v.bytes) (long_hashed v n p v.initial h)

pub bytes_digest : (v : Variant) (m : List ℕ) → AreBytes (digest v m)
unfolding digest
bytes_digest v m =
    let p = padded v m in
    bytes_unparsed v (hashed v (length p / block_size v) p v.initial)

pub length_sha512 : (m : List ℕ) → length (sha512 m) ≡ 64
unfolding sha512
length_sha512 m = long_digest variant m refl

pub bytes_sha512 : (m : List ℕ) → AreBytes (sha512 m)
unfolding sha512
bytes_sha512 m = bytes_digest variant m
