-- Numbers as bytes, the highest first: how long they are, which byte stands where, that two halves join, and how loops read and write them.
-- Assumes nothing.
use Rattle.std.proofs.Common.{◌≡◌, ℕ, zero, suc, ◌+◌, ◌*◌, ◌/◌, ◌%◌, ◌^◌, ◌<◌, ◌≤◌, List, [], ◌∷◌, ◌++◌, length, get_or, take, drop, set, sym, refl, ap, ◌∙◌, ap₂, append_assoc, append-nil, add-zero, add-suc, suc-mul, add_comm, pow-suc, pow-add, zero-mul, div-one, add-one, arith, length-append, drop_of_length-le, length-take-le, take_all, drop-cons, take-suc, drop-drop, shr-shr}
use Rattle.std.specs.Int.{w32, w64, byte_at, bytes_high_first, from_be_bytes}
use lib.Pow.{field, mod-mod-pow}
use lib.Seq.{take-append_seam, drop-append-add, set_at, append_snoc}
use Rattle.hash.specs.Sha2.{Variant, big_endian, number, parsed, unparsed}
use Rattle.hash.specs.Parts.{written}

pub long_bytes : (k n : ℕ) → length (big_endian k n) ≡ k
unfolding big_endian
long_bytes zero n = refl
long_bytes (suc k) n = length-append (big_endian k (n / 256)) _ ∙ (rw (long_bytes k (n / 256)) (add-one k))

-- the bytes of a number in two parts
pub bytes_split : (j k n : ℕ) → big_endian (j + k) n ≡ big_endian j (n / 2 ^ (8 * k)) ++ big_endian k n
unfolding big_endian
bytes_split j zero n = rw (add-zero j, div-one n) (sym (append-nil (big_endian j n)))
bytes_split j (suc k) n =
    let e : 8 + 8 * k ≡ 8 * suc k = omega arith in
    ap (λ (i : ℕ). big_endian i n) (add-suc j k)
    ∙ ap (λ (l : List ℕ). l ++ (n % 256 ∷ [])) (bytes_split j k (n / 256))
    ∙ append_assoc (big_endian j (n / 256 / 2 ^ (8 * k))) (big_endian k (n / 256)) (n % 256 ∷ [])
    ∙ ap (λ (x : ℕ). big_endian j x ++ big_endian (suc k) n) (shr-shr n 8 (8 * k) ∙ ap (λ (i : ℕ). n / 2 ^ i) e)

-- k bytes write no more of a number than they hold
pub bytes_mod : (k n : ℕ) → big_endian k (n % 2 ^ (8 * k)) ≡ big_endian k n
unfolding big_endian
bytes_mod zero n = refl
bytes_mod (suc k) n =
    let e : 8 * suc k ≡ 8 * k + 8 = omega arith in
    ap (λ (i : ℕ). big_endian (suc k) (n % 2 ^ i)) e
    ∙ ap₂ (λ (x y : ℕ). big_endian k x ++ (y ∷ [])) (field n (8 * k) 8) (mod-mod-pow n (8 * k) 8)
    ∙ ap (λ (l : List ℕ). l ++ (n % 256 ∷ [])) (bytes_mod k (n / 256))

-- std's bytes of a number, the highest first
pub high_first : (k n : ℕ) → bytes_high_first k n ≡ big_endian k n
unfolding big_endian
high_first zero n = refl
high_first (suc k) n =
    let e : suc k ≡ 1 + k = omega arith in
    ap₂ (λ (x : ℕ) (l : List ℕ). x ∷ l) (place k) (high_first k n) ∙ sym (ap (λ (i : ℕ). big_endian i n) e ∙ bytes_split 1 k n)
  where
    bits : (k : ℕ) → 256 ^ k ≡ 2 ^ (8 * k)
    bits zero = refl
    bits (suc k) =
        let e : 8 * k + 8 ≡ 8 * suc k = omega arith in
        pow-suc 256 k ∙ ap (λ (x : ℕ). x * 256) (bits k) ∙ sym (pow-add 2 (8 * k) 8) ∙ ap (λ (i : ℕ). 2 ^ i) e

    place : (k : ℕ) → byte_at k n ≡ n / 2 ^ (8 * k) % 256
    place zero = rw div-one
    place (suc k) = ap (λ (x : ℕ). n / x % 256) (bits (suc k))

-- one byte more of a number, at the end
number_more : (n : ℕ) (p : List ℕ) (i : ℕ) → i < length p → number n (take (i + 1) p) ≡ number n (take i p) * 256 + get_or p i 0
unfolding number
number_more n p i h = rw (add-one i, take-suc p i 0) (go n (take i p))
  where
    go : (n : ℕ) (q : List ℕ) → number n (q ++ (get_or p i 0 ∷ [])) ≡ number n q * 256 + get_or p i 0
    go n [] = refl
    go n (b ∷ q) = go (n * 256 + b) q

-- std's number of four bytes, and of eight
pub number_four : (p : List ℕ) → length p ≡ 4 → from_be_bytes w32 p ≡ number 0 p
unfolding number
number_four p h =
    let none : number 0 (take 0 p) ≡ 0 = refl in
    omega (arith, number_more 0 p 0 (omega arith), number_more 0 p 1 (omega arith), number_more 0 p 2 (omega arith), number_more 0 p 3 (omega arith), ap (number 0) (take_all 4 p (omega arith)))

pub number_eight : (p : List ℕ) → length p ≡ 8 → from_be_bytes w64 p ≡ number 0 p
unfolding number
number_eight p h =
    let none : number 0 (take 0 p) ≡ 0 = refl in
    omega (arith, number_more 0 p 0 (omega arith), number_more 0 p 1 (omega arith), number_more 0 p 2 (omega arith), number_more 0 p 3 (omega arith), number_more 0 p 4 (omega arith), number_more 0 p 5 (omega arith), number_more 0 p 6 (omega arith), number_more 0 p 7 (omega arith), ap (number 0) (take_all 8 p (omega arith)))

pub long_parsed : (v : Variant) (k : ℕ) (p : List ℕ) → length (parsed v k p) ≡ k
unfolding parsed
long_parsed v zero p = refl
long_parsed v (suc k) p = ap suc (long_parsed v k (drop v.bytes p))

-- one word more, at the end
pub parsed_more : (v : Variant) (k : ℕ) (p : List ℕ) → parsed v (suc k) p ≡ parsed v k p ++ (number 0 (take v.bytes (drop (k * v.bytes) p)) ∷ [])
unfolding parsed
parsed_more v zero p = rw (zero-mul v.bytes)
parsed_more v (suc k) p =
    ap (λ (l : List ℕ). number 0 (take v.bytes p) ∷ l) (parsed_more v k (drop v.bytes p))
    ∙ (rw (drop-drop (k * v.bytes) v.bytes p, suc-mul k v.bytes, add_comm (k * v.bytes) v.bytes))

pub unparsed_more : (v : Variant) (s : List ℕ) (x : ℕ) → unparsed v (s ++ (x ∷ [])) ≡ unparsed v s ++ big_endian v.bytes x
unfolding unparsed
unparsed_more v [] x = append-nil (big_endian v.bytes x)
unparsed_more v (y ∷ s) x =
    ap (λ (l : List ℕ). big_endian v.bytes y ++ l) (unparsed_more v s x) ∙ sym (append_assoc (big_endian v.bytes y) (unparsed v s) (big_endian v.bytes x))

pub long_unparsed : (v : Variant) (s : List ℕ) → length (unparsed v s) ≡ length s * v.bytes
unfolding unparsed
long_unparsed v [] = sym (zero-mul v.bytes)
long_unparsed v (x ∷ s) =
    length-append (big_endian v.bytes x) (unparsed v s)
    ∙ (rw (long_bytes v.bytes x, long_unparsed v s, suc-mul (length s) v.bytes) (add_comm v.bytes (length s * v.bytes)))

-- a loop that fills d from the front: one element more at the seam
pub fill_turn : (p d : List ℕ) (o x : ℕ) → length p ≡ o → o < length d → set (p ++ drop o d) o x ≡ (p ++ (x ∷ [])) ++ drop (o + 1) d
fill_turn p d o x e h = rw (add-one, drop-cons d o 0, append_snoc) (set_at p (get_or d o 0) (drop (suc o) d) x o e)

-- what is written at the seam of two lists
pub written_seam : (p q x : List ℕ) (at : ℕ) → length p ≡ at → written (p ++ q) at x ≡ (p ++ x) ++ drop (length x) q
written_seam p q x at h = rw (← h, take-append_seam p q, drop-append-add p q (length x))

-- a loop that writes the words s over d: a turn, and the end
pub unparse_turn : (v : Variant) (s d o r : List ℕ) (i at x : ℕ) → o ≡ unparsed v (take i s) ++ drop (i * v.bytes) d → i < length s → at ≡ i * v.bytes → x ≡ get_or s i 0 → r ≡ written o at (big_endian v.bytes x) → r ≡ unparsed v (take (i + 1) s) ++ drop ((i + 1) * v.bytes) d
unparse_turn v s d o r i at x e h ea ex f =
    let b = v.bytes in
    let y = big_endian b x in
    let u = unparsed v (take i s) in
    let l : length u ≡ at = long_unparsed v (take i s) ∙ ap (λ (n : ℕ). n * b) (length-take-le i s (omega arith)) ∙ sym ea in
    let m : u ++ y ≡ unparsed v (take (i + 1) s) = rw (ex, add-one i, take-suc s i 0) (sym (unparsed_more v (take i s) (get_or s i 0))) in
    let n : drop (length y) (drop (i * b) d) ≡ drop ((i + 1) * b) d = rw (long_bytes b x, drop-drop b (i * b) d, add-one i, suc-mul i b) in
    f ∙ ap (λ (l : List ℕ). written l at y) e ∙ written_seam u (drop (i * b) d) y at l ∙ ap₂ (λ (y z : List ℕ). y ++ z) m n

pub unparse_end : (v : Variant) (s d o : List ℕ) (i n : ℕ) → i ≡ n → length s ≡ n → length d ≡ n * v.bytes → o ≡ unparsed v (take i s) ++ drop (i * v.bytes) d → o ≡ unparsed v s
unparse_end v s d o i n e h k f =
    let l : length d ≤ i * v.bytes = rw e (omega (arith, k)) in
    f ∙ (rw (take_all i s (omega arith), drop_of_length-le d {i = i * v.bytes} l) (append-nil _))
