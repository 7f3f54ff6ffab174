-- The blocks of a message in parts, and its last blocks with the padding.
-- Assumes nothing.
use Rattle.std.proofs.Common.{◌≡◌, ℕ, zero, suc, ◌+◌, ◌-◌, ◌*◌, ◌/◌, ◌%◌, ◌^◌, ◌<◌, ◌≤◌, List, [], ◌∷◌, ◌++◌, length, take, drop, set, replicate, sym, refl, ap, ◌∙◌, ap₂, append_assoc, suc-mul, add_comm, suc-add, zero-add, zero-mul, arith, lit<, length-append, length-drop, take-append-drop, length-take-le, drop-drop, take_at, drop_at}
use native.Mathlib.Nat.{add-mul-div_right, div-eq_of_lt}
use lib.ListN.{length-replicate, replicate-append-replicate}
use lib.Seq.{take-append-le, drop-append-le, take-append_seam, set_at}
use Rattle.hash.specs.Sha2.{Variant, width, block_size, big_endian, zeros, padding, padded, number, parsed, compressed, hashed, blocks, unparsed, digest, finished}
use Rattle.hash.specs.Sha512.{variant, initial_words, sha512}
use Rattle.hash.specs.Parts.{written, last_blocks, last_hashed}
use Rattle.hash.proofs.ByteLaws.{long_bytes, bytes_split, bytes_mod, written_seam}

-- the first n blocks, and then k more
pub hashed_add : (v : Variant) (n k : ℕ) (p s : List ℕ) → hashed v (n + k) p s ≡ hashed v k (drop (n * block_size v) p) (hashed v n p s)
unfolding hashed
hashed_add v zero k p s = rw (zero-add k, zero-mul (block_size v))
hashed_add v (suc n) k p s =
    let b = block_size v in
    let e : drop (n * b) (drop b p) ≡ drop (suc n * b) p = rw (drop-drop (n * b) b p, suc-mul n b, add_comm (n * b) b) in
    ap (λ (i : ℕ). hashed v i p s) (suc-add n k)
    ∙ hashed_add v n k (drop b p) (compressed v (parsed v 16 p) s)
    ∙ ap (λ (l : List ℕ). hashed v k l (hashed v (suc n) p s)) e

parsed_front : (v : Variant) (k : ℕ) (p q : List ℕ) → k * v.bytes ≤ length p → parsed v k (p ++ q) ≡ parsed v k p
unfolding parsed
parsed_front v zero p q h = refl
parsed_front v (suc k) p q h =
    let b = v.bytes in
    let l : k * b + b ≤ length p = rw suc-mul at h in
    let m : b ≤ length p = omega arith in
    let n : k * b ≤ length (drop b p) = omega (arith, length-drop b p) in
    ap₂ (λ (x : ℕ) (y : List ℕ). x ∷ y) (ap (number 0) (take-append-le b p q m))
    (ap (parsed v k) (drop-append-le b p q m) ∙ parsed_front v k (drop b p) q n)

-- what stands after the blocks does not matter
pub hashed_front : (v : Variant) (n : ℕ) (p q s : List ℕ) → n * block_size v ≤ length p → hashed v n (p ++ q) s ≡ hashed v n p s
unfolding hashed
hashed_front v zero p q s h = refl
hashed_front v (suc n) p q s h =
    let b = block_size v in
    let l : n * b + b ≤ length p = rw suc-mul at h in
    let m : b ≤ length p = omega arith in
    let k : n * b ≤ length (drop b p) = omega (arith, length-drop b p) in
    ap₂ (λ (x : List ℕ) (y : List ℕ). hashed v n x (compressed v y s)) (drop-append-le b p q m) (parsed_front v 16 p q m)
    ∙ hashed_front v n (drop b p) q (compressed v (parsed v 16 p) s) k

-- blocks are counted in bytes
blocks_add : (v : Variant) (w n : ℕ) → 0 < v.bytes → (w * block_size v + n) / block_size v ≡ w + n / block_size v
blocks_add v w n h =
    ap (λ (k : ℕ). k / block_size v) (add_comm (w * block_size v) n)
    ∙ add-mul-div_right n w {z = block_size v} (omega arith) ∙ add_comm (n / block_size v) w

-- the first w blocks are all of p
pub blocks_split : (v : Variant) (w : ℕ) (p q : List ℕ) → 0 < v.bytes → length p ≡ w * block_size v → blocks v (p ++ q) ≡ w + blocks v q
blocks_split v w p q h k =
    ap (λ (i : ℕ). i / block_size v) (length-append p q ∙ ap (λ (i : ℕ). i + length q) k) ∙ blocks_add v w (length q) h

pub hashed_split : (v : Variant) (w : ℕ) (p q s : List ℕ) → 0 < v.bytes → length p ≡ w * block_size v → hashed v (blocks v (p ++ q)) (p ++ q) s ≡ hashed v (blocks v q) q (hashed v w p s)
hashed_split v w p q s h k =
    let b = block_size v in
    let f : w * b ≤ length p = omega arith in
    ap (λ (i : ℕ). hashed v i (p ++ q) s) (blocks_split v w p q h k)
    ∙ hashed_add v w (blocks v q) (p ++ q) s
    ∙ ap₂ (λ (x y : List ℕ). hashed v (blocks v q) x y) (drop_at p q (w * b) k) (hashed_front v w p q s f)

-- a block more, and the end
pub hashed_turn : (v : Variant) (p b q s r : List ℕ) → 0 < v.bytes → p ≡ b ++ q → length b ≡ block_size v → r ≡ compressed v (parsed v 16 b) s → hashed v (blocks v p) p s ≡ hashed v (blocks v q) q r
unfolding hashed
hashed_turn v p b q s r h e l f =
    ap (λ (x : List ℕ). hashed v (blocks v x) x s) e ∙ hashed_split v 1 b q s h (omega (arith, l)) ∙ ap (hashed v (blocks v q) q) (sym f)

pub hashed_end : (v : Variant) (p s : List ℕ) → length p < block_size v → hashed v (blocks v p) p s ≡ s
unfolding hashed
hashed_end v p s h = ap (λ (i : ℕ). hashed v i p s) (div-eq_of_lt h)

-- a message's first w blocks are hashed, and the rest is left
pub finished_add : (v : Variant) (n w : ℕ) (p d s : List ℕ) → 0 < v.bytes → length p ≡ w * block_size v → finished v n (p ++ d) s ≡ finished v n d (hashed v w p s)
unfolding finished
finished_add v n w p d s h k =
    ap (λ (x : List ℕ). unparsed v (hashed v (blocks v x) x s)) (append_assoc p d (padding v n))
    ∙ ap (unparsed v) (hashed_split v w p (d ++ padding v n) s h k)

-- with no block before, this is the hash
pub finished_all : (v : Variant) (m : List ℕ) → finished v (length m) m v.initial ≡ digest v m
unfolding finished digest padded
finished_all v m = refl

-- a length in bits, modulo two words, as two words
pub last_is_lem : (v : Variant) (n : ℕ) (rest : List ℕ) (high low : ℕ) → zeros v (length rest) ≡ zeros v n → high % 2 ^ width v ≡ 8 * n / 2 ^ width v % 2 ^ width v → low % 2 ^ width v ≡ 8 * n % 2 ^ width v → last_blocks v rest high low ≡ rest ++ padding v n
unfolding last_blocks padding
last_is_lem v n rest high low z e f =
    let b = v.bytes in
    let x : big_endian b high ≡ big_endian b (8 * n / 2 ^ (8 * b)) = sym (bytes_mod b high) ∙ ap (big_endian b) e ∙ bytes_mod b (8 * n / 2 ^ (8 * b)) in
    let y : big_endian b low ≡ big_endian b (8 * n) = sym (bytes_mod b low) ∙ ap (big_endian b) f ∙ bytes_mod b (8 * n) in
    let t : b + b ≡ 2 * b = omega arith in
    let a : big_endian b high ++ big_endian b low ≡ big_endian (2 * b) (8 * n) = ap₂ (λ (j k : List ℕ). j ++ k) x y ∙ sym (bytes_split b b (8 * n)) ∙ ap (λ (i : ℕ). big_endian i (8 * n)) t in
    ap₂ (λ (i : ℕ) (l : List ℕ). rest ++ (128 ∷ (replicate i 0 ++ l))) z a

pub long_last : (v : Variant) (rest : List ℕ) (high low : ℕ) → length (last_blocks v rest high low) ≡ length rest + 1 + zeros v (length rest) + 2 * v.bytes
unfolding last_blocks
long_last v rest high low = go v.bytes (zeros v (length rest))
  where
    go : (b n : ℕ) → length (rest ++ (128 ∷ (replicate n 0 ++ (big_endian b high ++ big_endian b low)))) ≡ length rest + 1 + n + 2 * b
    go b n =
        let z : List ℕ = replicate n 0 in
        let l = big_endian b high ++ big_endian b low in
        omega (arith, length-append rest (128 ∷ (z ++ l)), length-append z l, length-append (big_endian b high) (big_endian b low), long_bytes b high, long_bytes b low, length-replicate {A = ℕ} n 0)

-- bytes of 0
abbrev pub blank : ℕ → List ℕ
blank n = replicate n 0

drop_blank : (a n : ℕ) → a ≤ n → drop a (blank n) ≡ blank (n - a)
drop_blank a n h =
    let e : n ≡ a + (n - a) = omega arith in
    ap (λ (k : ℕ). drop a (blank k)) e ∙ ap (drop a) (sym (replicate-append-replicate a (n - a) 0)) ∙ drop_at (blank a) (blank (n - a)) a (length-replicate a 0)

-- a list written over the front of blank bytes, and another after it
pub written_blank : (size : ℕ) (a t : List ℕ) → length a ≤ size → t ≡ written (blank size) 0 a → t ≡ a ++ blank (size - length a)
written_blank size a t h e = e ∙ written_seam [] (blank size) a 0 refl ∙ ap (λ (l : List ℕ). a ++ l) (drop_blank (length a) size h)

pub both_written : (size at : ℕ) (a d t u : List ℕ) → length a ≡ at → at + length d ≤ size → t ≡ written (blank size) 0 a → u ≡ written t at d → u ≡ (a ++ d) ++ blank (size - length (a ++ d))
both_written size at a d t u h k e f =
    let n : size - length a - length d ≡ size - length (a ++ d) = omega (arith, length-append a d) in
    f ∙ ap (λ (l : List ℕ). written l at d) (written_blank size a t (omega arith) e)
    ∙ written_seam a (blank (size - length a)) d at h
    ∙ ap (λ (l : List ℕ). (a ++ d) ++ l) (drop_blank (length d) (size - length a) (omega arith) ∙ ap blank n)

-- a number of b bytes written where the blank bytes begin
put_blank : (b : ℕ) (p o : List ℕ) (at n x : ℕ) → length p ≡ at → o ≡ p ++ blank (b + n) → written o at (big_endian b x) ≡ (p ++ big_endian b x) ++ blank n
put_blank b p o at n x h e =
    let m : b + n - b ≡ n = omega arith in
    ap (λ (l : List ℕ). written l at (big_endian b x)) e
    ∙ written_seam p (blank (b + n)) (big_endian b x) at h
    ∙ ap (λ (l : List ℕ). (p ++ big_endian b x) ++ l) (ap (λ (i : ℕ). drop i (blank (b + n))) (long_bytes b x) ∙ drop_blank b (b + n) (omega arith) ∙ ap blank m)

-- the last bytes, the one bit, z blank bytes, and the two words of the length, each written over what was blank, with o blank bytes after them
laid_out : (b z o size n i j : ℕ) (rest t u w : List ℕ) (high low : ℕ)
    → n ≡ length rest → i ≡ n + 1 + z → j ≡ i + b → size ≡ j + b + o
    → t ≡ written (blank size) 0 rest → u ≡ written (set t n 128) i (big_endian b high) → w ≡ written u j (big_endian b low)
    → w ≡ (rest ++ (128 ∷ (blank z ++ (big_endian b high ++ big_endian b low)))) ++ blank o
laid_out b z o size n i j rest t u w high low e ei ej es f g k =
    let p : List ℕ = rest ++ (128 ∷ blank z) in
    let y = b + (b + o) in
    let lz : length (blank z) ≡ z = length-replicate z 0 in
    let lp : length p ≡ i = omega (arith, length-append rest (128 ∷ blank z)) in
    let a : size - length rest ≡ suc (z + y) = omega arith in
    let t1 : t ≡ rest ++ (0 ∷ blank (z + y)) = written_blank size rest t (omega arith) f ∙ ap (λ (k : ℕ). rest ++ blank k) a in
    let t2 : set t n 128 ≡ p ++ blank y =
    ap (λ (l : List ℕ). set l n 128) t1 ∙ set_at rest 0 (blank (z + y)) 128 n (sym e)
    ∙ ap (λ (l : List ℕ). rest ++ (128 ∷ l)) (sym (replicate-append-replicate z y 0))
    ∙ sym (append_assoc rest (128 ∷ blank z) (blank y)) in
    let u1 : u ≡ (p ++ big_endian b high) ++ blank (b + o) = g ∙ put_blank b p (set t n 128) i (b + o) high lp t2 in
    let lu : length (p ++ big_endian b high) ≡ j = omega (arith, length-append p (big_endian b high), long_bytes b high) in
    let w1 : w ≡ ((p ++ big_endian b high) ++ big_endian b low) ++ blank o = k ∙ put_blank b (p ++ big_endian b high) u j o low lu u1 in
    let x : (p ++ big_endian b high) ++ big_endian b low ≡ rest ++ (128 ∷ (blank z ++ (big_endian b high ++ big_endian b low))) = simp append_assoc in
    w1 ∙ ap (λ (l : List ℕ). l ++ blank o) x

pub laid : (v : Variant) (size : ℕ) (rest t u w : List ℕ) (high low n end i j : ℕ)
    → n ≡ length rest → end ≡ n + 1 + zeros v n + 2 * v.bytes → end ≤ size → i ≡ end - 2 * v.bytes → j ≡ end - v.bytes
    → t ≡ written (blank size) 0 rest → u ≡ written (set t n 128) i (big_endian v.bytes high) → w ≡ written u j (big_endian v.bytes low)
    → take (length (last_blocks v rest high low)) w ≡ last_blocks v rest high low
unfolding last_blocks
laid v size rest t u w high low n end i j e d r ei ej f g k =
    let q = last_blocks v rest high low in
    let d1 : end ≡ n + 1 + zeros v (length rest) + 2 * v.bytes = d ∙ ap (λ (i : ℕ). n + 1 + zeros v i + 2 * v.bytes) e in
    ap (take (length q)) (go v.bytes (zeros v (length rest)) d1 ei ej g k) ∙ take-append_seam q (blank (size - end))
  where
    go : (b z : ℕ) → end ≡ n + 1 + z + 2 * b → i ≡ end - 2 * b → j ≡ end - b → u ≡ written (set t n 128) i (big_endian b high) → w ≡ written u j (big_endian b low) → w ≡ (rest ++ (128 ∷ (blank z ++ (big_endian b high ++ big_endian b low)))) ++ blank (size - end)
    go b z d ei ej g k = laid_out b z (size - end) size n i j rest t u w high low e (omega arith) (omega arith) (omega arith) f g k

-- the hash of a message of n bytes, from its last blocks
pub closed : (v : Variant) (n : ℕ) (rest s : List ℕ) (high low : ℕ) → zeros v (length rest) ≡ zeros v n → high % 2 ^ width v ≡ 8 * n / 2 ^ width v % 2 ^ width v → low % 2 ^ width v ≡ 8 * n % 2 ^ width v → last_hashed v (last_blocks v rest high low) s ≡ finished v n rest s
unfolding finished
closed v n rest s high low z e f = ap (λ (l : List ℕ). last_hashed v l s) (last_is_lem v n rest high low z e f)

pub hash_all : (m : List ℕ) → finished variant (length m) m initial_words ≡ sha512 m
unfolding sha512
hash_all m = finished_all variant m

pub after_short : (a d t u : List ℕ) → length a ≡ 64 → length d < 64 → t ≡ written (blank 128) 0 a → u ≡ written t 64 d → finished variant (length (take (64 + length d) u)) (take (64 + length d) u) initial_words ≡ sha512 (a ++ d)
after_short a d t u h k e f =
    let l : length (a ++ d) ≡ 64 + length d = omega (arith, length-append a d) in
    let g : take (64 + length d) u ≡ a ++ d = ap (take (64 + length d)) (both_written 128 64 a d t u h (omega arith) e f) ∙ take_at (a ++ d) _ (64 + length d) l in
    ap (λ (x : List ℕ). finished variant (length x) x initial_words) g ∙ hash_all (a ++ d)

pub after_long : (a m t u s : List ℕ) → length a ≡ 64 → 64 ≤ length m → t ≡ written (blank 128) 0 a → u ≡ written t 64 (take 64 m) → length u ≡ 128 → s ≡ hashed variant (blocks variant u) u initial_words → finished variant (128 + length (drop 64 m)) (drop 64 m) s ≡ sha512 (a ++ m)
after_long a m t u s h k e f lu g =
    let d = take 64 m in
    let b = a ++ d in
    let ld : length d ≡ 64 = length-take-le 64 m k in
    let l : length b ≡ 1 * 128 = omega (arith, length-append a d) in
    let v : s ≡ hashed variant 1 b initial_words = g ∙ ap (λ (i : ℕ). hashed variant (i / 128) u initial_words) lu ∙ ap (λ (x : List ℕ). hashed variant 1 x initial_words) (both_written 128 64 a d t u h (omega arith) e f) ∙ hashed_front variant 1 b _ initial_words (omega arith) in
    let w : b ++ drop 64 m ≡ a ++ m = append_assoc a d (drop 64 m) ∙ ap (λ (x : List ℕ). a ++ x) (take-append-drop 64 m) in
    let n : 128 + length (drop 64 m) ≡ length (a ++ m) = omega (arith, ap length w, length-append b (drop 64 m)) in
    ap₂ (λ (i : ℕ) (x : List ℕ). finished variant i (drop 64 m) x) n v ∙ sym (finished_add variant (length (a ++ m)) 1 b (drop 64 m) initial_words (lit< tt) l) ∙ ap (λ (x : List ℕ). finished variant (length (a ++ m)) x initial_words) w ∙ hash_all (a ++ m)
