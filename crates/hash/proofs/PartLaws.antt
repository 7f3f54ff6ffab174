-- A message m in parts: the hash value after its whole blocks and the bytes after them are all that is to be kept when b comes.
-- Assumes nothing.
use Rattle.std.proofs.Common.{◌≡◌, ℕ, ◌+◌, ◌-◌, ◌*◌, ◌/◌, ◌%◌, ◌<◌, ◌≤◌, List, ◌∷◌, ◌++◌, length, take, drop, replicate, sym, ap, ◌∙◌, ap₂, append_assoc, add-mul, div-mul-le_self, arith, length-append, length-drop, take-append-drop, length-take-le, take_all, drop-drop, drop_at}
use native.Mathlib.Nat.{add-mul-mod_self_right, div-add-mod'}
use Rattle.hash.specs.Sha2.{Variant, block_size, big_endian, zeros, blocks, left, hashed, unparsed, digest, finished}
use Rattle.hash.specs.Parts.{last_blocks, last_hashed}
use Rattle.hash.proofs.LastLaws.{hashed_front, blocks_split, hashed_split, finished_add, finished_all}

-- the whole blocks of a list
abbrev front : Variant → List ℕ → List ℕ
front v m = take (blocks v m * block_size v) m

module _ (v : Variant) (h : 0 < v.bytes) (m : List ℕ) where
  cut : front v m ++ left v m ≡ m
  cut = take-append-drop (blocks v m * block_size v) m

  long_front : length (front v m) ≡ blocks v m * block_size v
  long_front = length-take-le (blocks v m * block_size v) m (div-mul-le_self (length m) (block_size v))

  -- the bytes after the whole blocks, by how many there are
  pub left_is : (k n : ℕ) → n ≡ block_size v → k ≡ length m - length m % n → take (length m - k) (drop k m) ≡ left v m
  left_is k n e f =
      let w : length m / n * n + length m % n ≡ length m = div-add-mod' (length m) n in
      let i : k ≡ length m / n * n = omega (arith, w) in
      take_all (length m - k) (drop k m) (omega (arith, length-drop k m)) ∙ ap (λ (j : ℕ). drop j m) (i ∙ ap (λ (j : ℕ). length m / j * j) e)

  hashed_blocks : (s : List ℕ) → hashed v (blocks v m) (front v m) s ≡ hashed v (blocks v m) m s
  hashed_blocks s =
      let l : blocks v m * block_size v ≤ length (front v m) = omega (arith, long_front) in
      sym (hashed_front v (blocks v m) (front v m) (left v m) s l) ∙ ap (λ (x : List ℕ). hashed v (blocks v m) x s) cut

  pub finished_rest : (n : ℕ) (s : List ℕ) → finished v n (left v m) (hashed v (blocks v m) m s) ≡ finished v n m s
  finished_rest n s =
      ap (finished v n (left v m)) (sym (hashed_blocks s))
      ∙ sym (finished_add v n (blocks v m) (front v m) (left v m) s h long_front)
      ∙ ap (λ (x : List ℕ). finished v n x s) cut

  -- the last blocks, where the whole blocks before them are hashed already
  pub last_left : (s : List ℕ) (high low : ℕ) → last_hashed v (last_blocks v (left v m) high low) (hashed v (blocks v m) m s) ≡ last_hashed v (last_blocks v m high low) s
  unfolding last_blocks
  last_left s high low =
      let n = block_size v in
      let e : length m ≡ length (left v m) + blocks v m * n = omega (arith, ap length cut, length-append (front v m) (left v m), long_front) in
      let z : zeros v (length (left v m)) ≡ zeros v (length m) = ap (λ (i : ℕ). (30 * v.bytes - 1 - i) % n) (sym (ap (λ (i : ℕ). i % n) e ∙ add-mul-mod_self_right (length (left v m)) (blocks v m) n)) in
      let q = last_blocks v (left v m) high low in
      let a : front v m ++ q ≡ last_blocks v m high low =
      sym (append_assoc (front v m) (left v m) _) ∙ ap₂ (λ (p : List ℕ) (i : ℕ). p ++ (128 ∷ (replicate i 0 ++ (big_endian v.bytes high ++ big_endian v.bytes low)))) cut z in
      ap (last_hashed v q) (sym (hashed_blocks s)) ∙ ap (unparsed v) (sym (hashed_split v (blocks v m) (front v m) q s h long_front)) ∙ ap (λ (l : List ℕ). last_hashed v l s) a

  pub finished_left : finished v (length m) (left v m) (hashed v (blocks v m) m v.initial) ≡ digest v m
  finished_left = finished_rest (length m) v.initial ∙ finished_all v m

  module _ (b : List ℕ) where
    joined : m ++ b ≡ front v m ++ (left v m ++ b)
    joined = ap (λ (x : List ℕ). x ++ b) (sym cut) ∙ append_assoc (front v m) (left v m) b

    pub hashed_more : (s : List ℕ) → hashed v (blocks v (m ++ b)) (m ++ b) s ≡ hashed v (blocks v (left v m ++ b)) (left v m ++ b) (hashed v (blocks v m) m s)
    hashed_more s =
        let q = left v m ++ b in
        ap (λ (x : List ℕ). hashed v (blocks v x) x s) joined
        ∙ hashed_split v (blocks v m) (front v m) q s h long_front
        ∙ ap (hashed v (blocks v q) q) (hashed_blocks s)

    pub left_more : left v (m ++ b) ≡ left v (left v m ++ b)
    left_more =
        let q = left v m ++ b in
        let w = blocks v m in
        let n = block_size v in
        ap (left v) joined
        ∙ ap (λ (i : ℕ). drop (i * n) (front v m ++ q)) (blocks_split v w (front v m) q h long_front)
        ∙ ap (λ (i : ℕ). drop i (front v m ++ q)) (add-mul w (blocks v q) n)
        ∙ sym (drop-drop (blocks v q * n) (w * n) (front v m ++ q))
        ∙ ap (drop (blocks v q * n)) (drop_at (front v m) q (w * n) long_front)
