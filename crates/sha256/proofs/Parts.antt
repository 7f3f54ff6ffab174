-- A message in parts: what is kept after them is the same however they are cut, and so is the hash.
-- Assumes nothing.
use Rattle.std.proofs.Common.{◌≡◌, ℕ, ◌+◌, ◌-◌, ◌*◌, ◌%◌, ◌^◌, ◌≤◌, List, [], ◌∷◌, ◌++◌, length, replicate, sym, refl, ap, ◌∙◌, ap₂, append_assoc, append-nil, zero-add, arith, lit<, length-append, length-take-le, take_at}
use mathlib.Core.List.{flatten}
use lib.ListN.{length-replicate}
use Rattle.hash.specs.Sha2.{big_endian, zeros, padding, hashed, blocks, left, unparsed, finished}
use Rattle.hash.proofs.ByteLaws.{bytes_mod}
use Rattle.hash.proofs.DigestLaws.{AreBytes, long_hashed, long_digest, bytes_digest}
use Rattle.hash.proofs.PartLaws.{hashed_more, left_more, finished_left}
use Rattle.sha256.specs.Sha256.{variant, initial_words, sha256}
use Rattle.sha256.specs.Midstate.{pending, filled, start, added, summed, fed, midstate, Holds}
use Rattle.sha256.specs.declared.Midstate.{Midstate}
use Rattle.sha256.proofs.StepLaws.{long_left}

-- what is kept after the bytes p, which begin a block, from the hash value s and the count n before them
abbrev kept : List ℕ → List ℕ → ℕ → Midstate
kept p s n = record { words = hashed variant (blocks variant p) p s; rest = filled (left variant p); count = n % 2 ^ 64 }

pub long_filled : (p : List ℕ) → length p ≤ 64 → length (filled p) ≡ 64
long_filled p h = omega (arith, length-append p (replicate (64 - length p) 0), length-replicate {A = ℕ} (64 - length p) 0)

-- the arrays' lengths stay
pub long_words : (h : Midstate) (b : List ℕ) → length h.words ≡ 8 → length (added h b).words ≡ 8
unfolding added
long_words h b l = long_hashed variant (blocks variant (pending h ++ b)) (pending h ++ b) h.words l

pub long_rest : (h : Midstate) (b : List ℕ) → length (added h b).rest ≡ 64
unfolding added
long_rest h b = long_filled (left variant (pending h ++ b)) (omega (arith, long_left (pending h ++ b)))

-- from any midstate: the bytes that wait after the bytes a
module _ (h : Midstate) (a : List ℕ) (l : length h.rest ≡ 64) where
  pub pending_added : pending (added h a) ≡ left variant (pending h ++ a)
  unfolding added
  pending_added =
      let p = pending h ++ a in
      let m : length (left variant p) ≡ (h.count + length a) % 2 ^ 64 % 64 = omega (arith, long_left p, length-append (pending h) a, length-take-le (h.count % 64) h.rest (omega arith)) in
      take_at (left variant p) (replicate (64 - length (left variant p)) 0) ((h.count + length a) % 2 ^ 64 % 64) m

  -- two parts are as one
  pub added_added : (b : List ℕ) → added (added h a) b ≡ added h (a ++ b)
  unfolding added
  added_added b =
      let p = pending h ++ a in
      let s = h.words in
      let n = h.count in
      let s1 = hashed variant (blocks variant p) p s in
      let n1 = (n + length a) % 2 ^ 64 + length b in
      let m : n1 % 2 ^ 64 ≡ (n + length (a ++ b)) % 2 ^ 64 = omega (arith, length-append a b) in
      ap (λ (q : List ℕ). kept (q ++ b) s1 n1) pending_added
      ∙ same (hashed_more variant (lit< tt) p b s) (left_more variant (lit< tt) p b) m
      ∙ ap (λ (q : List ℕ). kept q s (n + length (a ++ b))) (append_assoc (pending h) a b)
    where
      same : {w x r t : List ℕ} {i j : ℕ} → x ≡ w → t ≡ r → i ≡ j → ◌≡◌ {A = Midstate} (record { words = w; rest = filled r; count = i }) (record { words = x; rest = filled t; count = j })
      same e f g = rw (e, f, g)

long_start : length start.rest ≡ 64
unfolding start
long_start = refl

-- what is kept of a message is what its bytes make of the start
midstate_is : (m : List ℕ) → midstate m ≡ added start m
unfolding midstate added start
midstate_is m = ap (kept m initial_words) (sym (zero-add (length m)))

pub start_holds : Holds start []
unfolding start midstate hashed
start_holds = refl

pub added_holds : {h : Midstate} (m b : List ℕ) → Holds h m → Holds (added h b) (m ++ b)
added_holds m b e =
    ap (λ (x : Midstate). added x b) (e ∙ midstate_is m) ∙ added_added start m long_start b ∙ sym (midstate_is (m ++ b))

-- 64 bits of the length are written, and 64 divides 2 ^ 64
padding_mod : (n : ℕ) → padding variant (n % 2 ^ 64) ≡ padding variant n
unfolding padding
padding_mod n =
    let z : zeros variant (n % 2 ^ 64) ≡ zeros variant n = omega arith in
    let e : 8 * (n % 2 ^ 64) % 2 ^ 64 ≡ 8 * n % 2 ^ 64 = omega arith in
    ap₂ (λ (i : ℕ) (l : List ℕ). 128 ∷ (replicate i 0 ++ l)) z (sym (bytes_mod 8 (8 * (n % 2 ^ 64))) ∙ ap (big_endian 8) e ∙ bytes_mod 8 (8 * n))

finished_mod : (n : ℕ) (p s : List ℕ) → finished variant (n % 2 ^ 64) p s ≡ finished variant n p s
unfolding finished
finished_mod n p s = ap (λ (l : List ℕ). unparsed variant (hashed variant (blocks variant (p ++ l)) (p ++ l) s)) (padding_mod n)

waits : (m : List ℕ) → pending (midstate m) ≡ left variant m
unfolding start
waits m = ap pending (midstate_is m) ∙ pending_added start m long_start

summed_midstate : (m : List ℕ) → summed (midstate m) ≡ sha256 m
unfolding summed midstate sha256
summed_midstate m =
    ap (λ (p : List ℕ). finished variant (length m % 2 ^ 64) p (hashed variant (blocks variant m) m initial_words)) (waits m)
    ∙ finished_mod (length m) (left variant m) (hashed variant (blocks variant m) m initial_words) ∙ finished_left variant (lit< tt) m

pub summed_is : {h : Midstate} (m : List ℕ) → Holds h m → summed h ≡ sha256 m
summed_is m e = ap summed e ∙ summed_midstate m

fed_holds : {h : Midstate} (m : List ℕ) (parts : List (List ℕ)) → Holds h m → Holds (fed h parts) (m ++ flatten parts)
unfolding fed flatten
fed_holds m [] e = e ∙ ap midstate (sym (append-nil m))
fed_holds {h = h} m (b ∷ parts) e = fed_holds {h = added h b} (m ++ b) parts (added_holds m b e) ∙ ap midstate (append_assoc m b (flatten parts))

-- however a message is cut, its hash is that of all bytes
pub hash_of_parts : (parts : List (List ℕ)) → summed (fed start parts) ≡ sha256 (flatten parts)
hash_of_parts parts = summed_is (flatten parts) (fed_holds [] parts start_holds)

pub length_sha256 : (m : List ℕ) → length (sha256 m) ≡ 32
unfolding sha256
length_sha256 m = long_digest variant m refl

pub bytes_sha256 : (m : List ℕ) → AreBytes (sha256 m)
unfolding sha256
bytes_sha256 m = bytes_digest variant m
