-- A key ring that is written down is read back. Assumes nothing.
use mathlib.Core.List.{List, [], ◌∷◌, ◌++◌, map, append_assoc, append-nil}
use mathlib.Core.Logic.{⊎_elim}
use mathlib.Core.Path.{◌≡◌, refl, sym, ap, ◌∙◌}
use Prim.Native.Nat.{ℕ, zero, suc, ◌+◌, ◌*◌, ◌/◌, ◌%◌, ◌^◌, ◌≤◌, ◌<◌, min}
use native.Mathlib.Nat.{eq-or-lt_of_le, le_of_suc-le-suc}
use native.Mathlib.Omega.{arith}
use borrow.Author.Tests.{eq-eqb}
use lib.ListN.{length, get_or, take, drop, length-append, length-map, get_or-map}
use lib.Seq.{take_all, take-append-le, drop-drop, drop_at, ext_get_or}
use Rattle.ring.specs.Keys.{trusted_of, ring_of}
use Rattle.ring.specs.declared.KeyRecord.{KeyRecord}
use Rattle.stream.specs.Limits.{ring_limit}
use Rattle.stream.specs.Ring.{Trusted, Ring}
use Rattle.packing.specs.Keys.{record_size, record_at, count_of, keys_in, key_bytes, ring_bytes}
use Rattle.packing.specs.Parts.{little_endian, up_to}
use Rattle.packing.proofs.PartLaws.{long_up_to, at_up_to, long_next, long_bytes, concat, At, past, part_there, number_there}

-- numbers and a key as a record in code has them
pub record SoundKey (k : Trusted) : Type 0 where
  pub key : length k.key ≡ 32
  pub first : k.first < 2 ^ 64
  pub last : k.last < 2 ^ 64

pub data SoundKeys : Ring → Type 0 where
  none : SoundKeys []
  more : {k : Trusted} {ks : Ring} → SoundKey k → SoundKeys ks → SoundKeys (k ∷ ks)

sound_at : {ks : Ring} → SoundKeys ks → (i : ℕ) (d : Trusted) → i < length ks → SoundKey (get_or ks i d)
sound_at none i d h = absurd (omega arith)
sound_at (more s ss) zero d h = s
sound_at (more s ss) (suc i) d h = sound_at ss i d (le_of_suc-le-suc h)

long_key : (k : Trusted) → SoundKey k → length (key_bytes k) ≡ record_size
unfolding key_bytes
long_key k s =
    long_next (k.key ++ little_endian 8 k.first) (little_endian 8 k.last) 40 8 48
    (long_next k.key (little_endian 8 k.first) 32 8 40 s.key (long_bytes 8 k.first) refl)
    (long_bytes 8 k.last) refl

long_ring : {ks : Ring} → SoundKeys ks → length (ring_bytes ks) ≡ record_size * length ks
unfolding ring_bytes
long_ring none = refl
long_ring (more {k} {ks} s ss) =
    length-append (key_bytes k) (ring_bytes ks) ∙ (rw (long_key k s, long_ring ss) (omega arith))

-- record i, and those after it
rest_at : {ks : Ring} → SoundKeys ks → (i : ℕ) (d : Trusted) → i < length ks → drop (record_size * i) (ring_bytes ks) ≡ key_bytes (get_or ks i d) ++ ring_bytes (drop (suc i) ks)
unfolding ring_bytes
rest_at none i d h = absurd (omega arith)
rest_at (more s ss) zero d h = refl
rest_at (more {k} {ks} s ss) (suc i) d h =
    let e : record_size * suc i ≡ record_size + record_size * i = omega arith in
    rw (e, ← drop-drop (record_size * i) record_size (key_bytes k ++ ring_bytes ks), drop_at (key_bytes k) (ring_bytes ks) record_size (long_key k s))
    (rest_at ss i d (le_of_suc-le-suc h))

-- ---- one record

module _ (k : Trusted) (s : SoundKey k) (whole rest : List ℕ) (i : ℕ) (e : drop (record_size * i) whole ≡ key_bytes k ++ rest) where
  parts : At whole (record_size * i) (k.key ∷ little_endian 8 k.first ∷ little_endian 8 k.last ∷ rest ∷ [])
  unfolding key_bytes concat
  parts = record { there = e ∙ (simp (append_assoc, append-nil)) }

  record_back : trusted_of (record_at whole i) ≡ k
  unfolding record_at
  record_back =
      let a = past parts 32 s.key in
      let b = past a 8 (long_bytes 8 k.first) in
      let f : record_size * i + 32 + 8 ≡ record_size * i + 40 = omega arith in
      rw (part_there parts 32 s.key, number_there k.first a s.first, rw f at (number_there k.last b s.last))

-- ---- all of them

take_up_to : {A : Type 0} (f : ℕ → A) (n m : ℕ) → n ≤ m → take n (up_to f m) ≡ up_to f n
unfolding up_to
take_up_to f n zero h = let e : n ≡ 0 = omega arith in rw e
take_up_to f n (suc m) h =
    ⊎_elim (λ e. take_all n (up_to f (suc m)) (omega (arith, long_up_to f (suc m))) ∙ ap (up_to f) (sym e))
    (λ l. take-append-le n (up_to f m) _ (omega (arith, long_up_to f m)) ∙ take_up_to f n m (le_of_suc-le-suc l))
    (eq-or-lt_of_le h)

abbrev pub no_key : KeyRecord
no_key = record { key = []; first = 0; last = 0 }

module _ (ks : Ring) (s : SoundKeys ks) where
  abbrev whole : List ℕ
  whole = ring_bytes ks

  records_back : map trusted_of (up_to (record_at whole) (length ks)) ≡ ks
  records_back =
      ext_get_or (trusted_of no_key) (map trusted_of (up_to (record_at whole) (length ks))) ks long
      (λ i h. at i (omega (arith, long)))
    where
      long : length (map trusted_of (up_to (record_at whole) (length ks))) ≡ length ks
      long = simp (length-map, long_up_to)

      at : (i : ℕ) → i < length ks → get_or (map trusted_of (up_to (record_at whole) (length ks))) i (trusted_of no_key) ≡ get_or ks i (trusted_of no_key)
      at i h =
          get_or-map trusted_of (up_to (record_at whole) (length ks)) i no_key
          ∙ ap trusted_of (at_up_to (record_at whole) (length ks) i no_key h)
          ∙ record_back (get_or ks i (trusted_of no_key)) (sound_at s i (trusted_of no_key) h) whole _ i (rest_at s i (trusted_of no_key) h)

  pub ring_back : length ks ≤ ring_limit → ring_of (keys_in whole) ≡ ks
  unfolding ring_of keys_in count_of
  ring_back h =
      let n : length whole % record_size ≡ 0 = omega (arith, long_ring s) in
      let c : length whole / record_size ≡ length ks = omega (arith, long_ring s) in
      let m : min (length ks) ring_limit ≡ length ks = omega arith in
      rw (eq-eqb _ _ n, c, m, take_up_to (record_at whole) (length ks) ring_limit h) records_back
