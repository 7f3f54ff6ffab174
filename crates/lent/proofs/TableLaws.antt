-- The ring by value of lent records: made record by record, and what a feed does with it. Assumes nothing.
use mathlib.Core.Path.{◌≡◌, refl, sym, ap, ◌∙◌}
use mathlib.Core.Bool.{Bool, true, false, ◌&&◌}
use mathlib.Core.List.{List, [], ◌∷◌, ◌++◌, map}
use Prim.Native.Nat.{ℕ, zero, suc, ◌+◌, ◌<◌, ◌≤◌, min}
use native.Mathlib.Nat.{not-suc-le-zero, le_of_suc-le-suc}
use native.Mathlib.Numerals.{add-one}
use native.Mathlib.Omega.{arith}
use borrow.Author.Tests.{ltb-true, ltb-false, leb-true, leb-false, le-ltb, le-leb, lt-leb}
use lib.Dec.{leb, ltb}
use lib.ListN.{length, set, take, get_or, replicate, length-append, length-take}
use lib.Seq.{take-suc, take_all}
use Rattle.octets.specs.Choice.{pick}
use Rattle.ring.specs.Keys.{trusted_of, ring_of, keys_with, no_record, no_keys}
use Rattle.ring.specs.declared.KeyRecord.{KeyRecord}
use Rattle.ring.specs.declared.KeyRing.{KeyRing}
use Rattle.stream.specs.Limits.{ring_limit}
use Rattle.state.specs.Configuration.{Configuration}
use Rattle.calls.specs.Response.{fits}
use Rattle.reader.specs.Feed.{feed_of}
use Rattle.lent.specs.Table.{lent_feed_of, looked, placed, keys_of, with_next}

-- ---- the places

placed_none : (n : ℕ) → placed n [] ≡ replicate n no_record
unfolding placed
placed_none zero = refl
placed_none (suc n) = ap (λ (ks : List KeyRecord). no_record ∷ ks) (placed_none n)

-- one record more where there is room, and where there is none
placed_more : (n : ℕ) (ks : List KeyRecord) (k : KeyRecord) → length ks < n → set (placed n ks) (length ks) k ≡ placed n (ks ++ k ∷ [])
unfolding placed
placed_more zero ks k h = absurd (not-suc-le-zero h)
placed_more (suc n) [] k h = refl
placed_more (suc n) (x ∷ ks) k h = ap (λ (l : List KeyRecord). x ∷ l) (placed_more n ks k (le_of_suc-le-suc h))

placed_full : (n : ℕ) (ks : List KeyRecord) (k : KeyRecord) → n ≤ length ks → placed n ks ≡ placed n (ks ++ k ∷ [])
unfolding placed
placed_full zero ks k h = refl
placed_full (suc n) [] k h = absurd (not-suc-le-zero h)
placed_full (suc n) (x ∷ ks) k h = ap (λ (l : List KeyRecord). x ∷ l) (placed_full n ks k (le_of_suc-le-suc h))

-- records past the places do not matter
placed_front : (n m : ℕ) (ks : List KeyRecord) → min n (length ks) ≤ m → placed n (take m ks) ≡ placed n ks
unfolding placed
placed_front zero m ks h = refl
placed_front (suc n) zero [] h = refl
placed_front (suc n) zero (k ∷ ks) h = absurd (omega (arith, h))
placed_front (suc n) (suc m) [] h = refl
placed_front (suc n) (suc m) (k ∷ ks) h = ap (λ (l : List KeyRecord). k ∷ l) (placed_front n m ks (omega (arith, h)))

-- the records themselves, where all have a place
placed_all : (n : ℕ) (ks : List KeyRecord) → length ks ≤ n → take (length ks) (placed n ks) ≡ ks
unfolding placed
placed_all n [] h = refl
placed_all zero (k ∷ ks) h = absurd (not-suc-le-zero h)
placed_all (suc n) (k ∷ ks) h = ap (λ (l : List KeyRecord). k ∷ l) (placed_all n ks (le_of_suc-le-suc h))

-- ---- the ring, record by record

ring_same : {a b : ℕ} {ks ls : List KeyRecord} → a ≡ b → ks ≡ ls → ◌≡◌ {A = KeyRing} (record { count = a; records = ks }) (record { count = b; records = ls })
ring_same e f = λ i. record { count = e i; records = f i }

pub keys_none : no_keys ≡ keys_of []
unfolding no_keys keys_of
keys_none = ring_same refl (sym (placed_none ring_limit))

length_more : (ks : List KeyRecord) (k : KeyRecord) → length (ks ++ k ∷ []) ≡ length ks + 1
length_more ks k = length-append ks (k ∷ [])

next_at : (ks : List KeyRecord) (k : KeyRecord) (b : Bool) → ltb (length ks) ring_limit ≡ b → with_next (keys_of ks) k ≡ keys_of (ks ++ k ∷ [])
unfolding with_next keys_of keys_with
next_at ks k true e =
    let l : length ks < ring_limit = ltb-true (length ks) ring_limit e in
    let n : looked (length ks) ≡ length ks = omega arith in
    let m : length ks + 1 ≡ looked (length (ks ++ k ∷ [])) = rw (length_more ks k) (omega arith) in
    rw (n, e) (ring_same m (placed_more ring_limit ks k l))
next_at ks k false e =
    let l : ring_limit ≤ length ks = ltb-false (length ks) ring_limit e in
    let m : ring_limit + 1 ≡ looked (length (ks ++ k ∷ [])) = rw (length_more ks k) (omega arith) in
    rw (le-ltb (looked (length ks)) ring_limit (omega arith)) (ring_same m (placed_full ring_limit ks k l))

keys_more : (ks : List KeyRecord) (k : KeyRecord) → with_next (keys_of ks) k ≡ keys_of (ks ++ k ∷ [])
keys_more ks k = next_at ks k (ltb (length ks) ring_limit) refl

-- a turn: of the first i records, and the one after them
pub keys_next : (ks : List KeyRecord) (i : ℕ) (d : KeyRecord) (r s : KeyRing) → i < length ks → r ≡ keys_of (take i ks) → s ≡ with_next r (get_or ks i d) → s ≡ keys_of (take (i + 1) ks)
keys_next ks i d r s h e f = f ∙ rw (e, add-one) (keys_more (take i ks) (get_or ks i d) ∙ ap keys_of (sym (take-suc ks i d h)))

-- the end: those that are looked at tell all
pub keys_looked : (ks : List KeyRecord) (n i : ℕ) (r : KeyRing) → n ≡ looked (length ks) → length (take n ks) ≤ i → r ≡ keys_of (take i (take n ks)) → r ≡ keys_of ks
unfolding keys_of
keys_looked ks n i r e h f =
    f ∙ rw (take_all i (take n ks) h, e) (ring_same (rw (length-take (looked (length ks)) ks) (omega arith)) (placed_front ring_limit (looked (length ks)) ks (omega arith)))

-- ---- a feed

pub ring_lent : (ks : List KeyRecord) → length ks ≤ ring_limit → ring_of (keys_of ks) ≡ map trusted_of ks
unfolding ring_of keys_of
ring_lent ks h = let m : min (looked (length ks)) ring_limit ≡ length ks = omega arith in rw (m, placed_all ring_limit ks h)

-- where too many are lent, nothing else is looked at
refused_both : {A : Type 0} (b : Bool) (x y z : A) → pick (b && false) x z ≡ pick (b && false) y z
refused_both true x y z = refl
refused_both false x y z = refl

-- the count tells whether there are too many
count_few : (ks : List KeyRecord) → length ks ≤ ring_limit → leb (keys_of ks).count ring_limit ≡ true
unfolding keys_of
count_few ks h = le-leb (looked (length ks)) ring_limit (omega arith)

count_over : (ks : List KeyRecord) → ring_limit < length ks → leb (keys_of ks).count ring_limit ≡ false
unfolding keys_of
count_over ks h = lt-leb (looked (length ks)) ring_limit (omega arith)

-- so it is within its limit just where the table is
pub count_fits : (ks : List KeyRecord) → leb (keys_of ks).count ring_limit ≡ leb (length ks) ring_limit
count_fits ks = by (leb (length ks) ring_limit) refl
  where
    by : (t : Bool) → leb (length ks) ring_limit ≡ t → leb (keys_of ks).count ring_limit ≡ leb (length ks) ring_limit
    by true e = count_few ks (leb-true (length ks) ring_limit e) ∙ sym e
    by false e = count_over ks (leb-false (length ks) ring_limit e) ∙ sym e

feed_at : (ks : List KeyRecord) (uri : List ℕ) (d : Configuration) (piece : List ℕ) (b : Bool) → leb (length ks) ring_limit ≡ b → feed_of (keys_of ks) uri d piece ≡ lent_feed_of ks uri d piece
unfolding feed_of lent_feed_of
feed_at ks uri d piece true e =
    let few = leb-true (length ks) ring_limit e in
    rw (e, count_few ks few, ring_lent ks few)
feed_at ks uri d piece false e = rw (e, count_over ks (leb-false (length ks) ring_limit e)) (refused_both (fits d) _ _ _)

-- the reader with the ring by value feeds as with the lent records
pub feed_lent : (ks : List KeyRecord) (uri : List ℕ) (d : Configuration) (piece : List ℕ) → feed_of (keys_of ks) uri d piece ≡ lent_feed_of ks uri d piece
feed_lent ks uri d piece = feed_at ks uri d piece (leb (length ks) ring_limit) refl
