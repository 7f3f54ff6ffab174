-- The code's ring and the ring that it stands for: their records, one more, and the bound of what is found. Assumes nothing.
use mathlib.Core.Path.{◌≡◌}
use mathlib.Core.List.{List, map, map-append}
use mathlib.Core.Option.{some}
use Prim.Native.Nat.{ℕ, suc, ◌+◌, ◌<◌, ◌≤◌, min}
use native.Mathlib.Omega.{arith}
use borrow.Author.Tests.{lt-ltb, le-ltb}
use lib.ListN.{length, set, take, length-map, length-take}
use lib.Seq.{take-suc-set}
use Rattle.stream.specs.Limits.{ring_limit}
use Rattle.stream.specs.Ring.{found}
use Rattle.ring.specs.declared.KeyRecord.{KeyRecord}
use Rattle.ring.specs.declared.KeyRing.{KeyRing}
use Rattle.ring.specs.Keys.{trusted_of, ring_of, ring_with}
use Rattle.ring.proofs.SearchLaws.{found_below}

-- how many records of the array count
abbrev held : KeyRing → ℕ
held r = min r.count ring_limit

-- ---- whatever the count and the array

ring_within : (r : KeyRing) → length (ring_of r) ≤ held r
unfolding ring_of
ring_within r = simp (length-map, length-take) (omega arith)

pub ring_small : (r : KeyRing) → length (ring_of r) ≤ ring_limit
ring_small r = omega (arith, ring_within r)

pub found_small : (r : KeyRing) (key : List ℕ) (time i : ℕ) → found key time (ring_of r) ≡ some i → i < ring_limit
found_small r key time i e = omega (arith, found_below key time (ring_of r) i e, ring_small r)

-- ---- where the array has all its room, as the code's has (Room)

module _ (r : KeyRing) (room : length r.records ≡ ring_limit) where
  pub ring_length : length (ring_of r) ≡ held r
  unfolding ring_of
  ring_length = simp (length-map, length-take) (omega arith)

  -- one more where there is no room
  pub with_full : (k : KeyRecord) → ring_limit ≤ r.count → ring_of r ≡ ring_with (ring_of r) (trusted_of k)
  unfolding ring_with
  with_full k h = rw (le-ltb (length (ring_of r)) ring_limit (omega (arith, ring_length)))

  ring_all : r.count < ring_limit → ring_of r ≡ map trusted_of (take r.count r.records)
  unfolding ring_of
  ring_all h = let m : held r ≡ r.count = omega arith in rw m

  -- one more where there is
  pub with_room : (k : KeyRecord) → r.count < ring_limit → ring_of (record { count = r.count + 1; records = set r.records r.count k }) ≡ ring_with (ring_of r) (trusted_of k)
  unfolding ring_of ring_with
  with_room k h =
      let m : min (r.count + 1) ring_limit ≡ suc r.count = omega arith in
      let l : r.count < length r.records = omega arith in
      rw (lt-ltb (length (ring_of r)) ring_limit (omega (arith, ring_length)), m, take-suc-set r.records r.count k, map-append, ring_all h)
