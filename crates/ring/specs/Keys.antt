-- The key ring as the code holds it, and the ring that it stands for (crate stream, Ring; paper 01, "The head").
-- Assumes nothing.
use Rattle.std.specs.Prelude.{List, [], ◌∷◌, ◌++◌, map, ℕ, ◌+◌, min, ltb, length, take, set, replicate, Option as Maybe, Some, None}
use Rattle.std.proofs.Math.Option.{Option, none, some}
use Rattle.octets.specs.Choice.{pick}
use Rattle.stream.specs.Limits.{ring_limit}
use Rattle.stream.specs.Ring.{Trusted, Ring}
use Rattle.stream.specs.Terms.{Terms}
use Rattle.ring.specs.declared.KeyRecord.{KeyRecord}
use Rattle.ring.specs.declared.KeyRing.{KeyRing}

-- "a 32-byte key, first and last second trusted"
abbrev pub trusted_of : KeyRecord → Trusted
trusted_of k = record { key = k.key; first = k.first; last = k.last }

-- "a lent table of 0 to 16 records": the first `count` of them, and all 16 where the count is higher
unfoldable pub ring_of : KeyRing → Ring
ring_of r = map trusted_of (take (min r.count ring_limit) r.records)

-- what a feed is lent beside the buffers fixes the caller's terms
abbrev pub terms_of : KeyRing → List ℕ → Terms
terms_of r uri = record { ring = ring_of r; uri = uri }

-- the number of the record found, which is counted from 0
abbrev pub found_of : Maybe ℕ → Option ℕ
found_of (Some i) = some i
found_of None = none

-- ---- rings made record by record

-- one record more, after the others; a full ring stays as it is
unfoldable pub ring_with : Ring → Trusted → Ring
ring_with ring t = pick (ltb (length ring) ring_limit) (ring ++ (t ∷ [])) ring

-- the same of the code's ring, with the room past its records
unfoldable pub keys_with : KeyRing → KeyRecord → KeyRing
keys_with r k = pick (ltb r.count ring_limit) (record { count = r.count + 1; records = set r.records r.count k }) r

-- no record, and zeros in all the room
abbrev pub no_record : KeyRecord
no_record = record { key = replicate 32 0; first = 0; last = 0 }

unfoldable pub no_keys : KeyRing
no_keys = record { count = 0; records = replicate ring_limit no_record }
