-- The key ring as a lent table (paper 01, "The head"): "a lent table of 0 to 16 records". Assumes nothing.
use Rattle.std.specs.Prelude.{◌&&◌, List, [], ◌∷◌, map, ℕ, zero, suc, ◌+◌, min, leb, ltb, length}
use Rattle.octets.specs.Choice.{pick}
use Rattle.ring.specs.Keys.{trusted_of, keys_with, no_record}
use Rattle.ring.specs.declared.KeyRecord.{KeyRecord}
use Rattle.ring.specs.declared.KeyRing.{KeyRing}
use Rattle.stream.specs.Limits.{ring_limit}
use Rattle.stream.specs.Terms.{Terms}
use Rattle.state.specs.Configuration.{Configuration}
use Rattle.calls.specs.Response.{Response, unchanged, fits, is_reading, recalled}
use Rattle.reader.specs.Feed.{taken_from}

-- ---- a feed

-- the caller's terms, by the records as they are lent
abbrev pub lent_terms : List KeyRecord → List ℕ → Terms
lent_terms records uri = record { ring = map trusted_of records; uri = uri }

-- 2 where a buffer is short or "a lent ring has over 16 records"; then 1; else the piece is taken on these terms
unfoldable pub lent_feed_of : List KeyRecord → List ℕ → Configuration → List ℕ → Response
lent_feed_of records uri d piece =
    pick (fits d && leb (length records) ring_limit)
    (pick (is_reading d.reader.phase) (taken_from (lent_terms records uri) (recalled d) piece) (unchanged 1 d))
    (unchanged 2 d)

-- ---- the ring by value

-- all records that a ring may have, and one more
abbrev pub looked : ℕ → ℕ
looked n = min n (ring_limit + 1)

-- so many places: the records from the front, and zeros in the room after them
unfoldable pub placed : ℕ → List KeyRecord → List KeyRecord
placed zero ks = []
placed (suc n) [] = no_record ∷ placed n []
placed (suc n) (k ∷ ks) = k ∷ placed n ks

-- the ring of the records; with over 16 its count is over the limit too
unfoldable pub keys_of : List KeyRecord → KeyRing
keys_of ks = record { count = looked (length ks); records = placed ring_limit ks }

-- the ring with one record more, or its count over the limit
unfoldable pub with_next : KeyRing → KeyRecord → KeyRing
with_next r k = pick (ltb r.count ring_limit) (keys_with r k) (record { count = ring_limit + 1; records = r.records })
