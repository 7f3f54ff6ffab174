-- A key ring as bytes: its records one after the other. Assumes nothing.
use Rattle.std.specs.Prelude.{List, [], ◌∷◌, ◌++◌, ℕ, ◌+◌, ◌*◌, ◌/◌, ◌%◌, eqb, length}
use Rattle.octets.specs.Choice.{pick}
use Rattle.ring.specs.declared.KeyRecord.{KeyRecord}
use Rattle.ring.specs.declared.KeyRing.{KeyRing}
use Rattle.stream.specs.Limits.{ring_limit}
use Rattle.stream.specs.Ring.{Trusted, Ring}
use Rattle.packing.specs.Parts.{little_endian, up_to, part, number_at}

-- a key of 32 bytes, the first and the last second
abbrev pub record_size : ℕ
record_size = 48

unfoldable pub record_at : List ℕ → ℕ → KeyRecord
record_at l i =
    record {
      key = part l (record_size * i) 32;
      first = number_at l (record_size * i + 32);
      last = number_at l (record_size * i + 40);
    }

-- how many records n bytes have; no whole number of them counts as one more than a ring may have
unfoldable pub count_of : ℕ → ℕ
count_of n = pick (eqb (n % record_size) 0) (n / record_size) (ring_limit + 1)

-- all the room of a ring is read; past its records it says nothing
unfoldable pub keys_in : List ℕ → KeyRing
keys_in l = record { count = count_of (length l); records = up_to (record_at l) ring_limit }

-- ---- a ring written down

unfoldable pub key_bytes : Trusted → List ℕ
key_bytes k = k.key ++ little_endian 8 k.first ++ little_endian 8 k.last

unfoldable pub ring_bytes : Ring → List ℕ
ring_bytes [] = []
ring_bytes (k ∷ ks) = key_bytes k ++ ring_bytes ks
