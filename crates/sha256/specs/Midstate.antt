-- What is kept of a message while its bytes come in parts: the hash value after its whole blocks, the bytes after them, and how many bytes
-- came. Assumes nothing.
use Rattle.std.specs.Prelude.{◌≡◌, ℕ, ◌+◌, ◌-◌, ◌%◌, ◌^◌, List, [], ◌∷◌, ◌++◌, length, take, replicate}
use Rattle.hash.specs.Sha2.{hashed, blocks, left, finished}
use Rattle.sha256.specs.Sha256.{variant, initial_words}
use Rattle.sha256.specs.declared.Midstate.{Midstate}

-- The bytes that wait for their block to be whole. Those of `rest` after them are not read.
abbrev pub pending : Midstate → List ℕ
pending h = take (h.count % 64) h.rest

-- Fewer bytes than a block as an array that holds them: zeros fill it up.
abbrev pub filled : List ℕ → List ℕ
filled p = p ++ replicate (64 - length p) 0

-- After no byte.
unfoldable pub start : Midstate
start = record { words = initial_words; rest = replicate 64 0; count = 0 }

-- After some bytes more. The count is kept modulo 2 ^ 64: 5.1.1 writes 64 bits of the length, and 64 divides 2 ^ 64.
unfoldable pub added : Midstate → List ℕ → Midstate
added h bytes =
    let p = pending h ++ bytes in
    record { words = hashed variant (blocks variant p) p h.words; rest = filled (left variant p); count = (h.count + length bytes) % 2 ^ 64 }

-- The hash of all bytes that came.
unfoldable pub summed : Midstate → List ℕ
summed h = finished variant h.count (pending h) h.words

-- The parts of a message, one after the other.
unfoldable pub fed : Midstate → List (List ℕ) → Midstate
fed h [] = h
fed h (b ∷ parts) = fed (added h b) parts

-- What is kept of the message m, and that h is this.
unfoldable pub midstate : List ℕ → Midstate
midstate m = record { words = hashed variant (blocks variant m) m initial_words; rest = filled (left variant m); count = length m % 2 ^ 64 }

abbrev pub Holds : Midstate → List ℕ → Type 0
Holds h m = h ≡ midstate m
