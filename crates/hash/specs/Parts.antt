-- Parts of the hash that the code does by themselves, as contracts name them: those of private functions, and of `compress_all` and `close`. Assumes nothing.
use Rattle.std.specs.Prelude.{ℕ, ◌+◌, List, ◌∷◌, ◌++◌, length, take, drop, replicate, slice_index}
use Rattle.hash.specs.Sha2.{Variant, big_endian, zeros, round, unparsed, hashed, blocks}

-- The list d with the list s written over it from the place `at` on.
abbrev pub written : List ℕ → ℕ → List ℕ → List ℕ
written d at s = take at d ++ s ++ drop (at + length s) d

-- Round i over the schedule w.
abbrev pub round_at : Variant → ℕ → List ℕ → List ℕ → List ℕ
round_at v i w s = round v (slice_index v.constants i) (slice_index w i) s

-- A message's last bytes, fewer than a block, with the padding, where two words write the message's length in bits.
unfoldable pub last_blocks : Variant → List ℕ → ℕ → ℕ → List ℕ
last_blocks v rest high low =
    rest ++ (128 ∷ (replicate (zeros v (length rest)) 0 ++ (big_endian v.bytes high ++ big_endian v.bytes low)))

-- The hash whose last blocks are l, from the hash value s before them.
abbrev pub last_hashed : Variant → List ℕ → List ℕ → List ℕ
last_hashed v l s = unparsed v (hashed v (blocks v l) l s)

-- The hash function v with the round words k in place of its own.
abbrev pub by_table : Variant → List ℕ → Variant
by_table v k = record v { constants = k }
