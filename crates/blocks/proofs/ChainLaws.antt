-- The length of a link of the chain. Assumes nothing.
use mathlib.Core.List.{List, ◌++◌}
use mathlib.Core.Path.{◌≡◌}
use Prim.Native.Nat.{ℕ}
use lib.ListN.{length}
use Rattle.hash.proofs.DigestLaws.{length_sha512}
use Rattle.stream.specs.Blocks.{chained}

pub length_chained : (before block : List ℕ) → length (chained before block) ≡ 64
unfolding chained
length_chained before block = length_sha512 (before ++ block)
