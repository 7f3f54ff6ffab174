-- The words read so far stand in front of those of the entry.
use Rattle.std.proofs.Common.{◌≡◌, ◌≤◌, ◌++◌, length, drop, map}
use Rattle.hash.specs.Sha2.{block_size, parsed}
use Rattle.hash.proofs.block.load.Given as goal

abbrev pub invariant-loop-i : goal.invariant-loop-i
invariant-loop-i g l =
    let f = g.S.Words.value in
    (map f l.w ≡ parsed g.S.Words.variant l.i l.block ++ drop l.i (map f l.initial.w))
    × (length l.w ≡ g.row.ROUNDS) × (16 ≤ g.row.ROUNDS) × (length l.block ≡ block_size g.S.Words.variant)
