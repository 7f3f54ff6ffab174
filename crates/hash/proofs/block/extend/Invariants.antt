-- The words made so far stand in front of those of the entry.
use Rattle.std.proofs.Common.{◌≡◌, ◌+◌, ◌≤◌, ◌++◌, length, take, drop, map}
use Rattle.hash.specs.Sha2.{schedule}
use Rattle.hash.proofs.block.extend.Given as goal

abbrev pub invariant-loop-t : goal.invariant-loop-t
invariant-loop-t g l =
    let d = map g.S.Words.value l.initial.w in
    (map g.S.Words.value l.w ≡ schedule g.S.Words.variant l.t (take 16 d) ++ drop (l.t + 16) d)
    × (length l.w ≡ g.row.ROUNDS) × (length l.initial.w ≡ g.row.ROUNDS) × (16 ≤ g.row.ROUNDS)
