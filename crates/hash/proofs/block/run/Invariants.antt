-- The working variables are those after as many rounds as are done.
use Rattle.std.proofs.Common.{◌≡◌, ◌*◌, ◌/◌, map}
use Rattle.hash.specs.Sha2.{rounds}
use Rattle.hash.specs.Parts.{by_table}
use Rattle.hash.proofs.block.run.Given as goal

abbrev pub invariant-loop-turn : goal.invariant-loop-turn
invariant-loop-turn g l =
    let f = g.S.Words.value in
    (map f l.s ≡ rounds (by_table g.S.Words.variant (map f l.words)) (l.turn * 4) (map f l.w) (map f l.initial.s)) × (l.turn-end ≡ g.row.ROUNDS / 4)
