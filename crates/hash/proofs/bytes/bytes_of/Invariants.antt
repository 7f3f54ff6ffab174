-- The bytes of the words so far stand in front of those of the fresh array.
use Rattle.std.proofs.Common.{◌≡◌, ◌*◌, ◌++◌, length, take, drop, map}
use Rattle.hash.specs.Sha2.{unparsed}
use Rattle.hash.proofs.bytes.bytes_of.Given as goal

abbrev pub invariant-loop-i : goal.invariant-loop-i
invariant-loop-i g l =
    let b = g.S.Words.variant.bytes in
    (l.out ≡ unparsed g.S.Words.variant (take l.i (map g.S.Words.value l.word-items)) ++ drop (l.i * b) l.initial.out)
    × (length l.initial.out ≡ 8 * b) × (length l.out ≡ 8 * b) × (length l.word-items ≡ 8)
