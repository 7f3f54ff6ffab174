-- Each word so far is what the number at its place leaves. Assumes nothing.
use Prim.Native.Nat.{◌+◌, ◌*◌, ◌%◌}
use native.Mathlib.Omega.{arith}
use Rattle.packing.specs.Parts.{number_at}
use Rattle.packing.proofs.PartLaws.{filled}
use Rattle.packing.proofs.words.words_at.Goals as goal

pub returns : goal.returns
returns c = filled (λ k. number_at c.args.from.now (c.args.at + 8 * k) % 4294967296) 8 0 c.loop-i.word-items c.loop-i.invariant.0 (λ k h. c.loop-i.invariant.1 k (omega arith))
