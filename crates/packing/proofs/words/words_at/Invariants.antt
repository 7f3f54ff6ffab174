-- Each word so far is what the number at its place leaves. Assumes nothing.
use mathlib.Core.Path.{◌≡◌}
use Prim.Native.Nat.{ℕ, ◌+◌, ◌*◌, ◌%◌, ◌<◌}
use lib.ListN.{length, get_or}
use Rattle.packing.specs.Parts.{number_at}
use Rattle.packing.proofs.words.words_at.Given as goal

abbrev pub invariant-loop-i : goal.invariant-loop-i
invariant-loop-i l = (length l.word-items ≡ 8) × ((k : ℕ) → k < l.i → get_or l.word-items k 0 ≡ number_at l.from (l.at + 8 * k) % 4294967296)
