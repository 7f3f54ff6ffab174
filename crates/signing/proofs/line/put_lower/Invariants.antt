-- The bytes that are written so far, in lower case, stand over those of the entry. Assumes nothing.
use mathlib.Core.Path.{◌≡◌}
use lib.ListN.{length}
use lib.Seq.{paste}
use Rattle.stream.specs.Bytes.{lowered}
use Rattle.signing.proofs.line.put_lower.Given as goal

abbrev pub invariant-loop-i : goal.invariant-loop-i
invariant-loop-i l = (length l.out ≡ length l.initial.out) × (l.out ≡ paste l.initial.out l.at (lowered l.bytes) l.i)
