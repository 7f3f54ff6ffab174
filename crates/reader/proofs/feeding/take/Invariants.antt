-- A turn is a skipped run and one byte, and the run over the whole piece is the run over the rest from where the turn leaves the
-- reader. Assumes nothing.
use mathlib.Core.Path.{◌≡◌}
use Prim.Native.Nat.{◌-◌, ◌≤◌}
use lib.ListN.{length, drop}
use Rattle.ring.specs.Keys.{terms_of}
use Rattle.state.specs.Configuration.{configuration}
use Rattle.state.specs.Run.{run_of}
use Rattle.reader.specs.Feed.{push_byte}
use Rattle.reader.proofs.feeding.take.Given as goal

abbrev pub invariant-loop-taken : goal.invariant-loop-taken
invariant-loop-taken l = (l.taken ≤ length l.piece) × (length l.head ≡ length l.initial.head) × (length l.block ≡ length l.initial.block) × (length l.question ≡ length l.initial.question) × (run_of (push_byte (terms_of l.ring l.uri)) (configuration l.initial.state l.initial.head l.initial.block l.initial.question) 0 l.piece ≡ run_of (push_byte (terms_of l.ring l.uri)) (configuration l.state l.head l.block l.question) l.taken (drop l.taken l.piece))

abbrev pub decreases-loop-taken : goal.decreases-loop-taken
decreases-loop-taken l = length l.piece - l.taken
