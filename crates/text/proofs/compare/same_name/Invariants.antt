-- Names of one length are the same where they are so far and what is left of each is. Assumes nothing.
use mathlib.Core.Bool.{◌&&◌}
use mathlib.Core.Path.{◌≡◌}
use lib.ListN.{length, drop}
use Rattle.stream.specs.Bytes.{same_name}
use Rattle.text.proofs.compare.same_name.Given as goal

abbrev pub invariant-loop-x : goal.invariant-loop-x
invariant-loop-x l = let i = length l.yielded in same_name l.a l.b ≡ l.same && same_name (drop i l.a) (drop i l.b)
