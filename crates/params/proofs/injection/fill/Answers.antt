-- The bytes passed stand in front of what is left of the zeros. Assumes nothing.
use mathlib.Core.List.{List, ◌++◌}
use mathlib.Core.Path.{ap}
use Prim.Native.Nat.{ℕ}
use lib.ListN.{length}
use Rattle.std.proofs.lemmas.List.{drop-replicate}
use Rattle.params.specs.Injection.{padded}
use Rattle.params.proofs.injection.fill.Goals as goal

pub returns : goal.returns
unfolding padded
returns c = rw c.copy_from_slice.ensures.after (ap (λ (zeros : List ℕ). c.args.id.now ++ zeros) (drop-replicate (length c.args.id.now) 64 0))
