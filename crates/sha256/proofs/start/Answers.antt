-- The definition as it stands.
use Rattle.std.proofs.Common.{refl}
use Rattle.sha256.specs.Midstate.{start}
use Rattle.sha256.proofs.start.Goals as goal

pub returns : goal.returns
unfolding start
returns c = refl
