-- By the test, and the table as it stands.
use Rattle.std.proofs.Common.{rules}
use Rattle.sha256.specs.Sha256.{round_words}
use Rattle.sha256.proofs.add.Goals as goal

pub pass-requires : goal.pass-requires
unfolding round_words
pass-requires c = search rules
