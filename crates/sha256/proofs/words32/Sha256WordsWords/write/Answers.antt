-- The four bytes of a word.
use Rattle.std.proofs.Common.{◌∙◌}
use Rattle.hash.proofs.ByteLaws.{high_first}
use Rattle.sha256.proofs.words32.Sha256WordsWords.write.Goals as goal

pub returns-then-out-eq4 : goal.returns-then-out-eq4
returns-then-out-eq4 c _ = c.copy_from_slice.ensures.after ∙ c.to_be_bytes.ensures ∙ high_first 4 c.args.x
