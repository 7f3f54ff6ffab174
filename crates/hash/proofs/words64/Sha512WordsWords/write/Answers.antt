-- The eight bytes of a word.
use Rattle.std.proofs.Common.{◌∙◌}
use Rattle.hash.proofs.ByteLaws.{high_first}
use Rattle.hash.proofs.words64.Sha512WordsWords.write.Goals as goal

pub returns-then-out-eq8 : goal.returns-then-out-eq8
returns-then-out-eq8 c _ = c.copy_from_slice.ensures.after ∙ c.to_be_bytes.ensures ∙ high_first 8 c.args.x
