-- The number of four bytes.
use Rattle.hash.proofs.ByteLaws.{number_four}
use Rattle.sha256.proofs.words32.Sha256WordsWords.read.Goals as goal

pub returns : goal.returns
returns c whole = rw (c.from_be_bytes.ensures, c.copy_from_slice.ensures.after, number_four c.args.bytes.now whole)
