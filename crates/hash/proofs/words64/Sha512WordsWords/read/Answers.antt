-- The number of eight bytes.
use Rattle.hash.proofs.ByteLaws.{number_eight}
use Rattle.hash.proofs.words64.Sha512WordsWords.read.Goals as goal

pub returns : goal.returns
returns c whole = rw (c.from_be_bytes.ensures, c.copy_from_slice.ensures.after, number_eight c.args.bytes.now whole)
