-- The last bytes, the one bit and the length, each by what its call writes.
use Rattle.std.proofs.Common.{length, refl, rules}
use Rattle.hash.proofs.LastLaws.{laid}
use Rattle.hash.proofs.last.fill.Goals as goal

pub returns : goal.returns
returns g c =
    laid g.S.Words.variant 256 c.args.rest.now c.copy.new.to c.put_word.new.out c.put_word-2.new.out (g.S.Words.value c.args.high) (g.S.Words.value c.args.low) (length c.args.rest.now) c.padded-end.result _ _
    refl c.padded-end.ensures.long (search rules) (search rules) (search rules) c.copy.ensures c.put_word.ensures c.put_word-2.ensures
