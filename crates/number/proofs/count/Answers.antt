-- By the digits of base 10 in front, and those of them that write no more than the limit. Assumes nothing.
use mathlib.Core.Path.{◌∙◌}
use Rattle.number.proofs.Forms.{count_exactly}
use Rattle.number.proofs.Readers.{decimal_fits, count_is}
use Rattle.number.proofs.count.Goals as goal

pub front-d-requires : goal.front-d-requires
front-d-requires c = rw c.most_digits.ensures (decimal_fits _ _ _)

pub returns : goal.returns
returns c =
    let e = c.whole.ensures ∙ count_is _ _ _ _ _ _ c.most_digits.ensures c.front-d.ensures c.fit-count.ensures in
    record { answers = e; exactly = count_exactly _ _ _ e }
