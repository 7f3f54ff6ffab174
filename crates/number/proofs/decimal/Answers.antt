-- By the digits of base 10 in front. Assumes nothing.
use mathlib.Core.Path.{◌∙◌}
use Rattle.number.proofs.Forms.{decimal_exactly}
use Rattle.number.proofs.Readers.{decimal_fits, decimal_is}
use Rattle.number.proofs.decimal.Goals as goal

pub front-requires : goal.front-requires
front-requires c = rw c.most_digits.ensures (decimal_fits _ _ _)

pub returns : goal.returns
returns c =
    let e = c.whole.ensures ∙ decimal_is _ _ _ _ c.most_digits.ensures c.front.ensures in
    record { answers = e; exactly = decimal_exactly _ _ e }
