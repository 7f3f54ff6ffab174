-- By the digits of base 16 in front. Assumes nothing.
use mathlib.Core.Path.{◌∙◌}
use native.Mathlib.Omega.{arith}
use lib.Dec.{lit<, lit≤}
use Rattle.number.proofs.Forms.{hex_exactly}
use Rattle.number.proofs.Readers.{fits, hex_is}
use Rattle.number.proofs.hex.Goals as goal

pub front-requires : goal.front-requires
front-requires c = fits 16 16 _ (lit< tt) (lit≤ tt) (omega arith)

pub returns : goal.returns
returns c =
    let e = c.whole.ensures ∙ hex_is _ _ _ _ c.min.ensures c.front.ensures in
    record { answers = e; exactly = hex_exactly _ _ e }
