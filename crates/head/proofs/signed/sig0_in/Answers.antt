-- The places in the value, moved to where the value starts. Assumes nothing.
use Rattle.head.proofs.PlaceLaws.{sig0_found, sig0_missing}
use Rattle.head.proofs.signed.sig0_in.Goals as goal

pub returns-in_err-v : goal.returns-in_err-v
returns-in_err-v c = rw c.from_residual.ensures (sig0_missing c.args.text.now c.in_err-v.ensures.content)

pub returns : goal.returns
returns c =
    let v = c.in_ok-v.ensures in
    sig0_found _ _ _ v.ordered v.within v.content c.part.ensures c.in_ok-s.ensures
