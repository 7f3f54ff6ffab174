-- Each field by what it was read as. Assumes nothing.
use Rattle.head.proofs.signed.read_signed.Goals as goal

pub returns : goal.returns
returns c =
    record {
      injection = rw (c.read_injection-injection.ensures, c.value_of.ensures);
      bsigs = rw (c.read_bsigs-bsigs.ensures, c.value_of-2.ensures);
      sig0 = c.sig0_in-sig0.ensures;
      names = c.listed-names.ensures;
    }
