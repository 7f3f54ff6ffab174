-- The key and the signature, by their texts, and `created`, by what it writes. Assumes nothing.
use lib.Dec.{lit≤}
use Rattle.number.proofs.Forms.{decimal_found, decimal_missed}
use Rattle.params.proofs.HeadSigLaws.{key_bad, created_bad, signature_bad, sig0_good}
use Rattle.params.proofs.Options.{picked, unpicked}
use Rattle.params.proofs.sig0.judge.Goals as goal

pub returns-in_err-key_bytes : goal.returns-in_err-key_bytes
returns-in_err-key_bytes c = rw c.from_residual.ensures (key_bad _ _ _ _ _ (rw c.bytes_of.ensures at (unpicked _ _ c.in_err-key_bytes.ensures.read)))

pub returns-in_err-signature_bytes : goal.returns-in_err-signature_bytes
returns-in_err-signature_bytes c =
    rw c.from_residual-in_err-signature_bytes.ensures (signature_bad _ _ _ _ _ (rw c.bytes_of-2.ensures at (unpicked _ _ c.in_err-signature_bytes.ensures.read)))

pub returns-in_err-_time : goal.returns-in_err-_time
returns-in_err-_time c =
    rw c.from_residual-in_err-_time.ensures
    (created_bad _ _ _ _ _ (rw c.bytes_of-3.ensures at (decimal_missed 12 _ (lit≤ tt) c.decimal.ensures.answers c.in_err-_time.ensures.value)))

pub returns : goal.returns
returns c =
    let y = picked _ _ c.in_ok-key_bytes.ensures.read in
    let z = picked _ _ c.in_ok-signature_bytes.ensures.read in
    let d = decimal_found 12 _ (lit≤ tt) c.decimal.ensures.answers _ c.in_ok-_time.ensures.value in
    rw (y.1, z.1, c.bytes_of.ensures, c.bytes_of-2.ensures)
    (sig0_good c.args.value.now _ _ c.args.created c.args.names c.requires.1 c.requires.2 (rw c.bytes_of.ensures at y.0) (rw c.bytes_of-3.ensures at d.0) (rw c.bytes_of-2.ensures at z.0))
