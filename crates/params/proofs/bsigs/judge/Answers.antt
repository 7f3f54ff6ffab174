-- The key, by its text, and the size, by what it writes. Assumes nothing.
use mathlib.Core.Path.{◌∙◌}
use lib.Dec.{lit≤}
use Rattle.number.proofs.Forms.{count_found, count_missed}
use Rattle.params.proofs.BsigsLaws.{key_bad, size_bad, bsigs_good}
use Rattle.params.proofs.Options.{picked, unpicked}
use Rattle.params.proofs.bsigs.judge.Goals as goal

pub returns-in_err-bytes : goal.returns-in_err-bytes
returns-in_err-bytes c = c.from_residual.ensures ∙ key_bad _ _ (unpicked _ _ c.in_err-bytes.ensures.read)

pub returns-in_err-n : goal.returns-in_err-n
returns-in_err-n c = c.from_residual-in_err-n.ensures ∙ size_bad _ _ (count_missed 5 65536 _ (lit≤ tt) c.count.ensures.answers c.in_err-n.ensures.value)

pub returns : goal.returns
returns c =
    let k = picked _ _ c.in_ok-bytes.ensures.read in
    let f = count_found 5 65536 _ (lit≤ tt) c.count.ensures.answers _ c.in_ok-n.ensures.value in
    rw (k.1, f.1) (bsigs_good _ _ k.0 f.0)
