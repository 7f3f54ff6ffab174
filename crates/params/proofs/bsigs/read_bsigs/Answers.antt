-- The two runs, one after the other. Assumes nothing.
use mathlib.Core.Path.{sym, ap, ◌∙◌}
use Rattle.classes.specs.Class.{class_of}
use Rattle.stream.specs.Signatures.{bsigs_scan}
use Rattle.params.specs.BlockSigs.{bsigs_of}
use Rattle.params.proofs.BsigsLaws.{size_parts, bsigs_unlike}
use Rattle.params.proofs.PartLaws.{first_none, second_none, second_over, both_read}
use Rattle.params.proofs.bsigs.read_bsigs.Goals as goal

pub returns-in_err-key : goal.returns-in_err-key
unfolding class_of bsigs_scan
returns-in_err-key c = c.from_residual.ensures ∙ bsigs_unlike _ (first_none _ size_parts _ c.in_err-key.ensures)

pub returns-in_err-size : goal.returns-in_err-size
unfolding class_of bsigs_scan
returns-in_err-size c = c.from_residual-in_err-size.ensures ∙ bsigs_unlike _ (second_none _ size_parts _ c.in_ok-key.ensures c.in_err-size.ensures)

pub returns-then-size-value : goal.returns-then-size-value
unfolding class_of bsigs_scan
returns-then-size-value c = bsigs_unlike _ (second_over _ size_parts _ c.in_ok-key.ensures c.in_ok-size.ensures c.if-size-value.true)

pub returns : goal.returns
unfolding class_of bsigs_scan
returns c =
    c.judge.ensures ∙ rw (c.bytes_of.ensures, c.bytes_of-2.ensures) (ap bsigs_of (sym (both_read _ size_parts _ c.in_ok-key.ensures c.in_ok-size.ensures c.if-size-value.false)))
