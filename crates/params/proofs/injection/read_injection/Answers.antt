-- The two runs, one after the other. Assumes nothing.
use mathlib.Core.Path.{sym, ap, ◌∙◌}
use Rattle.classes.specs.Class.{class_of}
use Rattle.stream.specs.Signatures.{injection_scan}
use Rattle.params.specs.Injection.{injection_of}
use Rattle.params.proofs.InjectionLaws.{time_parts, injection_unlike}
use Rattle.params.proofs.PartLaws.{first_none, second_none, second_over, both_read}
use Rattle.params.proofs.injection.read_injection.Goals as goal

pub returns-in_err-id : goal.returns-in_err-id
unfolding class_of injection_scan
returns-in_err-id c = c.from_residual.ensures ∙ injection_unlike _ (first_none _ time_parts _ c.in_err-id.ensures)

pub returns-in_err-time : goal.returns-in_err-time
unfolding class_of injection_scan
returns-in_err-time c = c.from_residual-in_err-time.ensures ∙ injection_unlike _ (second_none _ time_parts _ c.in_ok-id.ensures c.in_err-time.ensures)

pub returns-then-time-value : goal.returns-then-time-value
unfolding class_of injection_scan
returns-then-time-value c = injection_unlike _ (second_over _ time_parts _ c.in_ok-id.ensures c.in_ok-time.ensures c.if-time-value.true)

pub returns : goal.returns
unfolding class_of injection_scan
returns c =
    c.judge.ensures ∙ rw (c.bytes_of.ensures, c.bytes_of-2.ensures) (ap injection_of (sym (both_read _ time_parts _ c.in_ok-id.ensures c.in_ok-time.ensures c.if-time-value.false)))
