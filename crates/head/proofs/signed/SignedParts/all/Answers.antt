-- Each by what is said of it. Assumes nothing.
use mathlib.Core.Path.{sym, ◌∙◌}
use Rattle.head.proofs.SignedLaws.{no_injection, no_bsigs, no_sig0, no_names, all_signed}
use Rattle.head.proofs.signed.SignedParts.all.Goals as goal

pub returns-in_err-injection : goal.returns-in_err-injection
returns-in_err-injection c = λ t fs s. rw c.from_residual.ensures (no_injection t fs (sym c.in_err-injection.was ∙ s.injection))

pub returns-in_err-bsigs : goal.returns-in_err-bsigs
returns-in_err-bsigs c = λ t fs s. rw c.from_residual-in_err-bsigs.ensures (no_bsigs t fs (sym c.in_ok-injection.was ∙ s.injection) (sym c.in_err-bsigs.was ∙ s.bsigs))

pub returns-in_err-sig0 : goal.returns-in_err-sig0
returns-in_err-sig0 c =
    λ t fs s. rw c.from_residual-in_err-sig0.ensures
    (no_sig0 t fs (sym c.in_ok-injection.was ∙ s.injection) (sym c.in_ok-bsigs.was ∙ s.bsigs) (rw c.in_err-sig0.was at s.sig0))

pub returns-in_err-names : goal.returns-in_err-names
returns-in_err-names c =
    λ t fs s. rw c.from_residual-in_err-names.ensures
    (no_names t fs (sym c.in_ok-injection.was ∙ s.injection) (sym c.in_ok-bsigs.was ∙ s.bsigs) (rw c.in_ok-sig0.was at s.sig0) (rw c.in_err-names.was at s.names))

pub returns : goal.returns
returns c =
    λ t fs s. all_signed t fs (sym c.in_ok-injection.was ∙ s.injection) (sym c.in_ok-bsigs.was ∙ s.bsigs) (rw c.in_ok-sig0.was at s.sig0) (rw c.in_ok-names.was at s.names)
