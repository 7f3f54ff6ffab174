-- Each by what is said of it. Assumes nothing.
use mathlib.Core.Path.{sym, ◌∙◌}
use Rattle.std.proofs.lemmas.Bool.{not-false}
use Rattle.end_fields.proofs.ReadLaws.{no_digest, no_size, no_sig1, all_read}
use Rattle.end_fields.proofs.reading.EndParts.all.Goals as goal

pub returns-in_err-digest : goal.returns-in_err-digest
returns-in_err-digest c =
    λ fs s. rw c.from_residual.ensures (no_digest fs (sym s.once ∙ not-false _ c.if-not-self.false) (sym c.in_err-digest.was ∙ s.digest))

pub returns-in_err-size : goal.returns-in_err-size
returns-in_err-size c =
    λ fs s. rw c.from_residual-in_err-size.ensures
    (no_size fs (sym s.once ∙ not-false _ c.if-not-self.false) (sym c.in_ok-digest.was ∙ s.digest) (sym c.in_err-size.was ∙ s.size))

pub returns-in_err-sig1 : goal.returns-in_err-sig1
returns-in_err-sig1 c =
    λ fs s. rw c.from_residual-in_err-sig1.ensures
    (no_sig1 fs (sym s.once ∙ not-false _ c.if-not-self.false) (sym c.in_ok-digest.was ∙ s.digest) (sym c.in_ok-size.was ∙ s.size) (rw c.in_err-sig1.was at s.sig1))

pub returns : goal.returns
returns c =
    λ fs s. all_read fs (sym s.once ∙ not-false _ c.if-not-self.false) (sym c.in_ok-digest.was ∙ s.digest) (sym c.in_ok-size.was ∙ s.size) (rw c.in_ok-sig1.was at s.sig1)
