-- Each group of rules by what it was read as. Assumes nothing.
use mathlib.Core.Path.{sym, ◌∙◌}
use Rattle.head.proofs.WholeLaws.{not_plain, not_signed, no_range, rest_read}
use Rattle.head.proofs.whole.read_rest.Goals as goal

pub returns-then-not-is_plain : goal.returns-then-not-is_plain
returns-then-not-is_plain c = not_plain _ c.requires.status_line _ c.requires.fields (sym c.is_plain.ensures ∙ c.if-not-is_plain.true)

pub returns-in_err-signed : goal.returns-in_err-signed
returns-in_err-signed c = rw c.from_residual.ensures (not_signed _ c.requires.status_line _ c.requires.fields (sym c.is_plain.ensures ∙ c.if-not-is_plain.false) (c.in_err-signed.ensures _ _ c.read_signed.ensures))

pub returns-in_err-status : goal.returns-in_err-status
returns-in_err-status c = rw c.from_residual-in_err-status.ensures (no_range _ c.requires.status_line _ c.requires.fields (sym c.is_plain.ensures ∙ c.if-not-is_plain.false) (c.in_ok-signed.ensures _ _ c.read_signed.ensures) (c.in_err-status.ensures.value ∙ c.read_status.ensures.kept))

pub returns : goal.returns
returns c = rest_read _ c.requires.status_line _ c.requires.fields (sym c.is_plain.ensures ∙ c.if-not-is_plain.false) (c.in_ok-signed.ensures _ _ c.read_signed.ensures) (c.in_ok-status.ensures.value ∙ c.read_status.ensures.kept)
