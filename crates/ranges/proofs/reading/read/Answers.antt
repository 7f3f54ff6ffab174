-- The three numbers, one after the other, the value's end, and the part that they say. Assumes nothing.
use mathlib.Core.Path.{sym, ◌∙◌}
use Rattle.ranges.proofs.ReadLaws.{no_first, no_last, no_total, not_ended, unaligned, aligned}
use Rattle.ranges.proofs.reading.read.Goals as goal

pub returns-in_err-first : goal.returns-in_err-first
returns-in_err-first c = c.from_residual.ensures ∙ no_first _ _ c.in_err-first.ensures

pub returns-in_err-last : goal.returns-in_err-last
returns-in_err-last c = c.from_residual-in_err-last.ensures ∙ no_last _ _ c.in_ok-first.ensures c.in_err-last.ensures

pub returns-in_err-total : goal.returns-in_err-total
returns-in_err-total c = c.from_residual-in_err-total.ensures ∙ no_total _ _ c.in_ok-first.ensures c.in_ok-last.ensures c.in_err-total.ensures

pub returns-then-total-value : goal.returns-then-total-value
returns-then-total-value c = not_ended _ _ c.in_ok-first.ensures c.in_ok-last.ensures c.in_ok-total.ensures c.if-total-value.true

pub returns-then-not-is_aligned : goal.returns-then-not-is_aligned
returns-then-not-is_aligned c =
    unaligned _ _ c.in_ok-first.ensures c.in_ok-last.ensures c.in_ok-total.ensures c.if-total-value.false (sym c.is_aligned.ensures ∙ c.if-not-is_aligned.true)

pub returns : goal.returns
returns c =
    aligned _ _ c.in_ok-first.ensures c.in_ok-last.ensures c.in_ok-total.ensures c.if-total-value.false (sym c.is_aligned.ensures ∙ c.if-not-is_aligned.false)
