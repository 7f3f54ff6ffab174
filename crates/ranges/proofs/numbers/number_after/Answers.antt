-- The text, the digits after it, and the number that they write. Assumes nothing.
use mathlib.Core.Path.{sym, ◌∙◌}
use native.Mathlib.Omega.{arith}
use lib.Dec.{lit≤}
use Rattle.classes.specs.Class.{class_of}
use Rattle.number.proofs.Forms.{decimal_found, decimal_missed}
use Rattle.ranges.proofs.NumberLaws.{unmarked, number_bad, number_read, marked_fits}
use Rattle.ranges.proofs.numbers.number_after.Goals as goal

pub returns-then-not-starts_with : goal.returns-then-not-starts_with
returns-then-not-starts_with c = sym (unmarked _ _ _ (sym c.starts_with.ensures ∙ c.if-not-starts_with.true))

pub overflow_add-start : goal.overflow_add-start
overflow_add-start c = record { fits = omega (arith, marked_fits c.args.value.now c.args.at c.args.mark.now (sym c.starts_with.ensures ∙ c.if-not-starts_with.false)) }

pub returns-in_err-number : goal.returns-in_err-number
unfolding class_of
returns-in_err-number c =
    c.from_residual.ensures
    ∙ number_bad c.args.value.now c.args.at c.args.mark.now c.run_end-next.ensures c.part.ensures
    (decimal_missed 12 _ (lit≤ tt) c.decimal.ensures.answers c.in_err-number.ensures.value)

pub returns : goal.returns
unfolding class_of
returns c =
    number_read c.args.value.now c.args.at c.args.mark.now c.run_end-next.ensures c.part.ensures
    (sym c.starts_with.ensures ∙ c.if-not-starts_with.false)
    (decimal_found 12 _ (lit≤ tt) c.decimal.ensures.answers _ c.in_ok-number.ensures.value)
