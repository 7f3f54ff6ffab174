-- Each test gives the next step of the line's template. Assumes nothing.
use mathlib.Core.Path.{sym, ◌∙◌}
use Prim.Native.Nat.{◌+◌}
use native.Mathlib.Omega.{arith}
use Rattle.classes.specs.Class.{class_of}
use Rattle.field_lines.proofs.FieldLineLaws.{no_name, no_colon, colon_within, no_text, reads_none, value_ordered, value_within, reads_good}
use Rattle.field_lines.proofs.line.field_line.Goals as goal
use Rattle.field_lines.proofs.line.field_line.Goals.{then-colon-eq0-via-then-colon-eq0, then-colon-eq0-via-else-colon-eq0+then-not-starts_with}

pub returns-then-colon-eq0 : goal.returns-then-colon-eq0
unfolding class_of
returns-then-colon-eq0 c =
    elim c.then-colon-eq0.branch [
      | then-colon-eq0-via-then-colon-eq0 w ↦ reads_none _ _ (no_name _ _ c.run_end-colon.ensures w.if-colon-eq0.true)
      | then-colon-eq0-via-else-colon-eq0+then-not-starts_with w ↦ reads_none _ _ (no_colon _ _ c.run_end-colon.ensures (sym w.starts_with.ensures ∙ w.if-not-starts_with.true))
    ]

pub overflow_add-start : goal.overflow_add-start
unfolding class_of
overflow_add-start c = omega (arith, colon_within _ _ c.run_end-colon.ensures (sym c.starts_with.ensures ∙ c.if-not-starts_with.false))

pub returns-then-run_end-line : goal.returns-then-run_end-line
unfolding class_of
returns-then-run_end-line c =
    reads_none _ _ (no_text _ _ c.run_end-colon.ensures (sym c.starts_with.ensures ∙ c.if-not-starts_with.false) _ c.run_end.ensures c.if-run_end-line.true)

pub slice_bounds-trim-count : goal.slice_bounds-trim-count
unfolding class_of
slice_bounds-trim-count c = omega (arith, colon_within _ _ c.run_end-colon.ensures (sym c.starts_with.ensures ∙ c.if-not-starts_with.false))

pub slice_bounds-trim-start : goal.slice_bounds-trim-start
unfolding class_of
slice_bounds-trim-start c = omega (arith, colon_within _ _ c.run_end-colon.ensures (sym c.starts_with.ensures ∙ c.if-not-starts_with.false))

pub overflow_add-result : goal.overflow_add-result
unfolding class_of
overflow_add-result c = omega (arith, value_ordered c.args.line.now (c.run_end-colon.result + 1) _ c.trim-value.ensures, value_within c.args.line.now (c.run_end-colon.result + 1) _ c.trim-value.ensures (colon_within _ _ c.run_end-colon.ensures (sym c.starts_with.ensures ∙ c.if-not-starts_with.false)))

pub overflow_add-result-2 : goal.overflow_add-result-2
unfolding class_of
overflow_add-result-2 c = omega (arith, value_ordered c.args.line.now (c.run_end-colon.result + 1) _ c.trim-value.ensures, value_within c.args.line.now (c.run_end-colon.result + 1) _ c.trim-value.ensures (colon_within _ _ c.run_end-colon.ensures (sym c.starts_with.ensures ∙ c.if-not-starts_with.false)))

pub returns : goal.returns
unfolding class_of
returns c =
    reads_good _ _ c.run_end-colon.ensures (sym c.starts_with.ensures ∙ c.if-not-starts_with.false) _ c.run_end.ensures c.if-run_end-line.false (omega (arith, c.if-colon-eq0.false)) _ c.trim-value.ensures
