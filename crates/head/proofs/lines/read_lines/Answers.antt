-- The rules of lines, from what each callee says of the lines. Assumes nothing.
use mathlib.Core.Path.{sym, ◌∙◌}
use native.Mathlib.Omega.{arith}
use Rattle.text.proofs.LineLaws.{line_le}
use Rattle.head.proofs.FirstLine.{bad_line, no_fields, doubled_fields, lines_read}
use Rattle.head.proofs.lines.read_lines.Goals as goal

pub overflow_add-end : goal.overflow_add-end
overflow_add-end c = omega (arith, c.line_end-end.ensures, line_le c.args.text.now)

pub returns-then-not-ends_twice-status : goal.returns-then-not-ends_twice-status
returns-then-not-ends_twice-status c = bad_line _ _ c.line_end-end.ensures _ _ _ c.ends_twice.ensures c.is_status_line-status.ensures c.part.ensures c.if-not-ends_twice-status.true

pub returns-in_err-table : goal.returns-in_err-table
returns-in_err-table c =
    rw c.from_residual.ensures
    (no_fields _ _ c.line_end-end.ensures _ _ _ c.ends_twice.ensures c.is_status_line-status.ensures c.part.ensures c.if-not-ends_twice-status.false c.in_err-table.ensures)

pub returns-then-is_doubled : goal.returns-then-is_doubled
returns-then-is_doubled c =
    doubled_fields _ _ c.line_end-end.ensures _ _ _ c.ends_twice.ensures c.is_status_line-status.ensures c.part.ensures c.if-not-ends_twice-status.false c.in_ok-table.ensures
    (sym c.is_doubled.ensures ∙ c.if-is_doubled.true)

pub returns : goal.returns
returns c =
    lines_read _ _ c.line_end-end.ensures _ _ _ c.ends_twice.ensures c.is_status_line-status.ensures c.part.ensures c.if-not-ends_twice-status.false c.in_ok-table.ensures
    (sym c.is_doubled.ensures ∙ c.if-is_doubled.false)
