-- The digits are written beside the message, so that its length is known before a byte of it is.
use mathlib.Core.Path.{sym}
use native.Mathlib.Omega.{arith}
use borrow.Author.Rules.{rules}
use Rattle.blocks.proofs.MessageLaws.{digits_few, left_out, put_in}
use Rattle.blocks.proofs.messages.message.Goals as goal

pub overflow_add-total : goal.overflow_add-total
overflow_add-total c =
    let h = digits_few c.args.offset.0 _ _ (omega arith) c.write_decimal-count.ensures in
    omega arith

pub overflow_add-total-2 : goal.overflow_add-total-2
overflow_add-total-2 c =
    let h = digits_few c.args.offset.0 _ _ (omega arith) c.write_decimal-count.ensures in
    omega arith

pub returns-then-out-total : goal.returns-then-out-total
returns-then-out-total c = sym (left_out c.args.offset.0 _ _ (omega arith) c.write_decimal-count.ensures c.args.id c.args.hash _ _ (search rules) (search rules) c.min-id_end.ensures _ c.if-out-total.true)

pub slice_bounds-digits-end : goal.slice_bounds-digits-end
slice_bounds-digits-end c =
    let h = digits_few c.args.offset.0 _ _ (omega arith) c.write_decimal-count.ensures in
    search rules

pub slice_bounds-join-end-2 : goal.slice_bounds-join-end-2
slice_bounds-join-end-2 c =
    let h = digits_few c.args.offset.0 _ _ (omega arith) c.write_decimal-count.ensures in
    search rules

pub returns : goal.returns
returns c = sym (put_in c.args.offset.0 _ _ (omega (arith, c.well_formed)) c.write_decimal-count.ensures c.args.id c.args.hash _ _ (search (rules, c.well_formed)) (search (rules, c.well_formed.1.1.1)) c.min-id_end.ensures _ _ _ c.if-out-total.false c.join.ensures)
