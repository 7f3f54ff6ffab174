-- A buffer that is too short, and the reader's own call. Assumes nothing.
use mathlib.Core.Path.{sym, ◌∙◌}
use Rattle.calls.proofs.CallLaws.{no}
use Rattle.reader_export.proofs.ExportLaws.{call_short, call_whole, call_carried, answered_in}
use Rattle.reader_export.proofs.ouinet_reader_answer.Goals as goal

pub returns-then-not-are_long : goal.returns-then-not-are_long
returns-then-not-are_long c =
    let e = sym c.are_long.ensures ∙ c.if-not-are_long.true in
    record { whole = call_short c.args.state.now _ _ _ c.args.res.now _ e; carried = λ h. no (sym e ∙ h) }

pub returns : goal.returns
returns c =
    let e = sym c.are_long.ensures ∙ c.if-not-are_long.false in
    let s = c.args.state.now in
    let t = c.args.res.now in
    let g = answered_in s c.args.head.now c.args.block.now c.args.question.now _ c.load.ensures _ _ c.answer-o.ensures in
    record { whole = call_whole s t _ _ _ _ _ _ e g _ _ _ _ _ c.finish.ensures.whole; carried = λ h. call_carried s t _ _ _ _ _ _ e g c.finish.ensures.back }
