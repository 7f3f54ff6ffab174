-- The fault, and then the room for the question. Assumes nothing.
use mathlib.Core.List.{[]}
use mathlib.Core.Path.{sym, ap, ◌∙◌}
use Rattle.ends.specs.Steps.{number_of}
use Rattle.ends.proofs.FaultLaws.{unread_is}
use Rattle.ends.proofs.JudgeLaws.{answered_broken, answered_short, answered_asked, faultless}
use Rattle.ends.proofs.trailer.answer.Goals as goal

pub returns-in_default : goal.returns-in_default
returns-in_default c =
    let a = c.args in
    rw c.plain.ensures
    (answered_broken _ _ a.total a.hash _ 13 (sym (ap number_of (unread_is a.text.now a.head c.requires.says a.trailer.now (c.in_default.ensures _ (c.read_end.ensures c.requires.are_lines)) a.total a.hash))))

pub find-requires-clause-reads_end : goal.find-requires-clause-reads_end
find-requires-clause-reads_end c = c.in-Some.ensures _ (c.read_end.ensures c.requires.are_lines)

pub returns-in-Some-find : goal.returns-in-Some-find
returns-in-Some-find c = rw c.plain-in-Some-find.ensures (answered_broken _ _ _ _ _ _ (sym c.in-Some-find.is ∙ c.find.ensures))

pub returns-then-question-text : goal.returns-then-question-text
returns-then-question-text c = rw c.plain-then-question-text.ensures (answered_short _ _ _ _ _ (sym c.in_default-find.is ∙ c.find.ensures) c.if-question-text.true)

pub ask-requires-clause-reads_end : goal.ask-requires-clause-reads_end
ask-requires-clause-reads_end c = c.in-Some.ensures _ (c.read_end.ensures c.requires.are_lines)

pub ask-requires-clause-faultless : goal.ask-requires-clause-faultless
ask-requires-clause-faultless c = faultless _ _ _ _ [] (sym c.in_default-find.is ∙ c.find.ensures)

pub returns : goal.returns
returns c = c.ask.ensures ∙ answered_asked _ _ _ _ _ (sym c.in_default-find.is ∙ c.find.ensures) c.if-question-text.false
