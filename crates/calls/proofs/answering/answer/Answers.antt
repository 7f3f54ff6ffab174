-- Each return is one case of the definition. Assumes nothing.
use Rattle.calls.specs.Answer.{answer_at, answer_of}
use Rattle.calls.proofs.CallLaws.{answer_at_lem, no_question}
use Rattle.calls.proofs.answering.answer.Goals as goal

pub returns-in-HeadAsked : goal.returns-in-HeadAsked
unfolding answer_of answer_at
returns-in-HeadAsked c = rw (← c.are_roomy.ensures, c.if-not-are_roomy.false) (answer_at_lem _ _ _ _ _ c.in-HeadAsked.is (c.answer_head.ensures _ _ _))

pub returns-in-BlockAsked : goal.returns-in-BlockAsked
unfolding answer_of answer_at
returns-in-BlockAsked c = rw (← c.are_roomy.ensures, c.if-not-are_roomy.false) (answer_at_lem _ _ _ _ _ c.in-BlockAsked.is (c.answer_block.ensures _ _))

pub returns-in-EndAsked : goal.returns-in-EndAsked
unfolding answer_of answer_at
returns-in-EndAsked c = rw (← c.are_roomy.ensures, c.if-not-are_roomy.false) (answer_at_lem _ _ _ _ _ c.in-EndAsked.is (c.answer_end.ensures _ _))

pub returns-in_default : goal.returns-in_default
unfolding answer_of
returns-in_default c =
    rw (c.unchanged-in_default.ensures, ← c.are_roomy.ensures, c.if-not-are_roomy.false)
    (no_question _ _ _ c.in_default.not-HeadAsked c.in_default.not-BlockAsked c.in_default.not-EndAsked)
