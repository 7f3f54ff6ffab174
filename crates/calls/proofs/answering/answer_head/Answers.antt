-- Nothing is pending, so that nothing is cleared. Assumes nothing.
use Rattle.state.specs.Configuration.{refuse}
use Rattle.state.proofs.BufferLaws.{cleared_none}
use Rattle.calls.specs.Answer.{head_answer}
use Rattle.calls.proofs.answering.answer_head.Goals as goal

pub returns-then-not-good : goal.returns-then-not-good
unfolding head_answer refuse
returns-then-not-good c = λ h b q. rw (c.told.ensures, c.in_phase.ensures, c.plain-why.ensures, c.if-not-good.true, cleared_none)
