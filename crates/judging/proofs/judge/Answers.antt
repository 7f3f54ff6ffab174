-- The buffer that is shorter than the head. Assumes nothing.
use mathlib.Core.Path.{sym, ap, ◌∙◌}
use Rattle.ring.specs.Keys.{found_of}
use Rattle.judging.proofs.JudgeLaws.{judged_short}
use Rattle.judging.proofs.judge.Goals as goal

pub returns-then-question-text : goal.returns-then-question-text
returns-then-question-text c =
    rw c.refused-then-question-text.ensures
    (judged_short _ _ _ _ c.in-Ok.ensures (sym c.is_asked_for.ensures ∙ c.if-not-is_asked_for.false) _
    (sym (ap found_of c.in-Some.is) ∙ c.trusted.ensures) c.if-question-text.true)
