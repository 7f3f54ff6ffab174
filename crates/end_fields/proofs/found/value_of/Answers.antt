-- The head's value, or the trailer's. Assumes nothing.
use mathlib.Core.Path.{sym, ◌∙◌}
use Rattle.stream.proofs.EndFields.{value_first, value_after}
use Rattle.end_fields.proofs.found.value_of.Goals as goal

pub returns-then-has : goal.returns-then-has
returns-then-has c = λ _. c.value_of.ensures ∙ sym (value_first _ _ _ (sym c.has.ensures ∙ c.if-has.true))

pub returns : goal.returns
returns c = λ g. c.value_in.ensures g ∙ sym (value_after _ _ _ (sym c.has.ensures ∙ c.if-has.false))
