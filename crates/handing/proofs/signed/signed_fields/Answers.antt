-- By the two tests: that no rule is broken, and that the name is listed. Assumes nothing.
use mathlib.Core.Bool.{true, false}
use mathlib.Core.Path.{ap, ◌∙◌}
use Rattle.stream.specs.Fields.{values_of}
use Rattle.handing.proofs.ValueLaws.{none_out, values_by}
use Rattle.handing.proofs.signed.signed_fields.Goals as goal

pub returns-in_default : goal.returns-in_default
unfolding values_of
returns-in_default c = ap (values_of _) (c.none.ensures _) ∙ none_out _ _ _ c.read.ensures c.in_default.not-Ok

pub returns-then-given : goal.returns-then-given
returns-then-given c = values_by _ _ c.in-Ok.ensures c.part-list.ensures c.among-given.ensures true c.if-given.true

pub returns-else-given : goal.returns-else-given
unfolding values_of
returns-else-given c = ap (values_of _) (c.none-else-given.ensures _) ∙ values_by _ _ c.in-Ok.ensures c.part-list.ensures c.among-given.ensures false c.if-given.false
