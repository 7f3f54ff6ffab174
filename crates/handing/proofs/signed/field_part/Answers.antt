-- Of the fields that the head in the room hands out. Assumes nothing.
use mathlib.Core.Path.{◌∙◌}
use Rattle.handing.proofs.ValueLaws.{value_handed}
use Rattle.handing.proofs.signed.field_part.Goals as goal

pub returns : goal.returns
returns c = c.value_of.ensures ∙ value_handed _ _ _ _ c.accepted_head-text.ensures _ c.signed_fields.ensures
