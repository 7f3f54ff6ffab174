-- The number that the digits write. Assumes nothing.
use mathlib.Core.Path.{◌∙◌}
use Rattle.end_fields.proofs.TextLaws.{size_read}
use Rattle.end_fields.proofs.texts.read_data_size.Goals as goal

pub returns : goal.returns
returns c = c.ok.ensures.value ∙ size_read _ _ c.decimal.ensures.answers
