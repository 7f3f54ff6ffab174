-- Each part is written after the one before. Assumes nothing.
use mathlib.Core.List.{[], ◌∷◌}
use mathlib.Core.Path.{◌∙◌}
use Rattle.places.proofs.WritingLaws.{wrote_more}
use Rattle.blocks.proofs.messages.join.Goals as goal

pub returns : goal.returns
returns c =
    c.put.ensures ∙ wrote_more _ _ (0 ∷ []) _ _ c.put-hash_start.ensures _ ∙ wrote_more _ _ _ _ _ c.put-offset_end.ensures _
    ∙ wrote_more _ _ (0 ∷ []) _ _ c.put-offset_start.ensures _ ∙ wrote_more _ _ _ _ _ c.put-id_end.ensures _
