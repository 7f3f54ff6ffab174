-- The judgement's own promise, with the ring that was made for it. Assumes nothing.
use mathlib.Core.Path.{◌≡◌, ap, ◌∙◌}
use mathlib.Core.List.{List}
use Prim.Native.Nat.{ℕ}
use Rattle.stream.specs.Ring.{Ring}
use Rattle.judging.specs.Judgement.{judged, head_judged}
use Rattle.judging.specs.declared.Asked.{Asked}
use Rattle.refusals.specs.declared.Refusal.{Refusal}
use Rattle.std.specs.Prelude.{Result}
use Rattle.head_export.specs.Export.{made, answered, number_of, one_key, told}
use Rattle.head_export.proofs.thawrushes_judge_head.Goals as goal

all_told : (j : Result Asked Refusal) (ring : Ring) (text key uri before after : List ℕ) (first last n : ℕ) → n ≡ number_of j
    → judged j after ≡ head_judged (record { ring = ring; uri = uri }) text before → ring ≡ one_key key first last → made n after ≡ answered text key first last uri before
all_told j ring text key uri before after first last n number judgement keys =
    ap (λ (m : ℕ). made m after) number ∙ ap told (judgement ∙ ap (λ (r : Ring). head_judged (record { ring = r; uri = uri }) text before) keys)

pub returns : goal.returns
returns c = all_told _ _ _ _ _ _ _ _ _ _ c.number_of.ensures c.judge-judged.ensures c.one_key.ensures
