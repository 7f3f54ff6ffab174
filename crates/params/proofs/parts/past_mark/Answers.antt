-- The text and the gap, by what stands after the run. Assumes nothing.
use mathlib.Core.Path.{sym, ◌∙◌}
use Rattle.classes.specs.Class.{class_of}
use Rattle.params.proofs.PartLaws.{mark_missing, mark_there}
use Rattle.params.proofs.parts.past_mark.Goals as goal

pub returns-then-not-starts_with : goal.returns-then-not-starts_with
returns-then-not-starts_with c = mark_missing _ _ _ (sym c.starts_with.ensures ∙ c.if-not-starts_with.true)

pub returns : goal.returns
unfolding class_of
returns c = mark_there _ _ _ c.requires (sym c.starts_with.ensures ∙ c.if-not-starts_with.false) _ c.run_end-next.ensures
