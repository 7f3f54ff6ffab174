-- The text and the run, by what stands at the place. Assumes nothing.
use mathlib.Core.Path.{sym, ◌∙◌}
use Rattle.params.proofs.PartLaws.{run_missing, run_there}
use Rattle.params.proofs.parts.run_after.Goals as goal

pub returns-then-not-starts_with : goal.returns-then-not-starts_with
returns-then-not-starts_with c = run_missing _ _ _ _ (sym c.starts_with.ensures ∙ c.if-not-starts_with.true)

pub returns : goal.returns
returns c = run_there _ _ _ c.requires (sym c.starts_with.ensures ∙ c.if-not-starts_with.false) _ _ c.run_end-end.ensures
