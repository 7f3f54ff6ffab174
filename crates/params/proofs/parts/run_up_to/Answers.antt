-- The run, and what ends it. Assumes nothing.
use Rattle.params.proofs.PartLaws.{none_on}
use Rattle.params.proofs.parts.run_up_to.Goals as goal

pub returns-in_err-run : goal.returns-in_err-run
returns-in_err-run c = rw c.from_residual.ensures (none_on c.in_err-run.ensures _)

pub returns : goal.returns
returns c = c.past_mark.ensures.meaning _ _ c.in_ok-run.ensures
