-- In the data phase the run of the block; in any other none. Assumes nothing.
use Rattle.body_steps.specs.Skip.{skipped_at}
use Rattle.body_steps.proofs.SkipLaws.{no_data, skipped_at_lem}
use Rattle.body_steps.proofs.runs.skip.Goals as goal

pub returns-in_default : goal.returns-in_default
returns-in_default c = no_data _ _ _ _ c.in_default.not-Data

pub returns : goal.returns
unfolding skipped_at
returns c = skipped_at_lem _ _ _ _ _ _ c.in-Data.is c.skip_data.ensures
