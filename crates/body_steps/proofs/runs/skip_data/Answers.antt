-- What is written is the run. Assumes nothing.
use borrow.Author.Rules.{rules}
use Rattle.body_steps.proofs.SkipLaws.{goes_up, skipped_is}
use Rattle.body_steps.proofs.runs.skip_data.Goals as goal

pub overflow_sub-result : goal.overflow_sub-result
overflow_sub-result c = goes_up _ _ _ _ _ _ _ c.min-end.ensures c.put-next.ensures

pub returns : goal.returns
returns c = rw c.in_phase-reader.ensures (skipped_is _ _ _ _ _ _ _ c.min-end.ensures c.put-next.ensures _ _ (search rules))
