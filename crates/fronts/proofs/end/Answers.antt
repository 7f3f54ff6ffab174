-- The three parts that are lent, and the rests behind them. Assumes nothing.
use Rattle.fronts.proofs.FrontLaws.{ended_front}
use Rattle.fronts.proofs.end.Goals as goal

pub returns : goal.returns
returns c = ended_front _ _ _ _ _ _ _ c.min-h.ensures c.min-b.ensures c.min-q.ensures _ _ _ _ c.end.ensures
