-- The three parts that are lent, and the rests behind them. Assumes nothing.
use Rattle.fronts.proofs.FrontLaws.{answered_front}
use Rattle.fronts.proofs.answer.Goals as goal

pub returns : goal.returns
returns c = answered_front _ _ _ _ _ _ _ c.min-h.ensures c.min-b.ensures c.min-q.ensures _ _ _ _ _ c.answer.ensures
