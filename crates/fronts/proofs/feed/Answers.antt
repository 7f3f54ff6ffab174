-- The three parts that are lent, and the rests behind them. Assumes nothing.
use Rattle.fronts.proofs.FrontLaws.{fed_front}
use Rattle.fronts.proofs.feed.Goals as goal

pub returns : goal.returns
returns c = fed_front _ _ _ _ _ _ _ c.min-h.ensures c.min-b.ensures c.min-q.ensures _ _ _ _ _ _ _ c.feed.ensures
