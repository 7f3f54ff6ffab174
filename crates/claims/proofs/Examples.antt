-- What the claims assume is met. Assumes nothing.
use mathlib.Core.Path.{sym, ◌∙◌}
use borrow.Author.Tests.{le-leb}
use lib.ListN.{length}
use Rattle.stream.specs.Limits.{head_limit, block_limit, ring_limit}
use Rattle.agreement.specs.Loans.{have_room}
use Rattle.claims.specs.Examples.{LoansWillDo, CallersCuttings}
use Rattle.claims.specs.Ordinary.{ordinary_calls}
use Rattle.claims.proofs.Demand3.{two_cuttings}
use Rattle.claims.proofs.Reached.{caller_finishes}

pub loans_will_do : LoansWillDo
unfolding have_room
loans_will_do keys h b q m n k few =
    (rw (le-leb head_limit (length h) m, le-leb block_limit (length b) n, le-leb head_limit (length q) k), le-leb keys.count ring_limit few)

pub callers_cuttings : CallersCuttings
callers_cuttings keys uri h b q room few given stream lengths lengths' m =
    let x = caller_finishes keys uri h b q room few lengths given stream in
    let y = caller_finishes keys uri h b q room few lengths' given stream in
    two_cuttings keys uri h b q h b q stream (ordinary_calls keys uri h b q lengths given stream) (ordinary_calls keys uri h b q lengths' given stream)
    x.resumes y.resumes (x.answered ∙ sym y.answered) (x.is_over m) (y.is_over m)
