-- The bytes that wait go behind the words, and the count behind them. Assumes nothing.
use Rattle.layout.proofs.BodyLaws.{body_put}
use Rattle.layout.proofs.states.put_body.Goals as goal

pub returns : goal.returns
returns c =
    let w = c.put_words.ensures in
    let b = c.put_array.ensures in
    body_put c.args.h w.1 b.1 c.args.state.now _ _ _ w.0 b.0 c.put_number.ensures
