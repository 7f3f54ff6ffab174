-- The hash goes behind the number. Assumes nothing.
use Rattle.layout.proofs.StateLaws.{chain_put}
use Rattle.layout.proofs.states.put_chain.Goals as goal

pub returns : goal.returns
returns c = (chain_put c.args.c c.args.state.now _ _ c.put_number.ensures c.put_array.ensures.0, c.put_array.ensures.1)
