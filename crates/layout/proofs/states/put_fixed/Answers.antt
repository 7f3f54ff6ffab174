-- The id goes behind the four numbers, and its length behind it. Assumes nothing.
use Rattle.layout.proofs.StateLaws.{fixed_put}
use Rattle.layout.proofs.states.put_fixed.Goals as goal

pub returns : goal.returns
returns c =
    let h = c.put_array.ensures.1 in
    (fixed_put c.args.f h c.args.state.now _ _ _ c.put_numbers.ensures c.put_array.ensures.0 c.put_number.ensures, h)
