-- Each part goes behind those that are written. Assumes nothing.
use mathlib.Core.Path.{ap, ◌∙◌}
use Rattle.layout.specs.State.{decoded}
use Rattle.layout.proofs.StateLaws.{all_put, sound, decoded_sets}
use Rattle.layout.proofs.states.put_all.Goals as goal

pub returns : goal.returns
returns c =
    let r = c.args.r in
    let d = c.args.state.now in
    let n = c.numbers.ensures in
    let m = rw n.0 at c.put_numbers.ensures in
    let x = c.put_fixed.ensures in
    let y = c.put_chain.ensures in
    let z = c.put_array.ensures in
    let w = c.put_extent.ensures in
    let o = sound r _ c.well_formed.0 n.1 w.1 in
    let e = all_put r x.1 y.1 z.1 o.chain.body d _ _ _ _ _ _ _ m x.0 y.0 z.0 c.put_number.ensures c.put_body.ensures w.0 in
    (e, ap decoded e ∙ decoded_sets r o d c.requires)
