-- All bytes are one part.
use Rattle.std.proofs.Common.{[], ap, ◌∙◌}
use Rattle.sha256.specs.Midstate.{added, summed}
use Rattle.sha256.specs.declared.Midstate.{Midstate}
use Rattle.sha256.proofs.Parts.{start_holds, added_holds, summed_is}
use Rattle.sha256.proofs.sha256.Goals as goal

pub returns : goal.returns
returns c =
    let m = c.args.message.now in
    c.finish.ensures ∙ ap summed (c.add.ensures ∙ ap (λ (h : Midstate). added h m) c.start.ensures) ∙ summed_is m (added_holds [] m start_holds)
