-- What `put` wrote. Assumes nothing.
use Rattle.packing.proofs.PartLaws.{sets_put}
use Rattle.packing.proofs.parts.put_bytes.Goals as goal

pub returns : goal.returns
returns c = sets_put c.args.to.now c.args.from.now c.args.at _ _ c.put.ensures
