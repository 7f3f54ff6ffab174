-- The front, and what is added. Assumes nothing.
use Rattle.ends.proofs.ListLaws.{extended_is}
use Rattle.ends.proofs.lists.is_extended.Goals as goal

pub returns : goal.returns
returns c = rw (c.same_name-front.ensures, c.same_name.ensures) (extended_is _ _ _ _ c.part.ensures c.part-added.ensures)
