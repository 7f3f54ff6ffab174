-- The name's beginning and the name, each held against a fixed text. Assumes nothing.
use Rattle.stream.specs.Fields.{is_protected}
use Rattle.places.specs.Place.{part_of}
use Rattle.fields.proofs.doubled.is_protected.Goals as goal

pub returns : goal.returns
unfolding is_protected part_of
returns c = rw (c.same_name-ours.ensures, c.part.ensures, c.same_name-sized.ensures, c.same_name-coded.ensures)
