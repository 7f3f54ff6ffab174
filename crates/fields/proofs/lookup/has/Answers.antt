-- The name is among those of the entries. Assumes nothing.
use Rattle.stream.specs.Fields.{has_field}
use Rattle.fields.specs.Table.{fields_in}
use Rattle.fields.proofs.lookup.has.Goals as goal

pub returns : goal.returns
unfolding has_field fields_in
returns c = rw (c.is_among.ensures, c.used.ensures)
