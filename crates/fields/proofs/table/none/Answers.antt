-- Of no entries there are no fields. Assumes nothing.
use mathlib.Core.Path.{refl}
use Rattle.fields.specs.Table.{fields_in}
use Rattle.fields.proofs.table.none.Goals as goal

pub returns : goal.returns
unfolding fields_in
returns c = λ _. refl
