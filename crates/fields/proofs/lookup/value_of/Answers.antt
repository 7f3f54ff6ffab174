-- The bytes at the places that the search found. Assumes nothing.
use borrow.Author.Rules.{rules}
use Rattle.fields.proofs.TableLaws.{value_found}
use Rattle.fields.proofs.lookup.value_of.Goals as goal

pub returns : goal.returns
returns c = value_found c.find.result _ c.find.ensures (search rules)
