-- Each test is the definition's, of what the searches found. Assumes nothing.
use Rattle.head.specs.Steps.{is_plain}
use Rattle.head.proofs.plain.is_plain.Goals as goal

pub returns : goal.returns
unfolding is_plain
returns c = rw (c.same_name-chunked.ensures, c.value_of.ensures, c.has-sized.ensures, c.value_of-uri.ensures)
