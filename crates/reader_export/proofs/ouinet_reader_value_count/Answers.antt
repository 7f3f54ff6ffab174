-- A short buffer, and one with room. Assumes nothing.
use borrow.Author.Tests.{le-leb, lt-leb}
use Rattle.reader_export.specs.Export.{count_in}
use Rattle.reader_export.proofs.ouinet_reader_value_count.Goals as goal

pub returns-then-state-lt-STATE_SIZE : goal.returns-then-state-lt-STATE_SIZE
unfolding count_in
returns-then-state-lt-STATE_SIZE c = rw (lt-leb _ _ c.if-state-lt-STATE_SIZE.true)

pub returns : goal.returns
unfolding count_in
returns c = rw (le-leb _ _ c.if-state-lt-STATE_SIZE.false, c.field_count.ensures, c.load-r.ensures)
