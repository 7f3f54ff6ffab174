-- A short buffer, and one with room. Assumes nothing.
use mathlib.Core.Path.{◌∙◌}
use native.Mathlib.Omega.{arith}
use borrow.Author.Tests.{le-leb, lt-leb}
use Rattle.reader_export.specs.Export.{begun_in}
use Rattle.reader_export.proofs.ouinet_reader_fresh.Goals as goal

pub returns-then-state-lt-STATE_SIZE : goal.returns-then-state-lt-STATE_SIZE
unfolding begun_in
returns-then-state-lt-STATE_SIZE c = record { whole = rw (lt-leb _ _ c.if-state-lt-STATE_SIZE.true); carried = λ h. absurd (omega arith) }

pub returns : goal.returns
unfolding begun_in
returns c = record { whole = rw (le-leb _ _ c.if-state-lt-STATE_SIZE.false, c.store.ensures.whole, c.fresh.ensures); carried = λ h. c.store.ensures.back h ∙ c.fresh.ensures }
