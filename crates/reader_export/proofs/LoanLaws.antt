-- The two ways of an exported call, by the lengths of the buffers for state and result. Assumes nothing.
use mathlib.Core.Bool.{true, false}
use mathlib.Core.Path.{◌≡◌}
use Rattle.sections.specs.Calls.{Request}
use Rattle.results.specs.Written.{made, answered}
use Rattle.reader_export.specs.Export.{short, called}
use Rattle.reader_export.specs.Loan.{Loan, call_in, exported, is_long}

pub exported_long : (l : Loan) (r : Request) → is_long l ≡ true → exported l r ≡ answered l.state l.result (call_in l r)
unfolding called
exported_long l r e = rw e

pub exported_short : (l : Loan) (r : Request) → is_long l ≡ false → exported l r ≡ made short l.state l.head l.block l.question l.result
unfolding called
exported_short l r e = rw e
