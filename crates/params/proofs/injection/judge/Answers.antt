-- The id, by its length, and the time, by what it writes. Assumes nothing.
use mathlib.Core.Path.{◌∙◌}
use lib.Dec.{lit≤}
use Rattle.number.proofs.Forms.{decimal_found, decimal_missed}
use Rattle.params.proofs.InjectionLaws.{id_missing, id_long, time_bad, injection_good}
use Rattle.params.proofs.injection.judge.Goals as goal

pub returns-then-id-lt1 : goal.returns-then-id-lt1
returns-then-id-lt1 c = id_missing _ _ c.if-id-lt1.true

pub returns-then-id-gt-ID_LIMIT : goal.returns-then-id-gt-ID_LIMIT
returns-then-id-gt-ID_LIMIT c = id_long _ _ c.if-id-gt-ID_LIMIT.true

pub returns-in_err-seconds : goal.returns-in_err-seconds
returns-in_err-seconds c = c.from_residual.ensures ∙ time_bad _ _ (decimal_missed 12 _ (lit≤ tt) c.decimal.ensures.answers c.in_err-seconds.ensures.value)

pub returns : goal.returns
returns c =
    let f = decimal_found 12 _ (lit≤ tt) c.decimal.ensures.answers _ c.in_ok-seconds.ensures.value in
    rw (c.fill.ensures, f.1) (injection_good _ _ c.if-id-lt1.false c.if-id-gt-ID_LIMIT.false f.0)
