-- The fields in the table, with those of the lines that are left, are the fields of all lines. Assumes nothing.
use Rattle.fields.proofs.LinesLaws.{filled_none, filled_bad, filled_over, filled_on, filled_all}
use Rattle.fields.proofs.reading.read_fields.Goals as goal

pub loop-start-init : goal.loop-start-init
loop-start-init c =
    let h = c.into_iter-start-iterator.ensures.into_iter_gives in
    rw h (filled_none _ _ _ c.none.ensures c.lines_from-start-items.result c.lines_from-start-items.ensures.text c.lines_from-start-items.ensures.place)

pub returns-in_err-e : goal.returns-in_err-e
returns-in_err-e c = rw c.from_residual.ensures (filled_bad _ _ _ _ _ c.loop-start.invariant.1 _ _ c.in-Some.ensures.steps c.in_err-e.ensures)

pub returns-then-fields-eq-FIELD_LIMIT : goal.returns-then-fields-eq-FIELD_LIMIT
returns-then-fields-eq-FIELD_LIMIT c = filled_over _ _ _ _ _ c.loop-start.invariant.1 _ _ c.in-Some.ensures.steps c.if-fields-eq-FIELD_LIMIT.true

pub loop-start-preserved : goal.loop-start-preserved
loop-start-preserved c =
    rw (c.moved.ensures, c.moved-in-loop-start.ensures) (filled_on _ _ _ _ _ c.loop-start.invariant.1 _ _ c.in-Some.ensures.steps _ c.in_ok-e.ensures c.loop-start.invariant.0 c.if-fields-eq-FIELD_LIMIT.false)

pub returns : goal.returns
returns c = filled_all _ _ _ _ _ c.loop-start.invariant.1 c.in-None.ensures.steps
