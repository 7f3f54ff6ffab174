-- A turn is a skipped run and one byte, and the run over the whole piece is the run over the rest from where the turn leaves the
-- reader. Assumes nothing.
use mathlib.Core.Path.{sym, ap, ◌∙◌}
use native.Mathlib.Omega.{arith}
use Prim.Native.Nat.{◌+◌}
use Rattle.ring.specs.Keys.{terms_of}
use Rattle.state.specs.Run.{Fed}
use Rattle.reader.specs.Feed.{fed, taken_from}
use Rattle.reader.proofs.FeedLaws.{run_done, run_on, run_stop, skip_within, skip_same}
use Rattle.reader.proofs.feeding.take.Goals as goal

pub overflow_add-taken : goal.overflow_add-taken
overflow_add-taken c = omega (arith, skip_within (terms_of c.args.ring c.args.uri.now) c.args.piece.now c.loop-taken.taken _ _ c.skip-passed.result _ c.skip-passed.ensures c.loop-taken.invariant.0)

pub shape_of-head-then-piece-taken : goal.shape_of-head-then-piece-taken
shape_of-head-then-piece-taken c = c.loop-taken.invariant.1

pub shape_of-block-then-piece-taken : goal.shape_of-block-then-piece-taken
shape_of-block-then-piece-taken c = c.skip-passed.auto.block ∙ c.loop-taken.invariant.2

pub shape_of-question-then-piece-taken : goal.shape_of-question-then-piece-taken
shape_of-question-then-piece-taken c = c.loop-taken.invariant.3

pub returns-then-piece-taken : goal.returns-then-piece-taken
unfolding taken_from
returns-then-piece-taken c =
    let skipped = c.loop-taken.invariant.4 ∙ skip_same (terms_of c.args.ring c.args.uri.now) c.args.piece.now c.loop-taken.taken _ _ c.skip-passed.result _ c.skip-passed.ensures c.loop-taken.head c.loop-taken.question in
    rw c.told.ensures (sym (ap (λ (f : Fed). fed f) (skipped ∙ run_done _ _ _ _ c.if-piece-taken.true)))

pub overflow_add-taken-in-loop-taken : goal.overflow_add-taken-in-loop-taken
overflow_add-taken-in-loop-taken c = omega (arith, skip_within (terms_of c.args.ring c.args.uri.now) c.args.piece.now c.loop-taken.taken _ _ c.skip-passed.result _ c.skip-passed.ensures c.loop-taken.invariant.0)

pub shape_of-head-then-not-goes_on : goal.shape_of-head-then-not-goes_on
shape_of-head-then-not-goes_on c = c.push-stepped.auto.head ∙ c.loop-taken.invariant.1

pub shape_of-block-then-not-goes_on : goal.shape_of-block-then-not-goes_on
shape_of-block-then-not-goes_on c = c.push-stepped.auto.block ∙ c.skip-passed.auto.block ∙ c.loop-taken.invariant.2

pub shape_of-question-then-not-goes_on : goal.shape_of-question-then-not-goes_on
shape_of-question-then-not-goes_on c = c.push-stepped.auto.question ∙ c.loop-taken.invariant.3

pub returns-then-not-goes_on : goal.returns-then-not-goes_on
unfolding taken_from
returns-then-not-goes_on c =
    let skipped = c.loop-taken.invariant.4 ∙ skip_same (terms_of c.args.ring c.args.uri.now) c.args.piece.now c.loop-taken.taken _ _ c.skip-passed.result _ c.skip-passed.ensures c.loop-taken.head c.loop-taken.question in
    let stopped = run_stop (terms_of c.args.ring c.args.uri.now) c.args.piece.now (c.loop-taken.taken + c.skip-passed.result.taken) _ c.push-stepped.result _ _ _ c.if-piece-taken.false c.push-stepped.ensures (sym c.goes_on.ensures ∙ c.if-not-goes_on.true) in
    rw c.ended.ensures (sym (ap (λ (f : Fed). fed f) (skipped ∙ stopped)))

pub loop-taken-smaller : goal.loop-taken-smaller
loop-taken-smaller c = omega (arith, skip_within (terms_of c.args.ring c.args.uri.now) c.args.piece.now c.loop-taken.taken _ _ c.skip-passed.result _ c.skip-passed.ensures c.loop-taken.invariant.0)

pub loop-taken-preserved : goal.loop-taken-preserved
loop-taken-preserved c =
    let skipped = c.loop-taken.invariant.4 ∙ skip_same (terms_of c.args.ring c.args.uri.now) c.args.piece.now c.loop-taken.taken _ _ c.skip-passed.result _ c.skip-passed.ensures c.loop-taken.head c.loop-taken.question in
    let pushed = run_on (terms_of c.args.ring c.args.uri.now) c.args.piece.now (c.loop-taken.taken + c.skip-passed.result.taken) _ c.push-stepped.result _ _ _ c.if-piece-taken.false c.push-stepped.ensures (sym c.goes_on.ensures ∙ c.if-not-goes_on.false) in (
      omega (arith, skip_within (terms_of c.args.ring c.args.uri.now) c.args.piece.now c.loop-taken.taken _ _ c.skip-passed.result _ c.skip-passed.ensures c.loop-taken.invariant.0),
      c.push-stepped.auto.head ∙ c.loop-taken.invariant.1,
      c.push-stepped.auto.block ∙ c.skip-passed.auto.block ∙ c.loop-taken.invariant.2,
      c.push-stepped.auto.question ∙ c.loop-taken.invariant.3,
      skipped ∙ pushed,
    )

pub returns : goal.returns
unfolding taken_from
returns c = rw c.told-2.ensures (sym (ap (λ (f : Fed). fed f) (c.loop-taken.invariant.4 ∙ run_done _ _ _ _ c.loop-taken-test.false)))
