-- The invariant: what is left of all the digits is what is left of those that are not taken away yet. Assumes nothing.
use mathlib.Core.Path.{◌≡◌, refl, sym, ◌∙◌}
use Prim.Native.Nat.{ℕ, zero, suc, ◌-◌, ◌/◌, ◌≤◌, ◌<◌}
use native.Mathlib.Omega.{arith}
use borrow.Author.Tests.{le-leb, lt-leb}
use Rattle.number.specs.Digits.{fitting}
use Rattle.number.proofs.fit.Goals as goal

module _ (limit : ℕ) where
  fit_none : (n v : ℕ) → n < 1 → 0 ≡ fitting limit n v
  unfolding fitting
  fit_none zero v e = refl
  fit_none (suc n) v e = absurd (omega arith)

  fit_more : (n v : ℕ) → 1 ≤ n → limit < v → fitting limit n v ≡ fitting limit (n - 1) (v / 10)
  unfolding fitting
  fit_more zero v h k = absurd (omega arith)
  fit_more (suc n) v h k =
      let e : suc n - 1 ≡ n = omega arith in
      rw (e, lt-leb v limit k, fitting)

  fit_all : (n v : ℕ) → v ≤ limit → n ≡ fitting limit n v
  unfolding fitting
  fit_all zero v k = refl
  fit_all (suc n) v k = rw (le-leb v limit k, fitting)

pub returns-then-left-limit : goal.returns-then-left-limit
returns-then-left-limit c = fit_all _ _ _ c.if-left-limit.true ∙ sym c.loop-n.invariant

pub loop-n-preserved : goal.loop-n-preserved
loop-n-preserved c = c.loop-n.invariant ∙ fit_more _ _ _ (omega arith) c.if-left-limit.false

pub returns : goal.returns
returns c = fit_none _ _ _ (omega arith) ∙ sym c.loop-n.invariant
