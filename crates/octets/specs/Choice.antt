-- A choice by a test, for definitions that go by comparisons: `pick test a b` is a where the test holds, else b. Assumes nothing.
-- Both alternatives are computed before the choice, so a recursive definition goes by `elim` on the test instead.
use Rattle.std.specs.Prelude.{Bool, true, false}

abbrev pub pick : {A : Type 0} → Bool → A → A → A
pick true a b = a
pick false a b = b
