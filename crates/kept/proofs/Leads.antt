-- Where a section leads, by what it says: a fact about the contexts in which reading may go on after it. Assumes nothing.
use mathlib.Core.Bool.{Bool, true, false}
use Prim.Native.Nat.{ℕ, zero, suc}
use Rattle.sections.specs.Reading.{go, tell, ask, stop, granted, final}
use Rattle.stream.specs.Stream.{Context, Says, unless_broken}

-- reading goes on, if at all, in a context that the fact is true of
abbrev pub Leads : (Context → Type 0) → Says → Type 0
Leads holds (go c) = holds c
Leads holds (tell e c) = holds c
Leads holds (ask q (granted e c)) = holds c
Leads holds (ask q (final l)) = Unit
Leads holds (stop l) = Unit

module _ (holds : Context → Type 0) where
  pub unless_leads : (n place : ℕ) (v : Says) → Leads holds v → Leads holds (unless_broken n place v)
  unless_leads zero place v k = k
  unless_leads (suc n) place v k = tt

  pub test_leads : (t : Bool) (v w : Says) → Leads holds v → Leads holds w → Leads holds (elim t [ true ↦ v | false ↦ w ])
  test_leads true v w k m = k
  test_leads false v w k m = m

-- a fact about every context
abbrev pub Anywhere : Context → Type 0
Anywhere c = Unit

pub leads_anywhere : (v : Says) → Leads Anywhere v
leads_anywhere (go c) = tt
leads_anywhere (tell e c) = tt
leads_anywhere (ask q (granted e c)) = tt
leads_anywhere (ask q (final l)) = tt
leads_anywhere (stop l) = tt
