-- Forms of text as templates: fixed text, single bytes of a class, runs of them with a most number or any, one or the other, and any number
-- of texts of a form one after the other. What is still to come of a text is a form too, so forms are the states of their scanner.
-- Assumes nothing.
use Rattle.std.proofs.Common.{eq-eqb}
use Rattle.std.specs.Prelude.{Bool, true, false, ◌||◌, List, [], ◌∷◌, ◌≡◌, refl, ℕ, zero, suc, eqb}
use Rattle.std.proofs.Math.Option.{Option, none, some}
use Rattle.scanner.specs.Scanner.{Scanner, accepts, reach}

-- a class of bytes, of which one is known
pub record Class : Type 0 where
  pub has : ℕ → Bool
  pub sample : ℕ
  pub member : has sample ≡ true

-- Each part says what comes after it.
pub data Form : Type 0 where
  done : Form
  one : Class → Form → Form
  -- a run of no more than so many bytes of the class; a run of any length
  up_to : ℕ → (ℕ → Bool) → Form → Form
  many : (ℕ → Bool) → Form → Form
  either : Form → Form → Form
  -- texts of the first form, as many as there are, and then the second
  each : Form → Form → Form

-- ---- parts made of these

abbrev pub only : ℕ → Class
only c = record { has = λ b. eqb b c; sample = c; member = eq-eqb c c refl }

-- fixed text
abbrev pub text : List ℕ → Form → Form
text [] f = f
text (b ∷ t) f = one (only b) (text t f)

-- a run of just so many bytes of the class
abbrev pub times : ℕ → Class → Form → Form
times zero c f = f
times (suc n) c f = one c (times n c f)

-- the second form where the first is done
abbrev pub after : Form → Form → Form
after done g = g
after (one c f) g = one c (after f g)
after (up_to n p f) g = up_to n p (after f g)
after (many p f) g = many p (after f g)
after (either f₁ f₂) g = either (after f₁ g) (after f₂ g)
after (each f₁ f₂) g = each f₁ (after f₂ g)

-- ---- the scanner of a form

abbrev pub or_else : Option Form → Option Form → Option Form
or_else none o = o
or_else (some f) o = some f

abbrev pub when : Bool → Form → Option Form
when true f = some f
when false f = none

abbrev pub and_then : Option Form → Form → Option Form
and_then none g = none
and_then (some f) g = some (after f g)

-- What a byte leaves to come. Where it may end a run or a repetition as well as go on with it, it ends it; in the forms of a stream no byte
-- may do both.
unfoldable pub step_form : Form → ℕ → Option Form
step_form done b = none
step_form (one c f) b = when (c.has b) f
step_form (up_to zero p f) b = step_form f b
step_form (up_to (suc n) p f) b = or_else (step_form f b) (when (p b) (up_to n p f))
step_form (many p f) b = or_else (step_form f b) (when (p b) (many p f))
step_form (either f₁ f₂) b = or_else (step_form f₁ b) (step_form f₂ b)
step_form (each f₁ f₂) b = or_else (step_form f₂ b) (and_then (step_form f₁ b) (each f₁ f₂))

unfoldable pub may_end_form : Form → Bool
may_end_form done = true
may_end_form (one c f) = false
may_end_form (up_to n p f) = may_end_form f
may_end_form (many p f) = may_end_form f
may_end_form (either f₁ f₂) = may_end_form f₁ || may_end_form f₂
may_end_form (each f₁ f₂) = may_end_form f₂

abbrev pub scanner_of : Form → Scanner Form
scanner_of f = record { start = f; step = step_form; may_end = may_end_form }

unfoldable pub accepts_form : Form → List ℕ → Bool
accepts_form f l = accepts (scanner_of f) l

-- how far a text agrees with the form
unfoldable pub reach_form : Form → List ℕ → ℕ
reach_form f l = reach (scanner_of f) l
