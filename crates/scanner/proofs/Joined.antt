-- A form and then another, whose first byte stands nowhere in the first form: it is clear of each byte to which of the two it belongs. Assumes nothing.
use borrow.Author.Tests.{not-true}
use mathlib.Core.Bool.{Bool, true, false, ◌&&◌, ◌||◌, not}
use mathlib.Core.Option.{Option, none, some}
use mathlib.Core.Path.{◌≡◌, refl, sym, ap}
use Prim.Native.Nat.{ℕ, zero, suc}
use lib.Dec.{eqb}
use Rattle.scanner.specs.Form.{Form, done, one, up_to, many, either, each, after, or_else, when, and_then, step_form, may_end_form}
use Rattle.scanner.proofs.Every.{left, right, every, to_every}

-- ---- forms in a row

after_assoc : (f g h : Form) → after (after f g) h ≡ after f (after g h)
after_assoc done g h = refl
after_assoc (one c f) g h = ap (one c) (after_assoc f g h)
after_assoc (up_to n p f) g h = ap (up_to n p) (after_assoc f g h)
after_assoc (many p f) g h = ap (many p) (after_assoc f g h)
after_assoc (either f₁ f₂) g h = rw (after_assoc f₁ g h, after_assoc f₂ g h)
after_assoc (each f₁ f₂) g h = ap (each f₁) (after_assoc f₂ g h)

pub then_assoc : (o : Option Form) (g h : Form) → and_then (and_then o g) h ≡ and_then o (after g h)
then_assoc none g h = refl
then_assoc (some f) g h = ap some (after_assoc f g h)

then_or : (o p : Option Form) (g : Form) → and_then (or_else o p) g ≡ or_else (and_then o g) (and_then p g)
then_or none p g = refl
then_or (some f) p g = refl

pub then_when : (t : Bool) (f g : Form) → and_then (when t f) g ≡ when t (after f g)
then_when true f g = refl
then_when false f g = refl

or_and : (a b c : Bool) → (a && c) || (b && c) ≡ (a || b) && c
or_and true true true = refl
or_and true true false = refl
or_and true false true = refl
or_and true false false = refl
or_and false b c = refl

pub end_after : (f g : Form) → may_end_form (after f g) ≡ may_end_form f && may_end_form g
unfolding may_end_form
end_after done g = refl
end_after (one c f) g = refl
end_after (up_to n p f) g = end_after f g
end_after (many p f) g = end_after f g
end_after (either f₁ f₂) g = rw (end_after f₁ g, end_after f₂ g) (or_and (may_end_form f₁) (may_end_form f₂) (may_end_form g))
end_after (each f₁ f₂) g = end_after f₂ g

-- ---- forms without a certain byte

abbrev pub free : ℕ → Form → Bool
free d f = every (λ c. not (c.has d)) (λ p. not (p d)) f

pub step_free : (d : ℕ) (f : Form) → free d f ≡ true → step_form f d ≡ none
unfolding every step_form
step_free d done h = refl
step_free d (one c f) h = rw (not-true (c.has d) (left _ (free d f) h))
step_free d (up_to zero p f) h = step_free d f (right (not (p d)) _ h)
step_free d (up_to (suc n) p f) h = rw (step_free d f (right (not (p d)) _ h), not-true (p d) (left _ (free d f) h))
step_free d (many p f) h = rw (step_free d f (right (not (p d)) _ h), not-true (p d) (left _ (free d f) h))
step_free d (either f₁ f₂) h = rw (step_free d f₁ (left _ (free d f₂) h), step_free d f₂ (right (free d f₁) _ h))
step_free d (each f₁ f₂) h = rw (step_free d f₁ (left _ (free d f₂) h), step_free d f₂ (right (free d f₁) _ h))

pub free_to : (d : ℕ) (f s : Form) (b : ℕ) → free d f ≡ true → step_form f b ≡ some s → free d s ≡ true
free_to d f s b h e = to_every (λ c. not (c.has d)) (λ p. not (p d)) f s b h e

-- ---- a second form that begins with d, and with nothing else

module _ (d : ℕ) (g : Form) (only_d : (b : ℕ) → eqb b d ≡ false → step_form g b ≡ none) where
  -- any other byte is a step of the first form
  pub step_first : (f : Form) (b : ℕ) → eqb b d ≡ false → step_form (after f g) b ≡ and_then (step_form f b) g
  unfolding step_form
  step_first done b e = only_d b e
  step_first (one c f) b e = sym (then_when (c.has b) f g)
  step_first (up_to zero p f) b e = step_first f b e
  step_first (up_to (suc n) p f) b e = rw (step_first f b e, then_or (step_form f b) (when (p b) (up_to n p f)) g, then_when (p b) (up_to n p f) g)
  step_first (many p f) b e = rw (step_first f b e, then_or (step_form f b) (when (p b) (many p f)) g, then_when (p b) (many p f) g)
  step_first (either f₁ f₂) b e = rw (step_first f₁ b e, step_first f₂ b e, then_or (step_form f₁ b) (step_form f₂ b) g)
  step_first (each f₁ f₂) b e = rw (step_first f₂ b e, then_or (step_form f₂ b) (and_then (step_form f₁ b) (each f₁ f₂)) g, then_assoc (step_form f₁ b) (each f₁ f₂) g)

-- d begins the second, if the first may be at its end
abbrev pub if_ended : Bool → Option Form → Option Form
if_ended true o = o
if_ended false o = none

pub or-none : (o : Option Form) → or_else o none ≡ o
or-none none = refl
or-none (some f) = refl

or_same : (o : Option Form) → or_else o o ≡ o
or_same none = refl
or_same (some f) = refl

or_ended : (a b : Bool) (o : Option Form) → or_else (if_ended a o) (if_ended b o) ≡ if_ended (a || b) o
or_ended true true o = or_same o
or_ended true false o = or-none o
or_ended false b o = refl

pub step_second : (d : ℕ) (f g : Form) → free d f ≡ true → step_form (after f g) d ≡ if_ended (may_end_form f) (step_form g d)
unfolding every step_form may_end_form
step_second d done g h = refl
step_second d (one c f) g h = rw (not-true (c.has d) (left _ (free d f) h))
step_second d (up_to zero p f) g h = step_second d f g (right (not (p d)) _ h)
step_second d (up_to (suc n) p f) g h = rw (step_second d f g (right (not (p d)) _ h), not-true (p d) (left _ (free d f) h)) (or-none _)
step_second d (many p f) g h = rw (step_second d f g (right (not (p d)) _ h), not-true (p d) (left _ (free d f) h)) (or-none _)
step_second d (either f₁ f₂) g h = rw (step_second d f₁ g (left _ (free d f₂) h), step_second d f₂ g (right (free d f₁) _ h)) (or_ended (may_end_form f₁) (may_end_form f₂) (step_form g d))
step_second d (each f₁ f₂) g h = rw (step_second d f₂ g (right (free d f₁) _ h), step_free d f₁ (left _ (free d f₂) h)) (or-none _)
