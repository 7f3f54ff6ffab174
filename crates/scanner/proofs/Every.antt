-- A test of every part of a form: what a byte leaves to come passes it where the form does. Assumes nothing.
use mathlib.Core.Bool.{Bool, true, false, ◌&&◌, and-eq-true_iff}
use mathlib.Core.Option.{Option, none, some}
use mathlib.Core.Path.{◌≡◌}
use Prim.Native.Nat.{ℕ, zero, suc}
use Rattle.scanner.specs.Form.{Class, Form, done, one, up_to, many, either, each, after, or_else, when, and_then, step_form}

pub left : (a b : Bool) → a && b ≡ true → a ≡ true
left a b h = ((and-eq-true_iff a b).0 h).0

pub right : (a b : Bool) → a && b ≡ true → b ≡ true
right a b h = ((and-eq-true_iff a b).0 h).1

pub both : (a b : Bool) → a ≡ true → b ≡ true → a && b ≡ true
both a b p q = rw (p, q)

-- the one test for single bytes of a class, the other for runs
unfoldable pub every : (Class → Bool) → ((ℕ → Bool) → Bool) → Form → Bool
every t r done = true
every t r (one c f) = t c && every t r f
every t r (up_to n p f) = r p && every t r f
every t r (many p f) = r p && every t r f
every t r (either f₁ f₂) = every t r f₁ && every t r f₂
every t r (each f₁ f₂) = every t r f₁ && every t r f₂

module _ (t : Class → Bool) (r : (ℕ → Bool) → Bool) where
  after_every : (f g : Form) → every t r f ≡ true → every t r g ≡ true → every t r (after f g) ≡ true
  unfolding every
  after_every done g h k = k
  after_every (one c f) g h k = both (t c) _ (left (t c) (every t r f) h) (after_every f g (right (t c) _ h) k)
  after_every (up_to n p f) g h k = both (r p) _ (left (r p) (every t r f) h) (after_every f g (right (r p) _ h) k)
  after_every (many p f) g h k = both (r p) _ (left (r p) (every t r f) h) (after_every f g (right (r p) _ h) k)
  after_every (either f₁ f₂) g h k = both _ _ (after_every f₁ g (left _ (every t r f₂) h) k) (after_every f₂ g (right (every t r f₁) _ h) k)
  after_every (each f₁ f₂) g h k = both (every t r f₁) _ (left (every t r f₁) (every t r f₂) h) (after_every f₂ g (right (every t r f₁) _ h) k)

  abbrev EveryNext : Option Form → Type 0
  EveryNext none = Unit {0}
  EveryNext (some f) = every t r f ≡ true

  or_every : (o p : Option Form) → EveryNext o → EveryNext p → EveryNext (or_else o p)
  or_every none p h k = k
  or_every (some f) p h k = h

  when_every : (x : Bool) (f : Form) → every t r f ≡ true → EveryNext (when x f)
  when_every true f h = h
  when_every false f h = tt

  then_every : (o : Option Form) (g : Form) → EveryNext o → every t r g ≡ true → EveryNext (and_then o g)
  then_every none g h k = tt
  then_every (some f) g h k = after_every f g h k

  next_every : (f : Form) (b : ℕ) → every t r f ≡ true → EveryNext (step_form f b)
  unfolding every step_form
  next_every done b h = tt
  next_every (one c f) b h = when_every (c.has b) f (right (t c) _ h)
  next_every (up_to zero p f) b h = next_every f b (right (r p) _ h)
  next_every (up_to (suc n) p f) b h = or_every (step_form f b) (when (p b) (up_to n p f)) (next_every f b (right (r p) _ h)) (when_every (p b) (up_to n p f) h)
  next_every (many p f) b h = or_every (step_form f b) (when (p b) (many p f)) (next_every f b (right (r p) _ h)) (when_every (p b) (many p f) h)
  next_every (either f₁ f₂) b h = or_every (step_form f₁ b) (step_form f₂ b) (next_every f₁ b (left _ (every t r f₂) h)) (next_every f₂ b (right (every t r f₁) _ h))
  next_every (each f₁ f₂) b h =
      or_every (step_form f₂ b) (and_then (step_form f₁ b) (each f₁ f₂)) (next_every f₂ b (right (every t r f₁) _ h))
      (then_every (step_form f₁ b) (each f₁ f₂) (next_every f₁ b (left _ (every t r f₂) h)) h)

  pub to_every : (f s : Form) (b : ℕ) → every t r f ≡ true → step_form f b ≡ some s → every t r s ≡ true
  to_every f s b h e = rw e at (next_every f b h)
