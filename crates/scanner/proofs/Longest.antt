-- The longest beginning, for any form that is completed by bytes. Assumes nothing.
use mathlib.Core.Bool.{Bool, true}
use mathlib.Core.List.{List, [], ◌∷◌}
use mathlib.Core.Option.{Option, none, some}
use mathlib.Core.Path.{◌≡◌, refl}
use Prim.Native.Nat.{ℕ}
use lib.Dec.{ltb}
use lib.ListN.{length}
use lib.Pow.{are_bytes}
use Rattle.octets.specs.Viable.{LongestViable}
use Rattle.scanner.specs.Form.{Form, done, one, up_to, many, either, each, step_form, scanner_of, accepts_form, reach_form}
use Rattle.scanner.proofs.Every.{left, right, both, every, to_every}
use Rattle.scanner.proofs.Finishing.{last_from, ending}
use Rattle.scanner.proofs.Forms.{finish_form, finishing}
use Rattle.scanner.proofs.Reach.{good_whole, reach_longest}

-- the bytes by which a form is completed are bytes
abbrev pub of_bytes : Form → Bool
of_bytes f = every (λ c. ltb c.sample 256) (λ p. true) f

finish_bytes : (f : Form) → of_bytes f ≡ true → are_bytes (finish_form f) ≡ true
unfolding every finish_form
finish_bytes done h = refl
finish_bytes (one c f) h = both (ltb c.sample 256) (are_bytes (finish_form f)) (left (ltb c.sample 256) (of_bytes f) h) (finish_bytes f (right (ltb c.sample 256) (of_bytes f) h))
finish_bytes (up_to n p f) h = finish_bytes f h
finish_bytes (many p f) h = finish_bytes f h
finish_bytes (either f₁ f₂) h = finish_bytes f₁ (left (of_bytes f₁) (of_bytes f₂) h)
finish_bytes (each f₁ f₂) h = finish_bytes f₂ (right (of_bytes f₁) (of_bytes f₂) h)

last_bytes : (f : Form) (l : List ℕ) → of_bytes f ≡ true → of_bytes (last_from step_form f l) ≡ true
unfolding last_from
last_bytes f [] h = h
last_bytes f (b ∷ l) h = go (step_form f b) refl (λ s k. last_bytes s l k)
  where
    go : (o : Option Form) → step_form f b ≡ o → ((s : Form) → of_bytes s ≡ true → of_bytes (last_from step_form s l) ≡ true) → of_bytes (last_from step_form f (b ∷ l)) ≡ true
    go none e ih = rw (e, last_from) h
    go (some s) e ih = rw (e, last_from) (ih s (to_every (λ c. ltb c.sample 256) (λ p. true) f s b h e))

ending_bytes : (f : Form) → of_bytes f ≡ true → (l : List ℕ) → are_bytes (ending (scanner_of f) (finishing f) l) ≡ true
unfolding ending finishing
ending_bytes f h l = finish_bytes (last_from step_form f l) (last_bytes f l h)

-- ---- the law for every form, whatever test says which texts are good

module _ (f : Form) (h : of_bytes f ≡ true) (good : List ℕ → Bool) (just : (l : List ℕ) → good l ≡ accepts_form f l) where
  pub form_longest : (l : List ℕ) → LongestViable good l (reach_form f l)
  unfolding accepts_form reach_form
  form_longest l = reach_longest (scanner_of f) (finishing f) (ending_bytes f h) good just l

  pub form_whole : (l : List ℕ) → good l ≡ true → reach_form f l ≡ length l
  unfolding accepts_form reach_form
  form_whole l e = good_whole (scanner_of f) l (rw (just l) at e)
