-- A form's scanner: its single steps, and that from every state it can be finished. Assumes nothing.
use mathlib.Core.Bool.{Bool, true, false, ◌||◌, false≢true}
use mathlib.Core.List.{List, [], ◌∷◌}
use mathlib.Core.Option.{Option, none, some}
use mathlib.Core.Path.{◌≡◌, refl, sym, ◌∙◌}
use Prim.Native.Nat.{ℕ, zero, suc}
use Rattle.scanner.specs.Scanner.{accepts_from, accepts}
use Rattle.scanner.specs.Form.{Form, done, one, up_to, many, either, each, step_form, may_end_form, scanner_of, accepts_form}
use Rattle.scanner.proofs.Finishing.{Finishing}
use Rattle.scanner.proofs.Reach.{accepts_to, accepts_off}

-- ---- a single step

pub form_end : (f : Form) → accepts_form f [] ≡ may_end_form f
unfolding accepts_form accepts accepts_from
form_end f = refl

pub form_to : (f s : Form) (b : ℕ) (l : List ℕ) → step_form f b ≡ some s → accepts_form f (b ∷ l) ≡ accepts_form s l
unfolding accepts_form accepts
form_to f s b l e = accepts_to step_form may_end_form f s b l e

pub form_off : (f : Form) (b : ℕ) (l : List ℕ) → step_form f b ≡ none → accepts_form f (b ∷ l) ≡ false
unfolding accepts_form accepts
form_off f b l e = accepts_off step_form may_end_form f b l e

-- where a byte leaves the same of two forms, they accept the same texts that begin with it
pub form_alike : (f g : Form) (b : ℕ) (l : List ℕ) → step_form f b ≡ step_form g b → accepts_form f (b ∷ l) ≡ accepts_form g (b ∷ l)
form_alike f g b l e = go (step_form g b) refl
  where
    go : (o : Option Form) → step_form g b ≡ o → accepts_form f (b ∷ l) ≡ accepts_form g (b ∷ l)
    go none q = form_off f b l (e ∙ q) ∙ sym (form_off g b l q)
    go (some s) q = form_to f s b l (e ∙ q) ∙ sym (form_to g s b l q)

-- ---- the shortest way to an end

unfoldable pub finish_form : Form → List ℕ
finish_form done = []
finish_form (one c f) = c.sample ∷ finish_form f
finish_form (up_to n p f) = finish_form f
finish_form (many p f) = finish_form f
finish_form (either f₁ f₂) = finish_form f₁
finish_form (each f₁ f₂) = finish_form f₂

-- g has every step of f, and perhaps more
accepts_more : (f g : Form) → (may_end_form f ≡ true → may_end_form g ≡ true) → ((b : ℕ) (s : Form) → step_form f b ≡ some s → step_form g b ≡ some s)
    → (l : List ℕ) → accepts_form f l ≡ true → accepts_form g l ≡ true
accepts_more f g h k [] e = form_end g ∙ h (sym (form_end f) ∙ e)
accepts_more f g h k (b ∷ l) e = go (step_form f b) refl
  where
    go : (o : Option Form) → step_form f b ≡ o → accepts_form g (b ∷ l) ≡ true
    go none q = absurd (false≢true (sym (form_off f b l q) ∙ e))
    go (some s) q = form_to g s b l (k b s q) ∙ sym (form_to f s b l q) ∙ e

or_left : (a b : Bool) → a ≡ true → a || b ≡ true
or_left a b e = rw e

pub finishes_form : (f : Form) → accepts_form f (finish_form f) ≡ true
unfolding finish_form may_end_form step_form
finishes_form done = form_end done
finishes_form (one c f) = form_to (one c f) f c.sample (finish_form f) (rw c.member) ∙ finishes_form f
finishes_form (up_to zero p f) = accepts_more f (up_to zero p f) (λ e. e) (λ b s e. e) (finish_form f) (finishes_form f)
finishes_form (up_to (suc n) p f) = accepts_more f (up_to (suc n) p f) (λ e. e) (λ b s e. rw e) (finish_form f) (finishes_form f)
finishes_form (many p f) = accepts_more f (many p f) (λ e. e) (λ b s e. rw e) (finish_form f) (finishes_form f)
finishes_form (either f₁ f₂) = accepts_more f₁ (either f₁ f₂) (or_left (may_end_form f₁) (may_end_form f₂)) (λ b s e. rw e) (finish_form f₁) (finishes_form f₁)
finishes_form (each f₁ f₂) = accepts_more f₂ (each f₁ f₂) (λ e. e) (λ b s e. rw e) (finish_form f₂) (finishes_form f₂)

unfoldable pub finishing : (f : Form) → Finishing (scanner_of f)
unfolding accepts_form accepts
finishing f = record { finish = finish_form; finishes = finishes_form }
