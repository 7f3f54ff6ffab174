-- What single parts accept. Assumes nothing.
use mathlib.Core.Bool.{Bool, true, false, ◌&&◌}
use mathlib.Core.List.{List, [], ◌∷◌}
use mathlib.Core.Path.{◌≡◌, refl}
use Prim.Native.Nat.{ℕ}
use Rattle.scanner.specs.Form.{Class, Form, done, one, step_form, may_end_form, accepts_form}
use Rattle.scanner.proofs.Forms.{form_end, form_to, form_off}

pub one_accepts : (c : Class) (f : Form) (b : ℕ) (l : List ℕ) → accepts_form (one c f) (b ∷ l) ≡ c.has b && accepts_form f l
unfolding step_form
one_accepts c f b l = go (c.has b) refl
  where
    go : (t : Bool) → c.has b ≡ t → accepts_form (one c f) (b ∷ l) ≡ t && accepts_form f l
    go true e = form_to (one c f) f b l (rw e)
    go false e = form_off (one c f) b l (rw e)

pub one_nil : (c : Class) (f : Form) → accepts_form (one c f) [] ≡ false
unfolding may_end_form
one_nil c f = form_end (one c f)

pub done_accepts : (b : ℕ) (l : List ℕ) → accepts_form done (b ∷ l) ≡ false
unfolding step_form
done_accepts b l = form_off done b l refl

pub done_nil : accepts_form done [] ≡ true
unfolding may_end_form
done_nil = form_end done
