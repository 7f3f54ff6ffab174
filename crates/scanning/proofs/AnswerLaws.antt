-- From the answer for a form to the answer for the texts that the rules call good, and to the place of a section. Assumes nothing.
use mathlib.Core.Bool.{Bool, true, false}
use mathlib.Core.List.{List}
use mathlib.Core.Path.{◌≡◌, refl, ◌∙◌}
use Prim.Native.Nat.{ℕ}
use lib.ListN.{length}
use Rattle.octets.specs.Viable.{LongestViable}
use Rattle.places.specs.declared.Checked.{Checked}
use Rattle.scanner.specs.Form.{Form, reach_form}
use Rattle.stream.specs.Forms.{status_form, status_line_form, head_form}
use Rattle.stream.specs.Places.{place_in}
use Rattle.text_forms.specs.Exact.{Exact}
use Rattle.scanning.specs.Answers.{answer_for}
use Rattle.scanning.specs.States.{value_form, status_digits_form, version_form, scanned}

-- ---- whole texts

pub answers : {good : List ℕ → Bool} {f : Form} → Exact good f → (l : List ℕ) (r : Checked) (g : Form) → g ≡ f → r ≡ scanned g l
    → (r ≡ answer_for good f l) × LongestViable good l r.at
unfolding scanned
answers x l r g e q = (q ∙ rw (e, x.accepts l), rw (q, e) (x.longest l))

pub head_is : version_form true 0 ≡ head_form
unfolding head_form status_form version_form status_digits_form value_form
head_is = refl

pub status_is : version_form false 0 ≡ status_line_form
unfolding status_line_form status_form version_form status_digits_form value_form
status_is = refl

-- ---- sections: r is the answer for the text, and t says whether its end is there

module _ (f : Form) (l : List ℕ) (t ended : Bool) (e : t ≡ ended) where
  pub place_ended : (good : Bool) (r : Checked) → t ≡ true → r ≡ record { good = good; at = reach_form f l } → r.at ≡ place_in f ended l
  place_ended good r h q = rw (← e, h, q)

  pub place_open : t ≡ false → length l ≡ place_in f ended l
  place_open h = rw (← e, h)
