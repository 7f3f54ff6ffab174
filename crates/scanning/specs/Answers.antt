-- What each reader answers: whether the text is good by the rules' own test, and how far it agrees with its form. Assumes nothing.
use Rattle.std.specs.Prelude.{Bool, List, ℕ}
use Rattle.places.specs.declared.Checked.{Checked}
use Rattle.scanner.specs.Form.{Form, reach_form}

abbrev pub answer_for : (List ℕ → Bool) → Form → List ℕ → Checked
answer_for good form l = record { good = good l; at = reach_form form l }
