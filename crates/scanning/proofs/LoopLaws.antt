-- A turn of the loop: what is still to come of a text from a place on, by the byte that stands there. Assumes nothing.
use mathlib.Core.Bool.{Bool, false}
use mathlib.Core.List.{List, ◌∷◌}
use mathlib.Core.Option.{none, some}
use mathlib.Core.Path.{◌≡◌, sym, ap, ◌∙◌}
use Prim.Native.Nat.{ℕ, suc, ◌+◌, ◌≤◌, ◌<◌}
use native.Mathlib.Nat.{zero-add, add-zero}
use native.Mathlib.Numerals.{add-one}
use native.Mathlib.Omega.{arith}
use lib.ListN.{length, drop, get_or, drop_of_length-le}
use lib.Seq.{drop-cons}
use Rattle.places.specs.declared.Checked.{Checked}
use Rattle.scanner.specs.Form.{Form, step_form, may_end_form, accepts_form, reach_form}
use Rattle.scanner.specs.Scanner.{accepts, reach, accepts_from, reach_from}
use Rattle.scanning.specs.States.{scanned}

-- the answer, where i bytes agreed already and l comes next
unfoldable pub scanned_on : ℕ → Form → List ℕ → Checked
scanned_on i f l = record { good = accepts_form f l; at = i + reach_form f l }

pub on_start : (f : Form) (l : List ℕ) → scanned f l ≡ scanned_on 0 f l
unfolding scanned scanned_on
on_start f l = rw (zero-add (reach_form f l))

byte_to : (f g : Form) (b : ℕ) (l : List ℕ) (i : ℕ) → step_form f b ≡ some g → scanned_on i f (b ∷ l) ≡ scanned_on (i + 1) g l
unfolding scanned_on accepts_form reach_form accepts reach accepts_from reach_from
byte_to f g b l i e =
    let n : i + suc (reach_from step_form g l) ≡ i + 1 + reach_from step_form g l = omega arith in
    rw (e, accepts_from, reach_from, n)

byte_off : (f : Form) (b : ℕ) (l : List ℕ) (i : ℕ) → step_form f b ≡ none → scanned_on i f (b ∷ l) ≡ record { good = false; at = i }
unfolding scanned_on accepts_form reach_form accepts reach accepts_from reach_from
byte_off f b l i e = rw (e, accepts_from, reach_from, add-zero i)

module _ (s : List ℕ) (i : ℕ) (f : Form) where
  pub turn_to_lem : (g : Form) → i < length s → step_form f (get_or s i 0) ≡ some g → scanned_on i f (drop i s) ≡ scanned_on (i + 1) g (drop (i + 1) s)
  turn_to_lem g h e =
      rw (drop-cons s i 0 h) (byte_to f g (get_or s i 0) (drop (suc i) s) i e ∙ ap (λ (k : ℕ). scanned_on (i + 1) g (drop k s)) (sym (add-one i)))

  pub turn_off : i < length s → step_form f (get_or s i 0) ≡ none → record { good = false; at = i } ≡ scanned_on i f (drop i s)
  turn_off h e = rw (drop-cons s i 0 h) (sym (byte_off f (get_or s i 0) (drop (suc i) s) i e))

  pub turn_end : (t : Bool) → length s ≤ i → t ≡ may_end_form f → record { good = t; at = i } ≡ scanned_on i f (drop i s)
  unfolding scanned_on accepts_form reach_form accepts reach accepts_from reach_from
  turn_end t h e = rw (drop_of_length-le s h, e, add-zero i)
