-- Single lines with their CR LF, a name by itself, and the end of a block's data: their forms have just the good texts. Assumes nothing.
use mathlib.Core.Bool.{Bool, true, false, ◌&&◌}
use mathlib.Core.List.{List, [], ◌∷◌}
use mathlib.Core.Path.{◌≡◌, refl, sym, ◌∙◌}
use Prim.Native.Nat.{ℕ, suc, ◌-◌}
use native.Mathlib.Omega.{arith}
use borrow.Author.Tests.{le-leb}
use lib.Dec.{eqb, leb}
use lib.ListN.{length, take}
use Rattle.octets.specs.Viable.{LongestViable}
use Rattle.scanner.specs.Form.{done, accepts_form, reach_form}
use Rattle.scanner.proofs.Every.{every}
use Rattle.scanner.proofs.Joined.{free}
use Rattle.scanner.proofs.Longest.{of_bytes, form_longest}
use Rattle.scanner.proofs.Parts.{one_accepts, one_nil, done_accepts, done_nil}
use Rattle.stream.specs.Bytes.{same, all, is_tchar}
use Rattle.stream.specs.Forms.{name_byte, name_form, field_form, field_line_form, status_form, status_line_form, data_end_form}
use Rattle.stream.specs.GoodText.{is_good_data_end, is_good_field_line, is_good_status_line, is_name}
use Rattle.stream.specs.Template.{run, past}
use Rattle.classes.proofs.RunLaws.{run_cons}
use Rattle.text.proofs.SameLaws.{both_true, both_false}
use Rattle.text_forms.proofs.Parts.{apart_done, more_accepts, past_on, past_off}
use Rattle.text_forms.proofs.Lines.{ends_accepts}
use Rattle.text_forms.proofs.HeadLines.{field_accepts, status_accepts}

-- ---- a name

-- no byte is left after the run
all_past : (p : ℕ → Bool) (l : List ℕ) → all p l ≡ accepts_form done (past p l)
unfolding all past
all_past p [] = sym done_nil
all_past p (b ∷ l) = go (p b) refl (all_past p l)
  where
    go : (t : Bool) → p b ≡ t → all p l ≡ accepts_form done (past p l) → p b && all p l ≡ accepts_form done (past p (b ∷ l))
    go true e ih = rw (e, past_on p b l e) ih
    go false e ih = rw (e, past_off p b l e) (sym (done_accepts b l))

all_some : (p : ℕ → Bool) (l : List ℕ) → all p l && leb 1 (length l) ≡ leb 1 (length (run p l)) && accepts_form done (past p l)
unfolding all run
all_some p [] = refl
all_some p (b ∷ l) = go (p b) refl
  where
    go : (t : Bool) → p b ≡ t → (p b && all p l) && leb 1 (suc (length l)) ≡ leb 1 (length (run p (b ∷ l))) && accepts_form done (past p (b ∷ l))
    go true e = rw (e, run_cons p b l true e, past_on p b l e, le-leb 1 (suc (length l)) (omega arith), le-leb 1 (suc (length (run p l))) (omega arith), both_true (all p l)) (all_past p l)
    go false e = rw (e, run_cons p b l false e)

pub name_accepts : (l : List ℕ) → is_name l ≡ accepts_form name_form l
unfolding is_name name_form
name_accepts l = all_some is_tchar l ∙ sym (more_accepts name_byte done (apart_done is_tchar) l)

name_bytes : of_bytes name_form ≡ true
unfolding every name_form
name_bytes = refl

pub name_longest : (l : List ℕ) → LongestViable is_name l (reach_form name_form l)
name_longest l = form_longest name_form name_bytes is_name name_accepts l

-- ---- a field line

pub field_free : free 13 field_form ≡ true
unfolding every field_form name_form
field_free = refl

pub field_line_accepts : (l : List ℕ) → is_good_field_line l ≡ accepts_form field_line_form l
unfolding is_good_field_line field_line_form
field_line_accepts l = sym (ends_accepts field_form field_free l ∙ rw (field_accepts (take (length l - 2) l)))

field_line_bytes : of_bytes field_line_form ≡ true
unfolding every field_line_form field_form name_form
field_line_bytes = refl

pub field_line_longest : (l : List ℕ) → LongestViable is_good_field_line l (reach_form field_line_form l)
field_line_longest l = form_longest field_line_form field_line_bytes is_good_field_line field_line_accepts l

-- ---- a status line

pub status_free : free 13 status_form ≡ true
unfolding every status_form
status_free = refl

pub status_line_accepts : (l : List ℕ) → is_good_status_line l ≡ accepts_form status_line_form l
unfolding is_good_status_line status_line_form
status_line_accepts l = sym (ends_accepts status_form status_free l ∙ rw (status_accepts (take (length l - 2) l)))

status_line_bytes : of_bytes status_line_form ≡ true
unfolding every status_line_form status_form
status_line_bytes = refl

pub status_line_longest : (l : List ℕ) → LongestViable is_good_status_line l (reach_form status_line_form l)
status_line_longest l = form_longest status_line_form status_line_bytes is_good_status_line status_line_accepts l

-- ---- the end of a block's data

pub data_end_accepts : (l : List ℕ) → is_good_data_end l ≡ accepts_form data_end_form l
unfolding is_good_data_end same data_end_form
data_end_accepts [] = sym (one_nil _ _)
data_end_accepts (b ∷ []) = both_false (eqb b 13) ∙ sym (one_accepts _ _ b [] ∙ rw (one_nil _ done) (both_false (eqb b 13)))
data_end_accepts (b ∷ c ∷ []) = sym (one_accepts _ _ b (c ∷ []) ∙ rw (one_accepts _ done c [], done_nil))
data_end_accepts (b ∷ c ∷ d ∷ l) = sym (one_accepts _ _ b (c ∷ d ∷ l) ∙ rw (one_accepts _ done c (d ∷ l), done_accepts d l))

data_end_bytes : of_bytes data_end_form ≡ true
unfolding every data_end_form
data_end_bytes = refl

pub data_end_longest : (l : List ℕ) → LongestViable is_good_data_end l (reach_form data_end_form l)
data_end_longest l = form_longest data_end_form data_end_bytes is_good_data_end data_end_accepts l
