-- Parts of a form beside the definitions of templates: fixed text is what a text starts with, and a run goes as far as its class does.
-- Assumes nothing.
use mathlib.Core.Bool.{Bool, true, false, ◌&&◌, true≢false, and_assoc}
use mathlib.Core.List.{List, [], ◌∷◌}
use mathlib.Core.Option.{none}
use mathlib.Core.Path.{◌≡◌, refl, sym, ap, ◌∙◌}
use Prim.Native.Nat.{ℕ, zero, suc}
use borrow.Author.Tests.{ne_eqb}
use lib.Dec.{eqb, leb, leb-zero, leb-suc-suc, leb-suc-zero}
use lib.ListN.{length, drop}
use Rattle.scanner.specs.Form.{Class, Form, done, one, up_to, many, text, step_form, may_end_form, accepts_form}
use Rattle.scanner.proofs.Forms.{form_end, form_to, form_off, form_alike}
use Rattle.scanner.proofs.Joined.{or-none}
use Rattle.scanner.proofs.Parts.{one_accepts, one_nil}
use Rattle.stream.specs.Bytes.{same, between}
use Rattle.stream.specs.Template.{run, past, starts_with}
use Rattle.classes.proofs.RunLaws.{run_cons}
use Rattle.text.proofs.SameLaws.{eqb_sym}

-- ---- fixed text

pub text_accepts : (t : List ℕ) (f : Form) (l : List ℕ) → accepts_form (text t f) l ≡ starts_with t l && accepts_form f (drop (length t) l)
unfolding starts_with same
text_accepts [] f l = refl
text_accepts (x ∷ t) f [] = one_nil _ (text t f)
text_accepts (x ∷ t) f (y ∷ l) = one_accepts _ (text t f) y l ∙ rw (eqb_sym y x, text_accepts t f l) (sym (and_assoc (eqb x y) (starts_with t l) (accepts_form f (drop (length t) l))))

-- ---- runs

-- No byte of the class begins the form: where one stands, the run goes on.
abbrev pub Apart : (ℕ → Bool) → Form → Type 0
Apart p f = (b : ℕ) → p b ≡ true → step_form f b ≡ none

pub apart_done : (p : ℕ → Bool) → Apart p done
unfolding step_form
apart_done p b e = refl

pub apart_text : (p : ℕ → Bool) (c : ℕ) (t : List ℕ) (f : Form) → p c ≡ false → Apart p (text (c ∷ t) f)
unfolding step_form
apart_text p c t f h b e = rw (ne_eqb b c (λ q. true≢false (sym e ∙ ap p q ∙ h)))

pub past_on : (p : ℕ → Bool) (b : ℕ) (l : List ℕ) → p b ≡ true → past p (b ∷ l) ≡ past p l
unfolding past
past_on p b l e = rw (e, past)

pub past_off : (p : ℕ → Bool) (b : ℕ) (l : List ℕ) → p b ≡ false → past p (b ∷ l) ≡ b ∷ l
unfolding past
past_off p b l e = rw (e, past)

pub many_accepts : (p : ℕ → Bool) (f : Form) → Apart p f → (l : List ℕ) → accepts_form (many p f) l ≡ accepts_form f (past p l)
unfolding step_form may_end_form past
many_accepts p f h [] = form_end (many p f) ∙ sym (form_end f)
many_accepts p f h (b ∷ l) = go (p b) refl (many_accepts p f h l)
  where
    go : (t : Bool) → p b ≡ t → accepts_form (many p f) l ≡ accepts_form f (past p l) → accepts_form (many p f) (b ∷ l) ≡ accepts_form f (past p (b ∷ l))
    go true e ih = form_to (many p f) (many p f) b l (rw (h b e, e)) ∙ ih ∙ ap (accepts_form f) (sym (past_on p b l e))
    go false e ih = form_alike (many p f) f b l (rw e (or-none (step_form f b))) ∙ ap (accepts_form f) (sym (past_off p b l e))

-- so the whole run is taken, and has to be short enough
up_to_accepts : (n : ℕ) (p : ℕ → Bool) (f : Form) → Apart p f → (l : List ℕ) → accepts_form (up_to n p f) l ≡ leb (length (run p l)) n && accepts_form f (past p l)
unfolding step_form may_end_form past run
up_to_accepts n p f h [] = form_end (up_to n p f) ∙ sym (form_end f) ∙ rw (leb-zero n)
up_to_accepts zero p f h (b ∷ l) = go (p b) refl
  where
    go : (t : Bool) → p b ≡ t → accepts_form (up_to 0 p f) (b ∷ l) ≡ leb (length (run p (b ∷ l))) 0 && accepts_form f (past p (b ∷ l))
    go true e = form_off (up_to 0 p f) b l (h b e) ∙ rw (run_cons p b l true e, leb-suc-zero)
    go false e = form_alike (up_to 0 p f) f b l refl ∙ rw (run_cons p b l false e, past_off p b l e)
up_to_accepts (suc n) p f h (b ∷ l) = go (p b) refl (up_to_accepts n p f h l)
  where
    go : (t : Bool) → p b ≡ t → accepts_form (up_to n p f) l ≡ leb (length (run p l)) n && accepts_form f (past p l)
        → accepts_form (up_to (suc n) p f) (b ∷ l) ≡ leb (length (run p (b ∷ l))) (suc n) && accepts_form f (past p (b ∷ l))
    go true e ih = form_to (up_to (suc n) p f) (up_to n p f) b l (rw (h b e, e)) ∙ ih ∙ rw (run_cons p b l true e, past_on p b l e, leb-suc-suc)
    go false e ih = form_alike (up_to (suc n) p f) f b l (rw e (or-none (step_form f b))) ∙ rw (run_cons p b l false e, past_off p b l e, leb-zero (suc n))

-- one byte at least, and n more at most
pub some_accepts : (n : ℕ) (c : Class) (f : Form) → Apart c.has f → (l : List ℕ)
    → accepts_form (one c (up_to n c.has f)) l ≡ between 1 (suc n) (length (run c.has l)) && accepts_form f (past c.has l)
unfolding run past
some_accepts n c f h [] = one_nil c _
some_accepts n c f h (b ∷ l) = one_accepts c _ b l ∙ go (c.has b) refl
  where
    go : (t : Bool) → c.has b ≡ t → t && accepts_form (up_to n c.has f) l ≡ between 1 (suc n) (length (run c.has (b ∷ l))) && accepts_form f (past c.has (b ∷ l))
    go true e = up_to_accepts n c.has f h l ∙ rw (run_cons c.has b l true e, past_on c.has b l e, leb-suc-suc (length (run c.has l)) n, leb-suc-suc 0 (length (run c.has l)), leb-zero)
    go false e = rw (run_cons c.has b l false e)

-- one byte at least, and no limit
pub more_accepts : (c : Class) (f : Form) → Apart c.has f → (l : List ℕ)
    → accepts_form (one c (many c.has f)) l ≡ leb 1 (length (run c.has l)) && accepts_form f (past c.has l)
unfolding run past
more_accepts c f h [] = one_nil c _
more_accepts c f h (b ∷ l) = one_accepts c _ b l ∙ go (c.has b) refl
  where
    go : (t : Bool) → c.has b ≡ t → t && accepts_form (many c.has f) l ≡ leb 1 (length (run c.has (b ∷ l))) && accepts_form f (past c.has (b ∷ l))
    go true e = many_accepts c.has f h l ∙ rw (run_cons c.has b l true e, past_on c.has b l e, leb-suc-suc 0 (length (run c.has l)), leb-zero)
    go false e = rw (run_cons c.has b l false e)
