-- What stands before CR LF in a head or a trailer, a field or a status: its form has just the good texts. Assumes nothing.
use mathlib.Core.Bool.{Bool, true, false, ◌&&◌}
use mathlib.Core.List.{List, [], ◌∷◌}
use mathlib.Core.Path.{◌≡◌, refl, sym, ◌∙◌}
use Prim.Native.Nat.{ℕ, zero, suc}
use lib.Dec.{eqb, leb, eqb-suc-suc, eqb-suc-zero, eqb-zero-suc}
use lib.ListN.{length, drop}
use Rattle.octets.specs.Octets.{octets}
use Rattle.scanner.specs.Form.{Class, Form, done, many, text, times, accepts_form}
use Rattle.scanner.proofs.Forms.{form_off}
use Rattle.scanner.proofs.Parts.{one_accepts, one_nil}
use Rattle.stream.specs.Bytes.{is_digit, is_tchar, is_text}
use Rattle.stream.specs.Lines.{field_scan, is_field_line, status_scan, is_status_line}
use Rattle.stream.specs.Template.{Part, text as fixed, bytes, Scanned, parts, unlike, keep, kept, scan, is_like, run, past, starts_with}
use Rattle.stream.specs.Forms.{name_byte, digit, name_form, field_form, status_form}
use Rattle.classes.proofs.RunLaws.{run_cons}
use Rattle.text.proofs.SameLaws.{both_false, both_true}
use Rattle.text_forms.proofs.Parts.{Apart, apart_text, apart_done, text_accepts, more_accepts, past_on, past_off}
use Rattle.text_forms.proofs.Templates.{form_of, scan_accepts, scan_fixed}

-- the first of the runs that are kept has to pass a test
kept_first : (t : List ℕ → Bool) (r : List ℕ) (x : Scanned) → is_like (keep r x) && t (kept 0 (keep r x)) ≡ t r && is_like x
kept_first t r (parts ls) = sym (both_true (t r))
kept_first t r unlike = sym (both_false (t r))

-- ---- a field line

after_name : List Part
after_name = fixed (octets ":") ∷ bytes is_text ∷ []

pub field_accepts : (l : List ℕ) → is_field_line l ≡ accepts_form field_form l
unfolding is_field_line field_scan scan field_form name_form after_name form_of
field_accepts l =
    kept_first (λ r. leb 1 (length r)) (run is_tchar l) (scan after_name (past is_tchar l))
    ∙ rw (scan_accepts after_name (apart_done is_text, tt) (past is_tchar l))
    (sym (more_accepts name_byte (text (octets ":") (many is_text done)) (apart_text is_tchar 58 [] (many is_text done) refl) l))

-- ---- a status line

-- a run of just n bytes
times_accepts : (n : ℕ) (c : Class) (f : Form) → Apart c.has f → (l : List ℕ)
    → accepts_form (times n c f) l ≡ eqb (length (run c.has l)) n && accepts_form f (past c.has l)
unfolding run past
times_accepts zero c f h [] = refl
times_accepts (suc n) c f h [] = one_nil c _ ∙ rw (eqb-zero-suc n)
times_accepts zero c f h (b ∷ l) = go (c.has b) refl
  where
    go : (t : Bool) → c.has b ≡ t → accepts_form f (b ∷ l) ≡ eqb (length (run c.has (b ∷ l))) 0 && accepts_form f (past c.has (b ∷ l))
    go true e = form_off f b l (h b e) ∙ rw (run_cons c.has b l true e, eqb-suc-zero)
    go false e = rw (run_cons c.has b l false e, past_off c.has b l e)
times_accepts (suc n) c f h (b ∷ l) = one_accepts c _ b l ∙ go (c.has b) refl (times_accepts n c f h l)
  where
    go : (t : Bool) → c.has b ≡ t → accepts_form (times n c f) l ≡ eqb (length (run c.has l)) n && accepts_form f (past c.has l)
        → t && accepts_form (times n c f) l ≡ eqb (length (run c.has (b ∷ l))) (suc n) && accepts_form f (past c.has (b ∷ l))
    go true e ih = ih ∙ rw (run_cons c.has b l true e, past_on c.has b l e, eqb-suc-suc)
    go false e ih = rw (run_cons c.has b l false e, eqb-zero-suc)

after_status : List Part
after_status = fixed (octets " ") ∷ bytes is_text ∷ []

version : List ℕ
version = octets "HTTP/1.1 "

pub status_accepts : (l : List ℕ) → is_status_line l ≡ accepts_form status_form l
unfolding is_status_line status_scan scan status_form after_status version form_of
status_accepts l = go (starts_with version l) refl ∙ sym (text_accepts version (times 3 digit (text (octets " ") (many is_text done))) l)
  where
    go : (x : Bool) → starts_with version l ≡ x
        → is_status_line l ≡ starts_with version l && accepts_form (times 3 digit (text (octets " ") (many is_text done))) (drop (length version) l)
    go true e =
        rw (e, scan_fixed version (bytes is_digit ∷ after_status) l true e)
        (kept_first (λ r. eqb (length r) 3) (run is_digit (drop (length version) l)) (scan after_status (past is_digit (drop (length version) l)))
        ∙ rw (scan_accepts after_status (apart_done is_text, tt) (past is_digit (drop (length version) l)))
        (sym (times_accepts 3 digit (text (octets " ") (many is_text done)) (apart_text is_digit 32 [] (many is_text done) refl) (drop (length version) l))))
    go false e = rw (e, scan_fixed version (bytes is_digit ∷ after_status) l false e)
