-- Templates as forms: a text is read by a template just where the template's form accepts it. Assumes nothing.
use mathlib.Core.Bool.{Bool, true, false, ◌&&◌}
use mathlib.Core.List.{List, [], ◌∷◌}
use mathlib.Core.Path.{◌≡◌, refl, sym, ◌∙◌}
use Prim.Native.Nat.{ℕ}
use lib.ListN.{length, drop}
use Rattle.scanner.specs.Form.{Form, done, many, text, accepts_form}
use Rattle.scanner.proofs.Parts.{done_nil, done_accepts}
use Rattle.stream.specs.Bytes.{is_blank}
use Rattle.stream.specs.Template.{Part, text as fixed, bytes, gap, unlike, scan, is_like, run, past, starts_with}
use Rattle.classes.proofs.ScanLaws.{keep_like}
use Rattle.text_forms.proofs.Parts.{Apart, text_accepts, many_accepts}

unfoldable pub form_of : List Part → Form
form_of [] = done
form_of (fixed t ∷ ps) = text t (form_of ps)
form_of (bytes p ∷ ps) = many p (form_of ps)
form_of (gap ∷ ps) = many is_blank (form_of ps)

-- Every run stops before what follows it: there is one way only to read a text.
abbrev Distinct : List Part → Type 0
Distinct [] = Unit {0}
Distinct (fixed t ∷ ps) = Distinct ps
Distinct (bytes p ∷ ps) = Apart p (form_of ps) × Distinct ps
Distinct (gap ∷ ps) = Apart is_blank (form_of ps) × Distinct ps

-- a fixed part, where its test is known
pub scan_fixed : (t : List ℕ) (ps : List Part) (l : List ℕ) (x : Bool) → starts_with t l ≡ x → scan (fixed t ∷ ps) l ≡ elim x [ true ↦ scan ps (drop (length t) l) | false ↦ unlike ]
unfolding scan
scan_fixed t ps l true e = rw (e, scan)
scan_fixed t ps l false e = rw (e, scan)

pub scan_accepts : (ps : List Part) → Distinct ps → (l : List ℕ) → is_like (scan ps l) ≡ accepts_form (form_of ps) l
unfolding scan form_of
scan_accepts [] h [] = sym done_nil
scan_accepts [] h (b ∷ l) = sym (done_accepts b l)
scan_accepts (fixed t ∷ ps) h l = go (starts_with t l) refl (scan_accepts ps h (drop (length t) l)) ∙ sym (text_accepts t (form_of ps) l)
  where
    go : (x : Bool) → starts_with t l ≡ x → is_like (scan ps (drop (length t) l)) ≡ accepts_form (form_of ps) (drop (length t) l)
        → is_like (scan (fixed t ∷ ps) l) ≡ starts_with t l && accepts_form (form_of ps) (drop (length t) l)
    go true e ih = rw (scan_fixed t ps l true e, e, ih)
    go false e ih = rw (scan_fixed t ps l false e, e)
scan_accepts (bytes p ∷ ps) h l = keep_like (run p l) (scan ps (past p l)) ∙ scan_accepts ps h.1 (past p l) ∙ sym (many_accepts p (form_of ps) h.0 l)
scan_accepts (gap ∷ ps) h l = scan_accepts ps h.1 (past is_blank l) ∙ sym (many_accepts is_blank (form_of ps) h.0 l)
