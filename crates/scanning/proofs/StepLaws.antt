-- What a byte leaves of the form that a state stands for, by the tests that the code makes. Assumes nothing.
use mathlib.Core.Bool.{Bool, true, false}
use mathlib.Core.List.{List, [], ◌∷◌}
use mathlib.Core.Option.{Option, none, some}
use mathlib.Core.Path.{◌≡◌, refl, sym, ◌∙◌}
use Prim.Native.Nat.{ℕ, zero, suc, ◌+◌, ◌-◌, ◌≤◌, ◌<◌}
use native.Mathlib.Numerals.{add-one}
use native.Mathlib.Omega.{arith}
use borrow.Author.Tests.{eq-eqb, ne_eqb}
use lib.Dec.{eqb}
use lib.ListN.{length, drop, get_or, drop_of_length-le}
use lib.Seq.{drop-cons}
use Rattle.std.specs.Bool.{then_some}
use Rattle.octets.specs.Octets.{octets}
use Rattle.base64_text.specs.Base64.{is_base64_letter}
use Rattle.scanner.specs.Form.{Form, done, many, either, text, or_else, when, step_form, may_end_form}
use Rattle.scanner.proofs.Joined.{then_when}
use Rattle.stream.specs.Bytes.{is_hex, is_digit, is_tchar, is_text}
use Rattle.stream.specs.Forms.{is_multiple, signature_form, extension_form, size_form, chunk_form, data_end_form, name_form, field_form, field_line_form, trailer_form}
use Rattle.scanning.specs.declared.state.State.{State}
use Rattle.scanning.specs.declared.state.State.TheVariants.{Line, Digits, Mark, Sig, Hash, Letters, Pads, Pad, Return, Version, Status, Lines, Field, FieldName, Value, LineFeed, Name, NameRest, End}
use Rattle.scanning.specs.States.{letters_form, sig_form, hash_form, mark_form, digits_form, follow_form, feed_form, value_form, field_name_form, version, status_digits_form, version_form, form_at, meant}

-- what `then_some` gives
pub meant_if : (t : Bool) (s : State) → meant (then_some t s) ≡ when t (form_at s)
meant_if true s = refl
meant_if false s = refl

-- ---- an arm of the match over the states: o is what the byte b leaves in the state s

module _ (s : State) (b : ℕ) (o : Option Form) where
  pub arm : (t : State) → s ≡ t → o ≡ step_form (form_at t) b → o ≡ step_form (form_at s) b
  arm t e f = rw e f

  pub return_arm : s ≡ Return → o ≡ when (eqb b 13) (feed_form false) → o ≡ step_form (form_at s) b
  unfolding step_form data_end_form feed_form
  return_arm e f = rw e f

  -- arms that ask for the byte's class: u is the answer
  module _ (u : Bool) where
    pub line_arm : s ≡ Line → u ≡ is_hex b → o ≡ when u (digits_form 7) → o ≡ step_form (form_at s) b
    unfolding step_form chunk_form size_form extension_form signature_form digits_form mark_form sig_form hash_form letters_form data_end_form
    line_arm e q f = f ∙ rw (e, q)

    pub lines_arm : s ≡ Lines → u ≡ is_tchar b → o ≡ or_else (when (eqb b 13) (feed_form false)) (when u (field_name_form true)) → o ≡ step_form (form_at s) b
    unfolding step_form trailer_form field_line_form field_form name_form feed_form field_name_form value_form
    lines_arm e q f = f ∙ rw (e, q, then_when (is_tchar b))

    pub field_arm : s ≡ Field → u ≡ is_tchar b → o ≡ when u (field_name_form false) → o ≡ step_form (form_at s) b
    unfolding step_form field_line_form field_form name_form field_name_form value_form
    field_arm e q f = f ∙ rw (e, q)

    pub field_name_arm : (follows : Bool) → s ≡ FieldName follows → u ≡ is_tchar b → o ≡ or_else (when (eqb b 58) (value_form follows)) (when u (field_name_form follows)) → o ≡ step_form (form_at s) b
    unfolding step_form field_name_form
    field_name_arm follows e q f = f ∙ rw (e, q)

    pub value_arm : (follows : Bool) → s ≡ Value follows → u ≡ is_text b → o ≡ or_else (when (eqb b 13) (feed_form follows)) (when u (value_form follows)) → o ≡ step_form (form_at s) b
    unfolding step_form value_form feed_form
    value_arm follows e q f = f ∙ rw (e, q)

    pub name_arm : s ≡ Name → u ≡ is_tchar b → o ≡ when u (many is_tchar done) → o ≡ step_form (form_at s) b
    unfolding step_form name_form
    name_arm e q f = f ∙ rw (e, q)

    pub name_rest_arm : s ≡ NameRest → u ≡ is_tchar b → o ≡ when u (many is_tchar done) → o ≡ step_form (form_at s) b
    unfolding step_form
    name_rest_arm e q f = f ∙ rw (e, q)

-- ---- a size

-- what ends its digits
abbrev ends : ℕ → Option Form
ends b = or_else (when (eqb b 59) (mark_form 1)) (when (eqb b 13) (feed_form false))

digits_none : (b : ℕ) → step_form (digits_form 0) b ≡ ends b
unfolding step_form digits_form mark_form data_end_form feed_form
digits_none b = refl

digits_some : (n b : ℕ) → step_form (digits_form (suc n)) b ≡ or_else (ends b) (when (is_hex b) (digits_form n))
unfolding step_form digits_form mark_form data_end_form feed_form
digits_some n b = refl

digits_end : (n b : ℕ) (f : Form) → ends b ≡ some f → some f ≡ step_form (digits_form n) b
digits_end zero b f e = sym (digits_none b ∙ e)
digits_end (suc n) b f e = sym (digits_some n b ∙ rw e)

pub digits_mark : (n b : ℕ) → b ≡ 59 → some (mark_form 1) ≡ step_form (digits_form n) b
digits_mark n b h = digits_end n b (mark_form 1) (rw (eq-eqb b 59 h))

pub digits_return : (n b : ℕ) → (b ≡ 59 → ⊥) → b ≡ 13 → some (feed_form false) ≡ step_form (digits_form n) b
digits_return n b h k = digits_end n b (feed_form false) (rw (ne_eqb b 59 h, eq-eqb b 13 k))

pub digits_over : (n b : ℕ) → (b ≡ 59 → ⊥) → (b ≡ 13 → ⊥) → n ≡ 0 → none ≡ step_form (digits_form n) b
digits_over n b h k i = rw (i, digits_none b, ne_eqb b 59 h, ne_eqb b 13 k)

pub digits_more : (n b : ℕ) (o : Option Form) (t : Bool) → (b ≡ 59 → ⊥) → (b ≡ 13 → ⊥) → (n ≡ 0 → ⊥) → t ≡ is_hex b → o ≡ when t (digits_form (n - 1)) → o ≡ step_form (digits_form n) b
digits_more zero b o t h k i e f = absurd (i refl)
digits_more (suc n) b o t h k i e f =
    let q : suc n - 1 ≡ n = omega arith in
    f ∙ rw (digits_some n b, ne_eqb b 59 h, ne_eqb b 13 k, e, q)

-- ---- a run of so many bytes of a class: letters of a signature, digits of a status

pub letters_last : (n b : ℕ) (o : Option Form) (t : Bool) → n ≡ 0 → t ≡ is_multiple 16 b → o ≡ when t (text (octets "==") data_end_form) → o ≡ step_form (letters_form n) b
unfolding step_form letters_form
letters_last n b o t h e f = f ∙ rw (h, e)

pub letters_more : (n b : ℕ) (o : Option Form) (t : Bool) → (n ≡ 0 → ⊥) → t ≡ is_base64_letter b → o ≡ when t (letters_form (n - 1)) → o ≡ step_form (letters_form n) b
unfolding step_form letters_form
letters_more zero b o t h e f = absurd (h refl)
letters_more (suc n) b o t h e f =
    let q : suc n - 1 ≡ n = omega arith in
    f ∙ rw (e, q)

pub status_last : (follows : Bool) (n b : ℕ) (o : Option Form) → n ≡ 0 → o ≡ when (eqb b 32) (value_form follows) → o ≡ step_form (status_digits_form follows n) b
unfolding step_form status_digits_form
status_last follows n b o h f = f ∙ rw h

pub status_more : (follows : Bool) (n b : ℕ) (o : Option Form) (t : Bool) → (n ≡ 0 → ⊥) → t ≡ is_digit b → o ≡ when t (status_digits_form follows (n - 1)) → o ≡ step_form (status_digits_form follows n) b
unfolding step_form status_digits_form
status_more follows zero b o t h e f = absurd (h refl)
status_more follows (suc n) b o t h e f =
    let q : suc n - 1 ≡ n = omega arith in
    f ∙ rw (e, q)

-- ---- fixed text, of which k bytes are there already

module _ (t : List ℕ) (f : Form) (k b : ℕ) (o : Option Form) where
  text_over : length t ≤ k → o ≡ step_form f b → o ≡ step_form (text (drop k t) f) b
  text_over h e = rw (drop_of_length-le t {i = k} h) e

  text_more : (x : ℕ) → k < length t → x ≡ get_or t k 0 → o ≡ when (eqb b x) (text (drop (k + 1) t) f) → o ≡ step_form (text (drop k t) f) b
  unfolding step_form
  text_more x h q e = e ∙ rw (drop-cons t k 0 h, add-one k, q)

pub sig_over : (k b : ℕ) (o : Option Form) → 4 ≤ k → o ≡ step_form (letters_form 85) b → o ≡ step_form (sig_form k) b
unfolding sig_form
sig_over k b o h e = text_over (octets "sig=") (letters_form 85) k b o h e

pub sig_more : (k b x : ℕ) (o : Option Form) → k < 4 → x ≡ get_or (octets "sig=") k 0 → o ≡ when (eqb b x) (sig_form (k + 1)) → o ≡ step_form (sig_form k) b
unfolding sig_form
sig_more k b x o h q e = text_more (octets "sig=") (letters_form 85) k b o x h q e

pub hash_over : (k b : ℕ) (o : Option Form) → 5 ≤ k → o ≡ step_form (letters_form 85) b → o ≡ step_form (hash_form k) b
unfolding hash_form
hash_over k b o h e = text_over (octets "hash=") (letters_form 85) k b o h e

pub hash_more : (k b x : ℕ) (o : Option Form) → k < 5 → x ≡ get_or (octets "hash=") k 0 → o ≡ when (eqb b x) (hash_form (k + 1)) → o ≡ step_form (hash_form k) b
unfolding hash_form
hash_more k b x o h q e = text_more (octets "hash=") (letters_form 85) k b o x h q e

pub mark_over : (k b : ℕ) (o : Option Form) → 4 ≤ k → o ≡ or_else (when (eqb b 115) (sig_form 1)) (when (eqb b 104) (hash_form 1)) → o ≡ step_form (mark_form k) b
unfolding step_form mark_form sig_form hash_form
mark_over k b o h e = text_over (octets ";oui") (either (sig_form 0) (hash_form 0)) k b o h e

pub mark_more : (k b x : ℕ) (o : Option Form) → k < 4 → x ≡ get_or (octets ";oui") k 0 → o ≡ when (eqb b x) (mark_form (k + 1)) → o ≡ step_form (mark_form k) b
unfolding mark_form
mark_more k b x o h q e = text_more (octets ";oui") (either (sig_form 0) (hash_form 0)) k b o x h q e

pub version_over : (follows : Bool) (k b : ℕ) (o : Option Form) → 9 ≤ k → o ≡ step_form (status_digits_form follows 3) b → o ≡ step_form (version_form follows k) b
unfolding version_form
version_over follows k b o h e = text_over version (status_digits_form follows 3) k b o h e

pub version_more : (follows : Bool) (k b x : ℕ) (o : Option Form) → k < 9 → x ≡ get_or version k 0 → o ≡ when (eqb b x) (version_form follows (k + 1)) → o ≡ step_form (version_form follows k) b
unfolding version_form
version_more follows k b x o h q e = text_more version (status_digits_form follows 3) k b o x h q e

-- ---- LF

pub feed_step : (follows t : Bool) (b : ℕ) (o : Option Form) → follows ≡ t → o ≡ when (eqb b 10) (follow_form t) → o ≡ step_form (feed_form follows) b
unfolding step_form feed_form
feed_step follows t b o e f = f ∙ rw e

-- ---- where a text may end

letters_end : (n : ℕ) → false ≡ may_end_form (letters_form n)
unfolding letters_form may_end_form
letters_end zero = refl
letters_end (suc n) = refl

status_end : (follows : Bool) (n : ℕ) → false ≡ may_end_form (status_digits_form follows n)
unfolding status_digits_form may_end_form
status_end follows zero = refl
status_end follows (suc n) = refl

text_end : (t : List ℕ) (f : Form) → false ≡ may_end_form f → false ≡ may_end_form (text t f)
unfolding may_end_form
text_end [] f h = h
text_end (b ∷ t) f h = refl

-- only at two of the states
pub no_end : (s : State) → (s ≡ NameRest → ⊥) → (s ≡ End → ⊥) → false ≡ may_end_form (form_at s)
unfolding may_end_form chunk_form size_form digits_form mark_form sig_form hash_form data_end_form version_form trailer_form field_line_form field_form field_name_form value_form feed_form name_form
no_end Line g h = refl
no_end (Digits n) g h = refl
no_end (Mark k) g h = text_end (drop k (octets ";oui")) (either (sig_form 0) (hash_form 0)) refl
no_end (Sig k) g h = text_end (drop k (octets "sig=")) (letters_form 85) (letters_end 85)
no_end (Hash k) g h = text_end (drop k (octets "hash=")) (letters_form 85) (letters_end 85)
no_end (Letters n) g h = letters_end n
no_end Pads g h = refl
no_end Pad g h = refl
no_end Return g h = refl
no_end (Version follows k) g h = text_end (drop k version) (status_digits_form follows 3) (status_end follows 3)
no_end (Status follows n) g h = status_end follows n
no_end Lines g h = refl
no_end Field g h = refl
no_end (FieldName follows) g h = refl
no_end (Value follows) g h = refl
no_end (LineFeed follows) g h = refl
no_end Name g h = refl
no_end NameRest g h = absurd (g refl)
no_end End g h = absurd (h refl)
