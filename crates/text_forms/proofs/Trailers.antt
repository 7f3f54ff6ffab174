-- The form of a trailer has just the good trailers. Form and definition are both split at the first line; then they are compared by induction
-- on the length. Assumes nothing.
use mathlib.Core.Bool.{Bool, true, false, ◌&&◌, true≢false, false≢true}
use mathlib.Core.List.{List, [], ◌∷◌, ◌++◌}
use mathlib.Core.Path.{◌≡◌, refl, sym, ap, ◌∙◌}
use Prim.Native.Nat.{ℕ, zero, suc, ◌+◌, ◌≤◌, ◌<◌}
use native.Mathlib.Nat.{sub-zero, zero-add}
use native.Mathlib.Omega.{arith}
use borrow.Author.Tests.{eqb-true, ltb-true, lt-ltb, leb-true, leb-false}
use lib.Dec.{eqb, leb, ltb}
use lib.ListN.{length, take, drop, length-drop, take-append-drop}
use lib.Seq.{take-length, take_all}
use Rattle.octets.specs.Octets.{octets}
use Rattle.octets.specs.Viable.{LongestViable}
use Rattle.scanner.specs.Form.{Form, done, one, only, many, each, text, after, step_form, may_end_form, accepts_form, reach_form}
use Rattle.scanner.proofs.Every.{every}
use Rattle.scanner.proofs.Forms.{form_end, form_to, form_alike}
use Rattle.scanner.proofs.Joined.{step_first, then_assoc}
use Rattle.scanner.proofs.Longest.{of_bytes, form_longest, form_whole}
use Rattle.scanner.proofs.Parts.{one_accepts, one_nil, done_accepts, done_nil}
use Rattle.stream.specs.Bytes.{same, is_tchar, is_text}
use Rattle.stream.specs.Forms.{name_byte, name_form, field_form, field_line_form, trailer_form}
use Rattle.stream.specs.GoodText.{ends_first, is_good_trailer}
use Rattle.stream.specs.Lines.{crlf, ends_with, lines, before_empty, text_lines, are_field_lines, is_field_line}
use Rattle.stream.specs.Template.{starts_with}
use Rattle.stream.specs.Trailer.{ends_trailer}
use Rattle.stream.proofs.Truth.{left_holds, right_holds}
use Rattle.text.specs.Line.{line_length}
use Rattle.text.proofs.LineLaws.{ends_within_lem, text_first, line_cons}
use Rattle.text.proofs.SameLaws.{starts_is}
use Rattle.text_forms.proofs.FirstEnds.{EndsFirst, first_end, end_first, alike}
use Rattle.text_forms.proofs.Ends.{twice, first_rest, rest_first, trailer_head, head_trailer, ends_line}
use Rattle.text_forms.proofs.HeadLines.{field_accepts}
use Rattle.text_forms.proofs.SingleLines.{field_free}
use Rattle.text_forms.proofs.Lines.{only_return, line_nil, line_return, no_feed, split_accepts}

-- ---- the form, split at the first line

line_form : Form
line_form = after field_form (text crlf trailer_form)

trailer_nil : accepts_form trailer_form [] ≡ false
unfolding trailer_form may_end_form
trailer_nil = form_end trailer_form

trailer_return : (l : List ℕ) → accepts_form trailer_form (13 ∷ l) ≡ accepts_form (one (only 10) done) l
unfolding trailer_form step_form
trailer_return l = form_to trailer_form (one (only 10) done) 13 l refl

-- CR LF at once
trailer_bare : (l : List ℕ) → accepts_form trailer_form (13 ∷ 10 ∷ l) ≡ accepts_form done l
trailer_bare l = trailer_return (10 ∷ l) ∙ one_accepts (only 10) done 10 l

-- lines of one form up to the empty one: a byte that is no CR begins a line
module _ (f : Form) where
  lines_form : Form
  lines_form = each (after f (text crlf done)) (text crlf done)

  lines_step : (b : ℕ) → eqb b 13 ≡ false → step_form lines_form b ≡ step_form (after f (text crlf lines_form)) b
  unfolding step_form lines_form
  lines_step b e =
      rw (e, step_first 13 (text crlf done) (only_return done) f b e)
      (then_assoc (step_form f b) (text crlf done) lines_form ∙ sym (step_first 13 (text crlf lines_form) (only_return lines_form) f b e))

-- anything else begins with a field line
trailer_line : (l : List ℕ) → starts_with crlf l ≡ false → accepts_form trailer_form l ≡ accepts_form line_form l
unfolding line_form trailer_form field_line_form lines_form field_form name_form
trailer_line [] e = trailer_nil ∙ sym (line_nil trailer_form field_form field_free)
trailer_line (b ∷ l) e = go (eqb b 13) refl
  where
    at_return : (b : ℕ) → b ≡ 13 → starts_with crlf (b ∷ l) ≡ false → accepts_form trailer_form (b ∷ l) ≡ accepts_form line_form (b ∷ l)
    at_return b p h =
        let k : starts_with crlf (13 ∷ l) ≡ false = rw p at h in
        rw p (trailer_return l ∙ no_feed done l k ∙ sym (line_return trailer_form field_form field_free l ∙ rw (one_nil name_byte (many is_tchar (text (octets ":") (many is_text done))))))

    go : (t : Bool) → eqb b 13 ≡ t → accepts_form trailer_form (b ∷ l) ≡ accepts_form line_form (b ∷ l)
    go true q = at_return b (eqb-true b 13 q) e
    go false q = form_alike trailer_form line_form b l (lines_step field_form b q)

trailer_split : (l : List ℕ) → starts_with crlf l ≡ false
    → accepts_form trailer_form l ≡ ltb (line_length l) (length l) && (is_field_line (take (line_length l) l) && accepts_form trailer_form (drop (line_length l + 2) l))
unfolding line_form
trailer_split l e = trailer_line l e ∙ split_accepts trailer_form field_form field_free l ∙ rw (field_accepts (take (line_length l) l))

-- ---- the definition, split at the first line

line_some : (l : List ℕ) → starts_with crlf l ≡ false → 0 < length l → 0 < line_length l
line_some [] e h = absurd (omega arith)
line_some (b ∷ l) e h = omega (arith, line_cons b l e)

module _ (l : List ℕ) (e : starts_with crlf l ≡ false) (h : line_length l + 2 ≤ length l) where
  pub lines_split : text_lines l ≡ take (line_length l) l ∷ text_lines (drop (line_length l + 2) l)
  lines_split = rw sub-zero at (text_first l 0 (line_length l) (omega arith) (sym (zero-add (line_length l))) (line_some l e (omega arith)))

  fields_split : are_field_lines (text_lines l) ≡ is_field_line (take (line_length l) l) && are_field_lines (text_lines (drop (line_length l + 2) l))
  unfolding are_field_lines
  fields_split = rw lines_split

  form_split : accepts_form trailer_form l ≡ is_field_line (take (line_length l) l) && accepts_form trailer_form (drop (line_length l + 2) l)
  form_split = trailer_split l e ∙ rw (lt-ltb (line_length l) (length l) (omega arith))

-- ---- where the end is there first, both agree

crlf_ends : ends_trailer crlf ≡ true
unfolding ends_trailer same
crlf_ends = refl

crlf_first : EndsFirst ends_trailer crlf
unfolding ends_trailer ends_with same
crlf_first = record { there = refl; earlier = earlier }
  where
    earlier : (n : ℕ) → n < 2 → ends_trailer (take n crlf) ≡ false
    earlier zero h = refl
    earlier (suc zero) h = refl
    earlier (suc (suc n)) h = absurd (omega arith)

crlf_both : are_field_lines (text_lines crlf) ≡ accepts_form trailer_form crlf
unfolding text_lines before_empty lines are_field_lines
crlf_both = sym (trailer_bare [] ∙ done_nil)

-- the first end of a text that begins with CR LF is that CR LF
bare_only : (l : List ℕ) → starts_with crlf l ≡ true → EndsFirst ends_trailer l → l ≡ crlf
bare_only l e f = go (leb (length l) 2) refl
  where
    go : (t : Bool) → leb (length l) 2 ≡ t → l ≡ crlf
    go true q = sym (take_all 2 l (leb-true (length l) 2 q)) ∙ starts_is crlf l e
    go false q =
        let z : ends_trailer crlf ≡ false = rw (starts_is crlf l e) at (f.earlier 2 (leb-false (length l) 2 q)) in
        absurd (true≢false (sym crlf_ends ∙ z))

-- CR LF CR LF ends the first line too
pub line_there : (l : List ℕ) → EndsFirst (ends_with twice) l → line_length l + 2 ≤ length l
line_there l f = go (leb (line_length l + 2) (length l)) refl
  where
    go : (t : Bool) → leb (line_length l + 2) (length l) ≡ t → line_length l + 2 ≤ length l
    go true q = leb-true (line_length l + 2) (length l) q
    go false q =
        let z : ends_with twice l ≡ false = rw (take-length l) at (ends_line (length l) l (leb-false (line_length l + 2) (length l) q)) in
        absurd (true≢false (sym f.there ∙ z))

abbrev pub Equal : List ℕ → Type 0
Equal l = are_field_lines (text_lines l) ≡ accepts_form trailer_form l

equal_step : (l : List ℕ) → EndsFirst ends_trailer l → ((r : List ℕ) → length r < length l → EndsFirst ends_trailer r → Equal r) → Equal l
equal_step l f ih = go (starts_with crlf l) refl
  where
    go : (t : Bool) → starts_with crlf l ≡ t → are_field_lines (text_lines l) ≡ accepts_form trailer_form l
    go true e = rw (bare_only l e f) crlf_both
    go false e =
        let h : line_length l + 2 ≤ length l = line_there l (trailer_head l e f) in
        fields_split l e h
        ∙ rw (ih (drop (line_length l + 2) l) (omega (arith, length-drop (line_length l + 2) l)) (first_rest l h (trailer_head l e f))) (sym (form_split l e h))

pub trailer_equal : (k : ℕ) (l : List ℕ) → length l ≤ k → EndsFirst ends_trailer l → Equal l
trailer_equal zero l h f = equal_step l f (λ r y g. absurd (omega arith))
trailer_equal (suc k) l h f = equal_step l f (λ r y g. trailer_equal k r (omega arith) g)

done_empty : (l : List ℕ) → accepts_form done l ≡ true → l ≡ []
done_empty [] h = refl
done_empty (b ∷ l) h = absurd (false≢true (sym (done_accepts b l) ∙ h))

starts_split : (l : List ℕ) → starts_with crlf l ≡ true → l ≡ 13 ∷ 10 ∷ drop 2 l
starts_split l e = sym (take-append-drop 2 l) ∙ ap (λ (t : List ℕ). t ++ drop 2 l) (starts_is crlf l e)

ends_step : (l : List ℕ) → accepts_form trailer_form l ≡ true
    → ((r : List ℕ) → length r < length l → accepts_form trailer_form r ≡ true → EndsFirst ends_trailer r) → EndsFirst ends_trailer l
ends_step l a ih = go (starts_with crlf l) refl
  where
    go : (t : Bool) → starts_with crlf l ≡ t → EndsFirst ends_trailer l
    go true e =
        let q : l ≡ 13 ∷ 10 ∷ drop 2 l = starts_split l e in
        let d : accepts_form done (drop 2 l) ≡ true = sym (trailer_bare (drop 2 l)) ∙ ap (accepts_form trailer_form) (sym q) ∙ a in
        let z : l ≡ crlf = q ∙ ap (λ (t : List ℕ). 13 ∷ 10 ∷ t) (done_empty (drop 2 l) d) in
        rw z crlf_first
    go false e =
        let s = sym (trailer_split l e) ∙ a in
        let n : line_length l < length l = ltb-true (line_length l) (length l) (left_holds (ltb (line_length l) (length l)) _ s) in
        let h : line_length l + 2 ≤ length l = ends_within_lem l n in
        let r : accepts_form trailer_form (drop (line_length l + 2) l) ≡ true = right_holds (is_field_line (take (line_length l) l)) _ (right_holds (ltb (line_length l) (length l)) _ s) in
        head_trailer l e (rest_first l h (ih (drop (line_length l + 2) l) (omega (arith, length-drop (line_length l + 2) l)) r))

pub trailer_ends : (k : ℕ) (l : List ℕ) → length l ≤ k → accepts_form trailer_form l ≡ true → EndsFirst ends_trailer l
trailer_ends zero l h a = ends_step l a (λ r y g. absurd (omega arith))
trailer_ends (suc k) l h a = ends_step l a (λ r y g. trailer_ends k r (omega arith) g)

-- ---- the good trailers

pub trailer_accepts : (l : List ℕ) → is_good_trailer l ≡ accepts_form trailer_form l
unfolding is_good_trailer
trailer_accepts l = alike (is_good_trailer l) (accepts_form trailer_form l) to from
  where
    to : ends_first ends_trailer l && are_field_lines (text_lines l) ≡ true → accepts_form trailer_form l ≡ true
    to e =
        sym (trailer_equal (length l) l (omega arith) (first_end ends_trailer l (left_holds (ends_first ends_trailer l) (are_field_lines (text_lines l)) e)))
        ∙ right_holds (ends_first ends_trailer l) (are_field_lines (text_lines l)) e

    from : accepts_form trailer_form l ≡ true → ends_first ends_trailer l && are_field_lines (text_lines l) ≡ true
    from a =
        let f : EndsFirst ends_trailer l = trailer_ends (length l) l (omega arith) a in
        rw (end_first ends_trailer l f) (trailer_equal (length l) l (omega arith) f ∙ a)

trailer_bytes : of_bytes trailer_form ≡ true
unfolding every trailer_form field_line_form field_form name_form
trailer_bytes = refl

pub trailer_longest : (l : List ℕ) → LongestViable is_good_trailer l (reach_form trailer_form l)
trailer_longest l = form_longest trailer_form trailer_bytes is_good_trailer trailer_accepts l

pub trailer_whole : (l : List ℕ) → is_good_trailer l ≡ true → reach_form trailer_form l ≡ length l
trailer_whole l e = form_whole trailer_form trailer_bytes is_good_trailer trailer_accepts l e
