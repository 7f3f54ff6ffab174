-- The form of a head has just the good heads: a status line, and what a trailer is after it. Assumes nothing.
use mathlib.Core.Bool.{Bool, true, false, ◌&&◌}
use mathlib.Core.List.{List, []}
use mathlib.Core.Path.{◌≡◌, refl, sym, ap, ◌∙◌}
use Prim.Native.Nat.{ℕ, ◌+◌, ◌≤◌, ◌<◌}
use native.Mathlib.Nat.{zero-add}
use native.Mathlib.Omega.{arith}
use borrow.Author.Tests.{ltb-true, lt-ltb}
use lib.Dec.{ltb}
use lib.ListN.{length, take, drop}
use Rattle.octets.specs.Viable.{LongestViable}
use Rattle.scanner.specs.Form.{accepts_form, reach_form}
use Rattle.scanner.proofs.Every.{every}
use Rattle.scanner.proofs.Longest.{of_bytes, form_longest, form_whole}
use Rattle.scanner.proofs.Parts.{one_nil}
use Rattle.stream.specs.Forms.{name_form, field_form, field_line_form, status_form, trailer_form, head_form}
use Rattle.stream.specs.GoodText.{ends_first, is_good_head}
use Rattle.stream.specs.Head.{ends_head}
use Rattle.stream.specs.Lines.{crlf, text_lines, is_status_line, are_field_lines}
use Rattle.stream.specs.Template.{starts_with, nth}
use Rattle.stream.proofs.Truth.{left_holds, right_holds}
use Rattle.text.specs.Line.{line_length}
use Rattle.text.proofs.LineLaws.{ends_within_lem, text_end, line_off}
use Rattle.text_forms.proofs.FirstEnds.{EndsFirst, first_end, end_first, alike}
use Rattle.text_forms.proofs.Ends.{first_rest, rest_first}
use Rattle.text_forms.proofs.HeadLines.{status_accepts}
use Rattle.text_forms.proofs.Lines.{split_accepts}
use Rattle.text_forms.proofs.SingleLines.{status_free}
use Rattle.text_forms.proofs.Trailers.{Equal, trailer_equal, trailer_ends, line_there, lines_split}

-- ---- the form, split at the first line

head_split : (l : List ℕ) → accepts_form head_form l ≡ ltb (line_length l) (length l) && (is_status_line (take (line_length l) l) && accepts_form trailer_form (drop (line_length l + 2) l))
unfolding head_form
head_split l = split_accepts trailer_form status_form status_free l ∙ rw (status_accepts (take (line_length l) l))

-- ---- where the end is there first, form and definition agree

abbrev is_head_text : List ℕ → Bool
is_head_text l = is_status_line (nth 0 (text_lines l)) && are_field_lines (drop 1 (text_lines l))

no_status : is_status_line [] ≡ false
unfolding status_form
no_status = status_accepts [] ∙ one_nil _ _

head_equal : (l : List ℕ) → EndsFirst ends_head l → is_head_text l ≡ accepts_form head_form l
unfolding ends_head
head_equal l f = go (starts_with crlf l) refl
  where
    h : line_length l + 2 ≤ length l
    h = line_there l f

    r : Equal (drop (line_length l + 2) l)
    r = trailer_equal (length (drop (line_length l + 2) l)) (drop (line_length l + 2) l) (omega arith) (first_rest l h f)

    by_line : accepts_form head_form l ≡ is_status_line (take (line_length l) l) && accepts_form trailer_form (drop (line_length l + 2) l)
    by_line = head_split l ∙ rw (lt-ltb (line_length l) (length l) (omega (arith, h)))

    go : (t : Bool) → starts_with crlf l ≡ t → is_head_text l ≡ accepts_form head_form l
    go true e =
        let z : line_length l ≡ 0 = line_off l 0 (omega (arith, h)) e in
        let n : text_lines l ≡ [] = text_end l 0 (line_length l) (omega (arith, h)) (sym (zero-add (line_length l))) z in
        let q : accepts_form head_form l ≡ false = by_line ∙ rw (z, no_status) in
        rw (n, no_status) (sym q)
    go false e = rw (lines_split l e h) (ap (λ (t : Bool). is_status_line (take (line_length l) l) && t) r ∙ sym by_line)

head_ends : (l : List ℕ) → accepts_form head_form l ≡ true → EndsFirst ends_head l
unfolding ends_head
head_ends l a =
    let s = sym (head_split l) ∙ a in
    let n : line_length l < length l = ltb-true (line_length l) (length l) (left_holds (ltb (line_length l) (length l)) _ s) in
    let t : accepts_form trailer_form (drop (line_length l + 2) l) ≡ true = right_holds (is_status_line (take (line_length l) l)) _ (right_holds (ltb (line_length l) (length l)) _ s) in
    rest_first l (ends_within_lem l n) (trailer_ends (length (drop (line_length l + 2) l)) (drop (line_length l + 2) l) (omega arith) t)

-- ---- the good heads

pub head_accepts : (l : List ℕ) → is_good_head l ≡ accepts_form head_form l
unfolding is_good_head
head_accepts l = alike (is_good_head l) (accepts_form head_form l) to from
  where
    to : ends_first ends_head l && is_head_text l ≡ true → accepts_form head_form l ≡ true
    to e =
        sym (head_equal l (first_end ends_head l (left_holds (ends_first ends_head l) (is_head_text l) e))) ∙ right_holds (ends_first ends_head l) (is_head_text l) e

    from : accepts_form head_form l ≡ true → ends_first ends_head l && is_head_text l ≡ true
    from a =
        let f : EndsFirst ends_head l = head_ends l a in
        rw (end_first ends_head l f) (head_equal l f ∙ a)

head_bytes : of_bytes head_form ≡ true
unfolding every head_form status_form trailer_form field_line_form field_form name_form
head_bytes = refl

pub head_longest : (l : List ℕ) → LongestViable is_good_head l (reach_form head_form l)
head_longest l = form_longest head_form head_bytes is_good_head head_accepts l

pub head_whole : (l : List ℕ) → is_good_head l ≡ true → reach_form head_form l ≡ length l
head_whole l e = form_whole head_form head_bytes is_good_head head_accepts l e
