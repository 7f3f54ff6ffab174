-- Where a text went wrong, by the request's words, is just where it stops to agree with its form. Assumes nothing.
use mathlib.Core.Bool.{Bool, true, false, false≢true}
use mathlib.Core.List.{List}
use mathlib.Core.Path.{◌≡◌, refl, sym, ◌∙◌}
use Prim.Native.Nat.{ℕ}
use lib.ListN.{length}
use Rattle.octets.specs.Viable.{LongestViable}
use Rattle.octets.proofs.Viable.{longest_only}
use Rattle.scanner.specs.Form.{Form, reach_form}
use Rattle.stream.specs.Blocks.{is_chunk_line}
use Rattle.stream.specs.Events.{has_place, place_of}
use Rattle.stream.specs.Forms.{head_form, chunk_form, trailer_form}
use Rattle.stream.specs.GoodText.{is_good_head, is_good_data_end, is_good_trailer}
use Rattle.stream.specs.Head.{ends_head}
use Rattle.stream.specs.Lines.{crlf, ends_with}
use Rattle.stream.specs.Places.{place_in, head_place, line_place, data_end_place, trailer_place}
use Rattle.stream.specs.Trailer.{ends_trailer}
use Rattle.text_forms.proofs.ChunkLines.{chunk_longest, chunk_whole}
use Rattle.text_forms.proofs.Heads.{head_longest, head_whole}
use Rattle.text_forms.proofs.SingleLines.{data_end_longest}
use Rattle.text_forms.proofs.Trailers.{trailer_longest, trailer_whole}
use Rattle.exactness.specs.WentWrong.{WentWrong, bad_text, other_cause, no_place}

-- ---- any form that has just the good texts

module _ (form : Form) (ends good : List ℕ → Bool) (longest : (l : List ℕ) → LongestViable good l (reach_form form l))
    (whole : (l : List ℕ) → good l ≡ true → reach_form form l ≡ length l) where
  wrong_at : (l : List ℕ) (n : ℕ) → WentWrong ends good l n (place_of n (place_in form (ends l) l))
  wrong_at l n = by (has_place n) (ends l) (good l) refl refl refl
    where
      by : (t u v : Bool) → has_place n ≡ t → ends l ≡ u → good l ≡ v → WentWrong ends good l n (place_of n (place_in form (ends l) l))
      by false u v h e g = rw h (no_place h)
      by true false v h e g = rw (h, e) (other_cause h (λ x. absurd (false≢true (sym e ∙ x))))
      by true true false h e g = rw (h, e) (bad_text h e g (longest l))
      by true true true h e g = rw (h, e, whole l g) (other_cause h (λ x. g))

  wrong_only : (l : List ℕ) (n place : ℕ) → WentWrong ends good l n place → place ≡ place_of n (place_in form (ends l) l)
  wrong_only l n place (bad_text h e g v) = rw (h, e) (longest_only v (longest l))
  wrong_only l n place (other_cause h k) = by (ends l) refl
    where
      by : (u : Bool) → ends l ≡ u → length l ≡ place_of n (place_in form (ends l) l)
      by true e = rw (h, e) (sym (whole l (k e)))
      by false e = rw (h, e)
  wrong_only l n place (no_place h) = rw h

-- ---- each section

pub head_wrong : (l : List ℕ) (n : ℕ) → WentWrong ends_head is_good_head l n (place_of n (head_place l))
unfolding head_place
head_wrong = wrong_at head_form ends_head is_good_head head_longest head_whole

pub head_only : (l : List ℕ) (n place : ℕ) → WentWrong ends_head is_good_head l n place → place ≡ place_of n (head_place l)
unfolding head_place
head_only = wrong_only head_form ends_head is_good_head head_longest head_whole

pub line_wrong : (l : List ℕ) (n : ℕ) → WentWrong (ends_with crlf) is_chunk_line l n (place_of n (line_place l))
unfolding line_place
line_wrong = wrong_at chunk_form (ends_with crlf) is_chunk_line chunk_longest chunk_whole

pub line_only : (l : List ℕ) (n place : ℕ) → WentWrong (ends_with crlf) is_chunk_line l n place → place ≡ place_of n (line_place l)
unfolding line_place
line_only = wrong_only chunk_form (ends_with crlf) is_chunk_line chunk_longest chunk_whole

pub trailer_wrong : (l : List ℕ) → WentWrong ends_trailer is_good_trailer l 6 (trailer_place l)
unfolding trailer_place
trailer_wrong l = wrong_at trailer_form ends_trailer is_good_trailer trailer_longest trailer_whole l 6

pub trailer_only : (l : List ℕ) (place : ℕ) → WentWrong ends_trailer is_good_trailer l 6 place → place ≡ trailer_place l
unfolding trailer_place
trailer_only l place w = wrong_only trailer_form ends_trailer is_good_trailer trailer_longest trailer_whole l 6 place w

pub data_end_wrong : (l : List ℕ) → LongestViable is_good_data_end l (data_end_place l)
unfolding data_end_place
data_end_wrong l = data_end_longest l

pub data_end_only : (l : List ℕ) (place : ℕ) → LongestViable is_good_data_end l place → place ≡ data_end_place l
data_end_only l place v = longest_only v (data_end_wrong l)
