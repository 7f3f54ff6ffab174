-- A signature's form has just the texts that are the base64 of 64 bytes. Both go by groups of four characters. Assumes nothing.
use mathlib.Core.Bool.{Bool, true, false, ◌&&◌}
use mathlib.Core.List.{List, [], ◌∷◌}
use mathlib.Core.Path.{◌≡◌, refl, ◌∙◌}
use Prim.Native.Nat.{ℕ, zero, suc, ◌%◌, ◌<◌}
use native.Mathlib.Omega.{arith}
use borrow.Author.Tests.{le-leb, ne_eqb}
use lib.Dec.{eqb}
use lib.ListN.{length}
use Rattle.octets.specs.Octets.{octets}
use Rattle.base64_text.specs.Base64.{letter_value, is_base64_letter, is_base64, holds_one, holds_three}
use Rattle.scanner.specs.Form.{Class, Form, done, one, only, text, accepts_form}
use Rattle.scanner.proofs.Parts.{one_accepts, one_nil, done_accepts, done_nil}
use Rattle.stream.specs.Forms.{letter, last_letter, signature_form}
use Rattle.text.proofs.SameLaws.{both_false, both_true}

-- ---- one group

module _ (p q r s : Class) (f : Form) where
  pub four : Form
  four = one p (one q (one r (one s f)))

  four_accepts : (a b c d : ℕ) (l : List ℕ) → accepts_form four (a ∷ b ∷ c ∷ d ∷ l) ≡ p.has a && (q.has b && (r.has c && (s.has d && accepts_form f l)))
  unfolding four
  four_accepts a b c d l = one_accepts p _ a _ ∙ rw (one_accepts q (one r (one s f)) b (c ∷ d ∷ l), one_accepts r (one s f) c (d ∷ l), one_accepts s f d l)

  four_short : (l : List ℕ) → length l < 4 → accepts_form four l ≡ false
  unfolding four
  four_short [] h = one_nil p _
  four_short (a ∷ []) h = one_accepts p _ a [] ∙ rw (one_nil q (one r (one s f))) (both_false (p.has a))
  four_short (a ∷ b ∷ []) h = one_accepts p _ a _ ∙ rw (one_accepts q (one r (one s f)) b [], one_nil r (one s f), both_false (q.has b)) (both_false (p.has a))
  four_short (a ∷ b ∷ c ∷ []) h =
      one_accepts p _ a _ ∙ rw (one_accepts q (one r (one s f)) b (c ∷ []), one_accepts r (one s f) c [], one_nil s f, both_false (r.has c), both_false (q.has b)) (both_false (p.has a))
  four_short (a ∷ b ∷ c ∷ d ∷ l) h = absurd (omega arith)

-- ---- the padded group, which holds the last byte

both_five : (a b e c d : Bool) → a && (b && e && (c && (d && true))) ≡ a && b && e && c && d
both_five true true true c d = rw (both_true d)
both_five true true false c d = refl
both_five true false e c d = refl
both_five false b e c d = refl

-- a fifth character is one too many
over : (p q r s : Class) (a b c d e : ℕ) (l : List ℕ) (t : Bool)
    → p.has a && (q.has b && (r.has c && (s.has d && accepts_form done (e ∷ l)))) ≡ eqb (suc (suc (suc (suc (suc (length l)))))) 4 && t
over p q r s a b c d e l t =
    rw (done_accepts e l, both_false (s.has d), both_false (r.has c), both_false (q.has b), both_false (p.has a), ne_eqb (suc (suc (suc (suc (suc (length l)))))) 4 (λ q. omega arith))

abbrev padded : Form
padded = one letter (one last_letter (text (octets "==") done))

padded_accepts : (l : List ℕ) → accepts_form padded l ≡ is_base64 1 l
unfolding holds_one is_base64 four
padded_accepts [] = four_short letter last_letter (only 61) (only 61) done [] (omega arith)
padded_accepts (a ∷ []) = four_short letter last_letter (only 61) (only 61) done (a ∷ []) (omega arith)
padded_accepts (a ∷ b ∷ []) = four_short letter last_letter (only 61) (only 61) done (a ∷ b ∷ []) (omega arith)
padded_accepts (a ∷ b ∷ c ∷ []) = four_short letter last_letter (only 61) (only 61) done (a ∷ b ∷ c ∷ []) (omega arith)
padded_accepts (a ∷ b ∷ c ∷ d ∷ []) =
    four_accepts letter last_letter (only 61) (only 61) done a b c d []
    ∙ rw done_nil (both_five (is_base64_letter a) (is_base64_letter b) (eqb (letter_value b % 16) 0) (eqb c 61) (eqb d 61))
padded_accepts (a ∷ b ∷ c ∷ d ∷ e ∷ l) =
    four_accepts letter last_letter (only 61) (only 61) done a b c d (e ∷ l) ∙ over letter last_letter (only 61) (only 61) a b c d e l (holds_one a b c d)

-- ---- the groups in front of it, of three bytes each

both_four : (a b c d e : Bool) → a && (b && (c && (d && e))) ≡ a && b && c && d && e
both_four true true true d e = refl
both_four true true false d e = refl
both_four true false c d e = refl
both_four false b c d e = refl

abbrev letters : ℕ → Form
letters zero = padded
letters (suc k) = four letter letter letter letter (letters k)

-- how many bytes they hold, with the last one
abbrev bytes_in : ℕ → ℕ
bytes_in zero = 1
bytes_in (suc k) = suc (suc (suc (bytes_in k)))

letters_accept : (k : ℕ) (l : List ℕ) → accepts_form (letters k) l ≡ is_base64 (bytes_in k) l
unfolding is_base64 holds_three
letters_accept zero l = padded_accepts l
letters_accept (suc k) [] = four_short letter letter letter letter (letters k) [] (omega arith)
letters_accept (suc k) (a ∷ []) = four_short letter letter letter letter (letters k) (a ∷ []) (omega arith)
letters_accept (suc k) (a ∷ b ∷ []) = four_short letter letter letter letter (letters k) (a ∷ b ∷ []) (omega arith)
letters_accept (suc k) (a ∷ b ∷ c ∷ []) = four_short letter letter letter letter (letters k) (a ∷ b ∷ c ∷ []) (omega arith)
letters_accept (suc k) (a ∷ b ∷ c ∷ d ∷ l) =
    four_accepts letter letter letter letter (letters k) a b c d l
    ∙ rw (letters_accept k l, le-leb 4 (suc (suc (suc (suc (length l))))) (omega arith))
    (both_four (is_base64_letter a) (is_base64_letter b) (is_base64_letter c) (is_base64_letter d) (is_base64 (bytes_in k) l))

-- 64 bytes are 21 times three, and one
pub signature_accepts : (l : List ℕ) → accepts_form signature_form l ≡ is_base64 64 l
unfolding signature_form four
signature_accepts l = letters_accept 21 l
