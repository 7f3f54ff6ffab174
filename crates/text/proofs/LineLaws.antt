-- Lines at a place of a text: where CR LF stands, how far a line goes, and how the lines of a text split off their first.
-- Assumes nothing.
use mathlib.Core.Path.{◌≡◌, refl, ap, ◌∙◌}
use mathlib.Core.Bool.{Bool, true, false, ◌&&◌}
use mathlib.Core.List.{List, [], ◌∷◌, ◌++◌}
use Prim.Native.Nat.{ℕ, suc, ◌+◌, ◌-◌, ◌≤◌, ◌<◌}
use native.Mathlib.Nat.{suc-add, add_assoc, add-sub_cancel_left, sub_self}
use native.Mathlib.Numerals.{add-one}
use native.Mathlib.Omega.{arith}
use lib.Dec.{eqb}
use lib.ListN.{length, get_or, take, drop, drop_of_length-le, length-drop, length-take}
use lib.Seq.{drop-cons, drop-drop, take_all}
use Rattle.stream.specs.Bytes.{same}
use Rattle.stream.specs.Lines.{crlf, ends_with, in_front, lines, before_empty, text_lines}
use Rattle.stream.specs.Template.{starts_with}
use Rattle.text.specs.Line.{line_length}
use Rattle.text.proofs.SameLaws.{both_true, both_false, eqb_sym, starts_longer, starts_append}

-- ---- CR LF at a place

pub crlf_two : (b c : ℕ) (l : List ℕ) → starts_with crlf (b ∷ c ∷ l) ≡ eqb b 13 && eqb c 10
unfolding starts_with same
crlf_two b c l = rw (eqb_sym 13 b, eqb_sym 10 c, both_true (eqb c 10))

pub crlf_one : (b : ℕ) → starts_with crlf (b ∷ []) ≡ false
unfolding starts_with same
crlf_one b = both_false (eqb 13 b)

-- ---- the end of a text

pub ends_starts : (t l : List ℕ) → ends_with t l ≡ starts_with t (drop (length l - length t) l)
unfolding ends_with starts_with
ends_starts t l = rw (take_all (length t) (drop (length l - length t) l) (omega (arith, length-drop (length l - length t) l)))

pub ends_short : (t l : List ℕ) → length l < length t → ends_with t l ≡ false
ends_short t l h = ends_starts t l ∙ starts_longer t (drop (length l - length t) l) (omega (arith, length-drop (length l - length t) l))

-- two line ends, one by one
pub ends_twice : (s : List ℕ) → 4 ≤ length s → ends_with (crlf ++ crlf) s ≡ starts_with crlf (drop (length s - 4) s) && starts_with crlf (drop (length s - 2) s)
ends_twice s h =
    let e : length s - 4 + 2 ≡ length s - 2 = omega arith in
    ends_starts (crlf ++ crlf) s ∙ starts_append crlf crlf (drop (length s - 4) s) ∙ rw (drop-drop 2 (length s - 4) s, e)

-- ---- how long a line is

pub line_cons : (b : ℕ) (l : List ℕ) → starts_with crlf (b ∷ l) ≡ false → line_length (b ∷ l) ≡ suc (line_length l)
unfolding line_length
line_cons b l e = rw (e, line_length)

pub line_break : (b : ℕ) (l : List ℕ) → starts_with crlf (b ∷ l) ≡ true → line_length (b ∷ l) ≡ 0
unfolding line_length
line_break b l e = rw (e, line_length)

module _ (s : List ℕ) (i : ℕ) where
  pub line_on : i < length s → starts_with crlf (drop i s) ≡ false → line_length (drop i s) ≡ suc (line_length (drop (i + 1) s))
  line_on h e =
      let d = drop-cons s i 0 h in
      rw (add-one i, d) (line_cons (get_or s i 0) (drop (suc i) s) (rw d at e))

  pub line_off : i < length s → starts_with crlf (drop i s) ≡ true → line_length (drop i s) ≡ 0
  line_off h e =
      let d = drop-cons s i 0 h in
      rw d (line_break (get_or s i 0) (drop (suc i) s) (rw d at e))

  pub line_out : length s ≤ i → line_length (drop i s) ≡ 0
  unfolding line_length
  line_out h = rw drop_of_length-le

pub line_le : (l : List ℕ) → line_length l ≤ length l
unfolding line_length
line_le [] = omega arith
line_le (b ∷ l) = go (starts_with crlf (b ∷ l)) refl (line_le l)
  where
    go : (t : Bool) → starts_with crlf (b ∷ l) ≡ t → line_length l ≤ length l → line_length (b ∷ l) ≤ suc (length l)
    go true e h = omega (arith, line_break b l e)
    go false e h = omega (arith, line_cons b l e)

-- ---- the lines of a text: its first, and the lines of what comes after it

module _ (b c : ℕ) (l : List ℕ) where
  abbrev by_test : Bool → List (List ℕ)
  by_test t = elim t [ true ↦ [] ∷ lines l | false ↦ in_front b (lines (c ∷ l)) ]

  lines_by : (t : Bool) → eqb b 13 && eqb c 10 ≡ t → lines (b ∷ c ∷ l) ≡ by_test t
  unfolding lines
  lines_by t e = ap by_test e

-- by the first line of l: n bytes, and what comes after CR LF
abbrev Splits : List ℕ → ℕ → Type 0
Splits l n = lines l ≡ take n l ∷ lines (drop (n + 2) l)

splits_one : (b : ℕ) → Splits (b ∷ []) 1
unfolding lines
splits_one b = refl

splits : (b : ℕ) (l : List ℕ) → Splits (b ∷ l) (line_length (b ∷ l))
unfolding line_length
splits b [] = rw (line_cons b [] (crlf_one b)) (splits_one b)
splits b (c ∷ l) = go (eqb b 13 && eqb c 10) refl (splits c l)
  where
    go : (t : Bool) → eqb b 13 && eqb c 10 ≡ t → Splits (c ∷ l) (line_length (c ∷ l)) → Splits (b ∷ c ∷ l) (line_length (b ∷ c ∷ l))
    go true e h = rw (line_break b (c ∷ l) (crlf_two b c l ∙ e)) (lines_by b c l true e)
    go false e h = rw (line_cons b (c ∷ l) (crlf_two b c l ∙ e), suc-add, lines_by b c l false e, h)

-- a line that does not go to the text's end has CR LF after it
pub ends_within_lem : (l : List ℕ) → line_length l < length l → line_length l + 2 ≤ length l
unfolding line_length
ends_within_lem [] h = absurd (omega arith)
ends_within_lem (b ∷ []) h = absurd (omega (arith, line_cons b [] (crlf_one b)))
ends_within_lem (b ∷ c ∷ l) h = go (starts_with crlf (b ∷ c ∷ l)) refl (ends_within_lem (c ∷ l))
  where
    go : (t : Bool) → starts_with crlf (b ∷ c ∷ l) ≡ t → (line_length (c ∷ l) < length (c ∷ l) → line_length (c ∷ l) + 2 ≤ length (c ∷ l)) → line_length (b ∷ c ∷ l) + 2 ≤ length (b ∷ c ∷ l)
    go true e f = omega (arith, line_break b (c ∷ l) e)
    go false e f = omega (arith, line_cons b (c ∷ l) e, f (omega (arith, line_cons b (c ∷ l) e)))

before_cons : (l : List ℕ) (ls : List (List ℕ)) → 0 < length l → before_empty (l ∷ ls) ≡ l ∷ before_empty ls
unfolding before_empty
before_cons [] ls h = absurd (omega arith)
before_cons (b ∷ l) ls h = refl

-- ---- a loop over the lines

-- past the text's end there is no line
pub lines_none : (s : List ℕ) (i : ℕ) → length s ≤ i → lines (drop i s) ≡ []
unfolding lines
lines_none s i h = rw drop_of_length-le

pub text_none : (s : List ℕ) (i : ℕ) → length s ≤ i → text_lines (drop i s) ≡ []
unfolding text_lines before_empty
text_none s i h = rw (lines_none s i h)

-- a turn: a line begins at i, within the text, and ends at e
module _ (s : List ℕ) (i e : ℕ) (h : i < length s) (f : e ≡ i + line_length (drop i s)) where
  pub line_within : (i ≤ e) × (e ≤ length s)
  line_within = (omega arith, omega (arith, line_le (drop i s), length-drop i s))

  -- the line ends with the text, or with CR LF
  pub line_room : e < length s → e + 2 ≤ length s
  line_room k = omega (arith, length-drop i s, ends_within_lem (drop i s) (omega (arith, length-drop i s)))

  -- also for the last line: what comes after the text's end is no line
  pub lines_first : lines (drop i s) ≡ take (e - i) (drop i s) ∷ lines (drop (e + 2) s)
  lines_first =
      let d = drop-cons s i 0 h in
      let p : Splits (drop i s) (line_length (drop i s)) = rw d (splits (get_or s i 0) (drop (suc i) s)) in
      rw (f, add-sub_cancel_left, add_assoc, ← drop-drop (line_length (drop i s) + 2) i s) p

  -- an empty line: CR LF stands at i
  pub text_end : e ≡ i → text_lines (drop i s) ≡ []
  unfolding text_lines before_empty
  text_end k = rw (lines_first, k, sub_self)

  pub text_first : i < e → text_lines (drop i s) ≡ take (e - i) (drop i s) ∷ text_lines (drop (e + 2) s)
  unfolding text_lines
  text_first k = rw lines_first (before_cons _ _ (omega (arith, length-take (e - i) (drop i s), length-drop i s)))

  -- no CR LF comes after the line
  pub text_last : i < e → length s < e + 2 → text_lines (drop i s) ≡ take (e - i) (drop i s) ∷ []
  text_last k j = text_first k ∙ rw (text_none s (e + 2) (omega arith))
