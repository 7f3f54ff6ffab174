-- Lines: a form that has no CR anywhere, and CR LF after it. Where a text is cut into lines, the form is held against the first of them; where it
-- is one line, against all but its last two bytes. Assumes nothing.
use mathlib.Core.Bool.{Bool, true, false, ◌&&◌, and_comm}
use mathlib.Core.List.{List, [], ◌∷◌}
use mathlib.Core.Option.{Option, none, some}
use mathlib.Core.Path.{◌≡◌, refl, sym, ◌∙◌}
use Prim.Native.Nat.{ℕ, suc, ◌+◌, ◌-◌}
use native.Mathlib.Nat.{suc-add}
use native.Mathlib.Omega.{arith}
use borrow.Author.Tests.{eqb-true}
use lib.Dec.{eqb, ltb, leb-zero, leb-suc-suc}
use lib.ListN.{length, take, drop}
use Rattle.scanner.specs.Form.{Form, done, one, only, text, after, and_then, step_form, may_end_form, accepts_form}
use Rattle.scanner.proofs.Forms.{form_end, form_to, form_off}
use Rattle.scanner.proofs.Joined.{free, free_to, step_free, step_first, step_second, end_after, if_ended}
use Rattle.scanner.proofs.Parts.{one_accepts, one_nil, done_accepts, done_nil}
use Rattle.stream.specs.Lines.{crlf, ends_with}
use Rattle.stream.specs.Template.{starts_with}
use Rattle.text.specs.Line.{line_length}
use Rattle.text.proofs.LineLaws.{line_cons, line_break, crlf_two, crlf_one, ends_starts, ends_short}
use Rattle.text.proofs.SameLaws.{both_false, both_true}

-- ---- by the first byte

module _ (g : Form) where
  pub only_return : (b : ℕ) → eqb b 13 ≡ false → step_form (text crlf g) b ≡ none
  unfolding step_form
  only_return b e = rw e

  module _ (f : Form) (h : free 13 f ≡ true) where
    pub line_nil : accepts_form (after f (text crlf g)) [] ≡ false
    unfolding may_end_form
    line_nil = form_end (after f (text crlf g)) ∙ end_after f (text crlf g) ∙ both_false (may_end_form f)

    -- CR
    pub line_return : (l : List ℕ) → accepts_form (after f (text crlf g)) (13 ∷ l) ≡ accepts_form f [] && accepts_form (one (only 10) g) l
    unfolding step_form
    line_return l = rw (form_end f) (go (may_end_form f) (step_second 13 f (text crlf g) h))
      where
        go : (t : Bool) → step_form (after f (text crlf g)) 13 ≡ if_ended t (step_form (text crlf g) 13)
            → accepts_form (after f (text crlf g)) (13 ∷ l) ≡ t && accepts_form (one (only 10) g) l
        go true e = form_to (after f (text crlf g)) (one (only 10) g) 13 l e
        go false e = form_off (after f (text crlf g)) 13 l e

    -- any other byte
    module _ (b : ℕ) (e : eqb b 13 ≡ false) (l : List ℕ) where
      line_step : step_form (after f (text crlf g)) b ≡ and_then (step_form f b) (text crlf g)
      line_step = step_first 13 (text crlf g) only_return f b e

      line_off : step_form f b ≡ none → accepts_form (after f (text crlf g)) (b ∷ l) ≡ false
      line_off q = form_off (after f (text crlf g)) b l (line_step ∙ rw q)

      line_to : (s : Form) → step_form f b ≡ some s → accepts_form (after f (text crlf g)) (b ∷ l) ≡ accepts_form (after s (text crlf g)) l
      line_to s q = form_to (after f (text crlf g)) (after s (text crlf g)) b l (line_step ∙ rw q)

  -- ---- the first line, and the rest after its CR LF

  Splits : Form → List ℕ → Type 0
  Splits f l = accepts_form (after f (text crlf g)) l ≡ ltb (line_length l) (length l) && (accepts_form f (take (line_length l) l) && accepts_form g (drop (line_length l + 2) l))

  pub no_feed : (l : List ℕ) → starts_with crlf (13 ∷ l) ≡ false → accepts_form (one (only 10) g) l ≡ false
  no_feed [] e = one_nil (only 10) g
  no_feed (c ∷ l) e =
      let q : eqb c 10 ≡ false = sym (crlf_two 13 c l) ∙ e in
      one_accepts (only 10) g c l ∙ rw q

  split_feed : (f : Form) → free 13 f ≡ true → (l : List ℕ) → Splits f (13 ∷ 10 ∷ l)
  unfolding Splits
  split_feed f h l = rw (line_break 13 (10 ∷ l) (crlf_two 13 10 l)) (line_return f h (10 ∷ l) ∙ rw (one_accepts (only 10) g 10 l, leb-suc-suc 0 (suc (length l)), leb-zero (suc (length l))))

  split_return : (f : Form) → free 13 f ≡ true → (l : List ℕ) → starts_with crlf (13 ∷ l) ≡ false → Splits f (13 ∷ l)
  unfolding Splits
  split_return f h l e = line_return f h l ∙ rw (no_feed l e, line_cons 13 l e, form_off f 13 (take (line_length l) l) (step_free 13 f h)) (both_false (accepts_form f []) ∙ sym (both_false (ltb (suc (line_length l)) (suc (length l)))))

  split_on : (f : Form) → free 13 f ≡ true → (b : ℕ) (l : List ℕ) → eqb b 13 ≡ false → starts_with crlf (b ∷ l) ≡ false
      → ((s : Form) → free 13 s ≡ true → Splits s l) → Splits f (b ∷ l)
  unfolding Splits
  split_on f h b l e k ih = go (step_form f b) refl
    where
      go : (o : Option Form) → step_form f b ≡ o → accepts_form (after f (text crlf g)) (b ∷ l)
          ≡ ltb (line_length (b ∷ l)) (suc (length l)) && (accepts_form f (take (line_length (b ∷ l)) (b ∷ l)) && accepts_form g (drop (line_length (b ∷ l) + 2) (b ∷ l)))
      go none q = line_off f h b e l q ∙ rw (line_cons b l k, form_off f b (take (line_length l) l) q) (sym (both_false (ltb (suc (line_length l)) (suc (length l)))))
      go (some s) q = line_to f h b e l s q ∙ ih s (free_to 13 f s b h q) ∙ rw (line_cons b l k, form_to f s b (take (line_length l) l) q, suc-add, leb-suc-suc)

  pub split_accepts : (f : Form) → free 13 f ≡ true → (l : List ℕ)
      → accepts_form (after f (text crlf g)) l
      ≡ ltb (line_length l) (length l) && (accepts_form f (take (line_length l) l) && accepts_form g (drop (line_length l + 2) l))
  unfolding Splits line_length
  split_accepts f h [] = line_nil f h
  split_accepts f h (b ∷ []) = go (eqb b 13) refl
    where
      go : (t : Bool) → eqb b 13 ≡ t → Splits f (b ∷ [])
      go true e = rw (eqb-true b 13 e) (split_return f h [] (crlf_one 13))
      go false e = split_on f h b [] e (crlf_one b) line_nil
  split_accepts f h (b ∷ c ∷ l) = go (eqb b 13) (eqb c 10) refl refl (λ s k. split_accepts s k (c ∷ l))
    where
      go : (t u : Bool) → eqb b 13 ≡ t → eqb c 10 ≡ u → ((s : Form) → free 13 s ≡ true → Splits s (c ∷ l)) → Splits f (b ∷ c ∷ l)
      go true true e k ih = rw (eqb-true b 13 e, eqb-true c 10 k) (split_feed f h l)
      go true false e k ih = rw (eqb-true b 13 e) (split_return f h (c ∷ l) (crlf_two 13 c l ∙ k))
      go false u e k ih = split_on f h b (c ∷ l) e (crlf_two b c l ∙ rw e) ih

-- ---- a text that is one line

ends_two : (b c : ℕ) → ends_with crlf (b ∷ c ∷ []) ≡ eqb b 13 && eqb c 10
ends_two b c = ends_starts crlf (b ∷ c ∷ []) ∙ crlf_two b c []

ends_more : (b c d : ℕ) (l : List ℕ) → ends_with crlf (b ∷ c ∷ d ∷ l) ≡ ends_with crlf (c ∷ d ∷ l)
unfolding ends_with
ends_more b c d l =
    let e : suc (suc (suc (length l))) - 2 ≡ suc (suc (suc (length l)) - 2) = omega arith in
    rw e

front_more : (b c d : ℕ) (l : List ℕ) → take (length (b ∷ c ∷ d ∷ l) - 2) (b ∷ c ∷ d ∷ l) ≡ b ∷ take (length (c ∷ d ∷ l) - 2) (c ∷ d ∷ l)
front_more b c d l =
    let e : suc (suc (suc (length l))) - 2 ≡ suc (suc (suc (length l)) - 2) = omega arith in
    rw e

Ends : Form → List ℕ → Type 0
Ends f l = accepts_form (after f (text crlf done)) l ≡ ends_with crlf l && accepts_form f (take (length l - 2) l)

-- neither is there
ends_none : (f : Form) (l : List ℕ) → accepts_form (after f (text crlf done)) l ≡ false → ends_with crlf l ≡ false → Ends f l
unfolding Ends
ends_none f l h e = h ∙ rw e

ends_nil : (f : Form) → free 13 f ≡ true → Ends f []
ends_nil f h = ends_none f [] (line_nil done f h) (ends_short crlf [] (omega arith))

ends-one : (f : Form) → free 13 f ≡ true → (b : ℕ) → Ends f (b ∷ [])
ends-one f h b = ends_none f (b ∷ []) (go (eqb b 13) refl) (ends_short crlf (b ∷ []) (omega arith))
  where
    go : (t : Bool) → eqb b 13 ≡ t → accepts_form (after f (text crlf done)) (b ∷ []) ≡ false
    go true e = rw (eqb-true b 13 e) (line_return done f h [] ∙ rw (one_nil (only 10) done) (both_false (accepts_form f [])))
    go false e = step (step_form f b) refl
      where
        step : (o : Option Form) → step_form f b ≡ o → accepts_form (after f (text crlf done)) (b ∷ []) ≡ false
        step none q = line_off done f h b e [] q
        step (some s) q = line_to done f h b e [] s q ∙ line_nil done s (free_to 13 f s b h q)

-- by its first byte, where that is no CR
ends_on : (f : Form) → free 13 f ≡ true → (b c d : ℕ) (l : List ℕ) → eqb b 13 ≡ false → ((s : Form) → free 13 s ≡ true → Ends s (c ∷ d ∷ l)) → Ends f (b ∷ c ∷ d ∷ l)
unfolding Ends
ends_on f h b c d l e ih = rw (ends_more b c d l, front_more b c d l) (go (step_form f b) refl)
  where
    go : (o : Option Form) → step_form f b ≡ o
        → accepts_form (after f (text crlf done)) (b ∷ c ∷ d ∷ l) ≡ ends_with crlf (c ∷ d ∷ l) && accepts_form f (b ∷ take (length (c ∷ d ∷ l) - 2) (c ∷ d ∷ l))
    go none q = line_off done f h b e (c ∷ d ∷ l) q ∙ rw (form_off f b (take (length (c ∷ d ∷ l) - 2) (c ∷ d ∷ l)) q) (sym (both_false (ends_with crlf (c ∷ d ∷ l))))
    go (some s) q = line_to done f h b e (c ∷ d ∷ l) s q ∙ ih s (free_to 13 f s b h q) ∙ rw (form_to f s b (take (length (c ∷ d ∷ l) - 2) (c ∷ d ∷ l)) q)

pub ends_accepts : (f : Form) → free 13 f ≡ true → (l : List ℕ) → accepts_form (after f (text crlf done)) l ≡ ends_with crlf l && accepts_form f (take (length l - 2) l)
unfolding Ends
ends_accepts f h [] = ends_nil f h
ends_accepts f h (b ∷ []) = ends-one f h b
ends_accepts f h (b ∷ c ∷ []) = go (eqb b 13) refl
  where
    go : (t : Bool) → eqb b 13 ≡ t → Ends f (b ∷ c ∷ [])
    go true e = rw (eqb-true b 13 e) (line_return done f h (c ∷ []) ∙ rw (one_accepts (only 10) done c [], done_nil, both_true (eqb c 10), ends_two 13 c) (and_comm (accepts_form f []) (eqb c 10)))
    go false e = ends_none f (b ∷ c ∷ []) (step (step_form f b) refl) (ends_two b c ∙ rw e)
      where
        step : (o : Option Form) → step_form f b ≡ o → accepts_form (after f (text crlf done)) (b ∷ c ∷ []) ≡ false
        step none q = line_off done f h b e (c ∷ []) q
        step (some s) q = line_to done f h b e (c ∷ []) s q ∙ ends-one s (free_to 13 f s b h q) c ∙ rw (ends_short crlf (c ∷ []) (omega arith))
ends_accepts f h (b ∷ c ∷ d ∷ l) = go (eqb b 13) refl (λ s k. ends_accepts s k (c ∷ d ∷ l))
  where
    go : (t : Bool) → eqb b 13 ≡ t → ((s : Form) → free 13 s ≡ true → Ends s (c ∷ d ∷ l)) → Ends f (b ∷ c ∷ d ∷ l)
    go true e ih = rw (eqb-true b 13 e) (line_return done f h (c ∷ d ∷ l) ∙ rw (one_accepts (only 10) done c (d ∷ l), done_accepts d l, both_false (eqb c 10), front_more 13 c d l, form_off f 13 (take (length (c ∷ d ∷ l) - 2) (c ∷ d ∷ l)) (step_free 13 f h)) (both_false (accepts_form f []) ∙ sym (both_false (ends_with crlf (13 ∷ c ∷ d ∷ l)))))
    go false e ih = ends_on f h b c d l e ih
