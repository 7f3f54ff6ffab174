-- ANOTHER SHOW than the one that was asked for is refused with 16, after all of 3, 4 and 5 and before 12, and nothing is asked or handed out.
-- Assumes nothing.
use borrow.Author.Tests.{not-true, ne_eqb}
use mathlib.Core.Bool.{Bool, true, false, not}
use mathlib.Core.List.{List, ◌++◌}
use mathlib.Core.Path.{◌≡◌, refl, sym, ◌∙◌}
use Prim.Native.Nat.{ℕ, zero, suc}
use native.Mathlib.Omega.{arith}
use lib.Dec.{eqb}
use Rattle.octets.specs.Choice.{pick}
use Rattle.sections.specs.Reading.{Log, ask, Grant, Rules, Cut, uncut, cut_at, cut, judged, ran_out}
use Rattle.sections.specs.Calls.{part}
use Rattle.stream.specs.Bytes.{same}
use Rattle.stream.specs.Events.{Question, Release, LastWord}
use Rattle.stream.specs.Head.{head_of, head_uri, is_whole_head, block_key, head_key, trusted_by, text_rules, caller_rules, head_fault, trust_rules}
use Rattle.stream.specs.Ring.{is_found}
use Rattle.stream.specs.Rule.{Rule, first_broken}
use Rattle.stream.specs.Stream.{Context, unless_broken, accept_head, judge_head}
use Rattle.stream.specs.Terms.{Terms}
use Rattle.stream.proofs.RulesHold.{rules_hold, broken_numbered, broken_first, kept_first}
use Rattle.stream.proofs.Truth.{same_equal}
use Rattle.kept.specs.Kept.{as_another_show, RefusedWhereNot}
use Rattle.kept.specs.OtherHeads.{judge_with, rules_with}
use Rattle.kept.specs.Unasked.{unasked_fault, unasked_head, unasked_reading}
use Rattle.kept.proofs.Later.{from_head, from_head_lem, with_this_judge}

abbrev text_fault : List ℕ → ℕ
text_fault l = first_broken (text_rules l (head_of l))

abbrev is_other : ℕ → Bool
is_other n = not (eqb n 12)

not_twelve : (l : List ℕ) → eqb (text_fault l) 12 ≡ false
unfolding text_rules
not_twelve l = by (text_fault l) refl
  where
    by : (n : ℕ) → text_fault l ≡ n → eqb n 12 ≡ false
    by zero e = refl
    by (suc k) e = not-true (eqb (suc k) 12) (broken_numbered is_other (text_rules l (head_of l)) k refl e)

-- the caller's rules, or any others, count where none of the text is broken
by_text : (l : List ℕ) (qs : List Rule) → first_broken (text_rules l (head_of l) ++ qs) ≡ pick (eqb (text_fault l) 0) (first_broken qs) (text_fault l)
unfolding text_rules
by_text l qs = by (text_fault l) refl
  where
    by : (n : ℕ) → text_fault l ≡ n → first_broken (text_rules l (head_of l) ++ qs) ≡ pick (eqb n 0) (first_broken qs) n
    by zero e = kept_first (text_rules l (head_of l)) qs (rules_hold (text_rules l (head_of l)) refl e)
    by (suc k) e = rw (ne_eqb (suc k) 0 (λ z. omega arith)) (broken_first (text_rules l (head_of l)) qs (λ z. omega (arith, sym e ∙ z)) ∙ e)

differs : (u v : List ℕ) → (u ≡ v → ⊥) → same u v ≡ false
differs u v h = by (same u v) refl
  where
    by : (t : Bool) → same u v ≡ t → t ≡ false
    by true e = absurd (h (same_equal u v e))
    by false e = refl

other_fault : (terms : Terms) (l : List ℕ) → (head_uri (head_of l) ≡ terms.uri → ⊥) → head_fault terms l ≡ pick (eqb (text_fault l) 0) 16 (text_fault l)
unfolding head_fault caller_rules first_broken
other_fault terms l h = by_text l (caller_rules terms (head_of l)) ∙ rw (differs (head_uri (head_of l)) terms.uri h)

-- By the fault t of the text, which is not 12, and the two tests of trust: a question, and refusal 12, are refusal 16 now.
says_now : (t : ℕ) → eqb t 12 ≡ false → (found keys : Bool) (R Q : Rules Context Question Release LastWord) (q : Question)
    (y : Grant Context Release LastWord) (place at : ℕ) (answers : List Bool) (next next' : Context → List Bool → Log Question Release LastWord)
    → judged R (unless_broken (pick (eqb t 0) 16 t) place (ask q y)) at answers next
    ≡ as_another_show (judged Q (unless_broken (pick (eqb t 0) (pick found (pick keys 0 12) 12) t) place (ask q y)) at answers next')
unfolding as_another_show
says_now zero e true true R Q q y place at answers next next' = refl
says_now zero e true false R Q q y place at answers next next' = refl
says_now zero e false keys R Q q y place at answers next next' = refl
says_now (suc t) e found keys R Q q y place at answers next next' = rw (ne_eqb (suc t) 0 (λ x. omega arith), as_another_show, e)

module _ (terms : Terms) (stream : List ℕ) (answers : List Bool) (told : Bool) where
  -- of a stream that is cut so
  abbrev SaysNow : Cut → Type 0
  SaysNow m =
      from_head (judge_head terms) stream answers told m ≡ as_another_show (from_head (unasked_head terms.ring) stream answers told m)

  no_head : (told' : Bool) (at : ℕ)
      → ran_out (rules_with (judge_head terms)) at told' ≡ as_another_show (ran_out (rules_with (unasked_head terms.ring)) at told')
  unfolding as_another_show
  no_head true at = refl
  no_head false at = refl

  head_now : (l r : List ℕ) → (head_uri (head_of l) ≡ terms.uri → ⊥) → SaysNow (cut_at l r)
  unfolding judge_with judge_head unasked_head unasked_fault first_broken accept_head
  head_now l r h =
      rw (judge_head, unasked_head, unasked_fault, other_fault terms l h, by_text l (trust_rules terms.ring (head_of l)))
      (says_now (text_fault l) (not_twelve l) (is_found (trusted_by terms.ring (head_of l))) (same (block_key (head_of l)) (head_key (head_of l)))
      (rules_with (judge_head terms)) (rules_with (unasked_head terms.ring)) _ _ _ _ _ _ _)

  by_cut : (m : Cut) → (head_uri (head_of (part stream m)) ≡ terms.uri → ⊥) → SaysNow m
  by_cut uncut h = no_head told _
  by_cut (cut_at l r) h = head_now l r h

pub refused_where_not : RefusedWhereNot
unfolding unasked_reading
refused_where_not terms stream answers told other =
    rw (with_this_judge terms stream answers told, from_head_lem (judge_head terms) stream answers told, from_head_lem (unasked_head terms.ring) stream answers told)
    (by_cut terms stream answers told (cut is_whole_head stream) other)
