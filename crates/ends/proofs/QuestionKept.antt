-- The judgement of a trailer keeps the length of the buffer that is lent for the question, and the question lies within it. Assumes nothing.
use mathlib.Core.Bool.{Bool, true, false}
use mathlib.Core.List.{List}
use mathlib.Core.Path.{◌≡◌, refl}
use Prim.Native.Nat.{ℕ, zero, suc, ◌≤◌}
use native.Mathlib.Nat.{le_trans}
use native.Mathlib.Omega.{arith}
use borrow.Author.Tests.{ne_eqb, leb-true, eqb-true}
use lib.Dec.{eqb, leb}
use lib.ListN.{length, length-append, length-drop}
use Rattle.octets.specs.Choice.{pick}
use Rattle.stream.specs.Ends.{is_checked, ends_in, end_fault, end_string}
use Rattle.stream.specs.Head.{head_of, range_of, text_rules}
use Rattle.stream.specs.Lines.{Field}
use Rattle.stream.specs.Rule.{first_broken}
use Rattle.stream.specs.Trailer.{is_trailer}
use Rattle.stream.proofs.EndString.{short_ends, end_fits}
use Rattle.ends.specs.Judgement.{Judgement, asked, end_answered, end_judged, trailer_judged}
use Rattle.ends.specs.declared.trailer.Asked.{Asked}
use Rattle.refusals.specs.declared.Refusal.{Refusal}
use Rattle.std.specs.Prelude.{Option, Some, None, Result, Ok, Err}

-- a question of n bytes has room
abbrev pub Within : ℕ → Result (Option Asked) Refusal → Type 0
Within room (Ok None) = Unit {0}
Within room (Ok (Some a)) = a.length ≤ room
Within room (Err why) = Unit {0}

pub record Kept (q : List ℕ) (j : Judgement) : Type 0 where
  pub same : length j.question ≡ length q
  pub within : Within (length q) j.answer

kept_pick : (q : List ℕ) (t : Bool) (j k : Judgement) → (t ≡ true → Kept q j) → Kept q k → Kept q (pick t j k)
kept_pick q true j k a b = a refl
kept_pick q false j k a b = b

module _ (l : List ℕ) (good : first_broken (text_rules l (head_of l)) ≡ 0) (fs : List Field) (total : ℕ) (hash q : List ℕ) where
  kept_asked : end_fault (head_of l) fs total hash ≡ 0 → length l ≤ length q → Kept q (asked (head_of l) (ends_in fs) q)
  unfolding asked
  kept_asked e m =
      let n : length (end_string (head_of l) (ends_in fs)) ≤ length q = le_trans (end_fits l (ends_in fs) good (short_ends (head_of l) fs total hash e)) m in
      record { same = rw (length-append, length-drop) (omega (arith, n)); within = n }

  kept_fault : (fault : ℕ) → end_fault (head_of l) fs total hash ≡ fault → Kept q (end_answered (length l) (head_of l) (ends_in fs) fault q)
  unfolding end_answered
  kept_fault zero e =
      kept_pick q (leb (length l) (length q)) _ _ (λ t. kept_asked e (leb-true (length l) (length q) t)) (record { same = refl; within = tt })
  kept_fault (suc n) e = rw (ne_eqb (suc n) 0 (λ y. omega arith)) (record { same = refl; within = tt })

  kept_end : Kept q (end_judged (length l) (head_of l) fs total hash q)
  unfolding end_judged
  kept_end = kept_pick q (is_checked (range_of (head_of l)) fs) _ _ (λ t. kept_fault (end_fault (head_of l) fs total hash) refl) (record { same = refl; within = tt })

pub judgement_kept : (l t : List ℕ) (total : ℕ) (hash q : List ℕ) → Kept q (trailer_judged l t total hash q)
unfolding trailer_judged
judgement_kept l t total hash q =
    kept_pick q (is_trailer t) _ _
    (λ e. kept_pick q (eqb (first_broken (text_rules l (head_of l))) 0) _ _ (λ g. kept_end l (eqb-true _ 0 g) _ total hash q) (record { same = refl; within = tt }))
    (record { same = refl; within = tt })

pub question_kept : (l t : List ℕ) (total : ℕ) (hash q : List ℕ) → length (trailer_judged l t total hash q).question ≡ length q
question_kept l t total hash q = (judgement_kept l t total hash q).same
