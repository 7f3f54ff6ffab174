-- The judgement by the tests that the code makes. Assumes nothing.
use mathlib.Core.Bool.{true, false}
use mathlib.Core.List.{List}
use mathlib.Core.Path.{◌≡◌, refl, sym}
use Prim.Native.Nat.{ℕ, zero, suc, ◌≤◌, ◌<◌}
use native.Mathlib.Omega.{arith}
use borrow.Author.Tests.{ne_eqb, le-leb, lt-leb}
use lib.ListN.{length}
use Rattle.end_fields.specs.Found.{AreLines}
use Rattle.refusals.specs.Refusals.{placed, plain}
use Rattle.stream.specs.Ends.{all_fields, is_checked}
use Rattle.stream.specs.Head.{head_of, range_of, text_rules}
use Rattle.stream.specs.Lines.{are_field_lines, text_lines}
use Rattle.stream.specs.Places.{trailer_place}
use Rattle.stream.specs.Rule.{first_broken}
use Rattle.stream.specs.Trailer.{ends_trailer, is_trailer}
use Rattle.stream.proofs.Truth.{right_holds}
use Rattle.ends.specs.Judgement.{refusing, closing, end_answered, end_judged, trailer_judged}
use Rattle.ends.specs.Steps.{Faultless, number_of, fault_after, asked_after, answered_after}
use Rattle.std.specs.Prelude.{Some, None}

pub trailer_lines : (t : List ℕ) → is_trailer t ≡ true → AreLines t
unfolding is_trailer
trailer_lines t h = right_holds (ends_trailer t) (are_field_lines (text_lines t)) h

-- ---- the end that is claimed

no_number : (m : ℕ) → None ≡ number_of m → m ≡ 0
no_number zero e = refl
no_number (suc m) e = cc

a_number : (m n : ℕ) → Some n ≡ number_of m → (m ≡ n) × (n ≡ 0 → ⊥)
a_number zero n e = cc
a_number (suc m) n e = let k : n ≡ suc m = cc in (sym k, λ z. omega arith)

module _ (l t : List ℕ) (total : ℕ) (hash question : List ℕ) where
  pub answered_broken : (n : ℕ) → Some n ≡ number_of (fault_after l t total hash) → refusing (plain n) question ≡ answered_after l t total hash question
  unfolding answered_after end_answered fault_after
  answered_broken n e =
      let (k, z) = a_number _ n e in
      rw (k, ne_eqb n 0 z)

  module _ (e : None ≡ number_of (fault_after l t total hash)) where
    pub answered_short : length question < length l → refusing (plain 13) question ≡ answered_after l t total hash question
    unfolding answered_after end_answered fault_after
    answered_short k = rw (no_number _ e, lt-leb (length l) (length question) k)

    pub answered_asked : length l ≤ length question → asked_after l t question ≡ answered_after l t total hash question
    unfolding answered_after asked_after end_answered fault_after
    answered_asked k = rw (no_number _ e, le-leb (length l) (length question) k)

    pub faultless : Faultless l t
    faultless = record { total = total; hash = hash; kept = no_number _ e }

-- ---- the trailer

module _ (l t : List ℕ) (total : ℕ) (hash question : List ℕ) where
  pub judged_text : is_trailer t ≡ false → refusing (placed 6 (trailer_place t)) question ≡ trailer_judged l t total hash question
  unfolding trailer_judged
  judged_text e = rw e

  module _ (e : is_trailer t ≡ true) where
    pub judged_head : (first_broken (text_rules l (head_of l)) ≡ 0 → ⊥) → refusing (plain 13) question ≡ trailer_judged l t total hash question
    unfolding trailer_judged
    judged_head h = rw (e, ne_eqb (first_broken (text_rules l (head_of l))) 0 h)

    module _ (h : first_broken (text_rules l (head_of l)) ≡ 0) where
      pub judged_closed : is_checked (range_of (head_of l)) (all_fields (head_of l) t) ≡ false → closing question ≡ trailer_judged l t total hash question
      unfolding trailer_judged end_judged
      judged_closed k = rw (e, h, k)

      pub judged_claimed : is_checked (range_of (head_of l)) (all_fields (head_of l) t) ≡ true
          → answered_after l t total hash question ≡ trailer_judged l t total hash question
      unfolding trailer_judged end_judged answered_after
      judged_claimed k = rw (e, h, k)
