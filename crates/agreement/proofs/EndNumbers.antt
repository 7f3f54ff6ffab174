-- A trailer is never refused with 1 or 2, whatever it and the head are. Assumes nothing.
use mathlib.Core.Bool.{Bool, true, false}
use mathlib.Core.List.{List}
use mathlib.Core.Path.{◌≡◌, refl}
use Prim.Native.Nat.{ℕ, zero, suc, ◌≤◌}
use native.Mathlib.Omega.{arith}
use borrow.Author.Tests.{ne_eqb}
use lib.Dec.{eqb, leb}
use lib.ListN.{length}
use Rattle.octets.specs.Choice.{pick}
use Rattle.ends.specs.Judgement.{Judgement, asked, end_answered, end_judged, trailer_judged}
use Rattle.ends.specs.declared.trailer.Asked as End
use Rattle.refusals.specs.declared.Refusal.{Refusal}
use Rattle.std.specs.Prelude.{Option, Result, Ok, Err}
use Rattle.stream.specs.Ends.{is_checked, ends_in, end_fault}
use Rattle.stream.specs.Head.{Head, head_of, text_rules, range_of}
use Rattle.stream.specs.Lines.{Field}
use Rattle.stream.specs.Rule.{first_broken}
use Rattle.stream.specs.Trailer.{is_trailer}
use Rattle.agreement.proofs.Refusals.{end_number}

abbrev pub Numbered : Result (Option End.Asked) Refusal → Type 0
Numbered (Ok asked) = Unit {0}
Numbered (Err why) = 3 ≤ why.number

numbered_pick : (t : Bool) (j k : Judgement) → Numbered j.answer → Numbered k.answer → Numbered (pick t j k).answer
numbered_pick true j k a b = a
numbered_pick false j k a b = b

numbered_end : (most : ℕ) (h : Head) (fs : List Field) (total : ℕ) (hash q : List ℕ) → Numbered (end_judged most h fs total hash q).answer
unfolding end_judged end_answered asked
numbered_end most h fs total hash q = numbered_pick (is_checked (range_of h) fs) _ _ (by (end_fault h fs total hash) refl) tt
  where
    by : (fault : ℕ) → end_fault h fs total hash ≡ fault → Numbered (end_answered most h (ends_in fs) fault q).answer
    by zero e = numbered_pick (leb most (length q)) _ _ tt (omega arith)
    by (suc k) e = rw (ne_eqb (suc k) 0 (λ x. omega arith)) (end_number h fs total hash k e)

pub numbered : (l t : List ℕ) (total : ℕ) (hash q : List ℕ) → Numbered (trailer_judged l t total hash q).answer
unfolding trailer_judged
numbered l t total hash q =
    numbered_pick (is_trailer t) _ _
    (numbered_pick (eqb (first_broken (text_rules l (head_of l))) 0) _ _ (numbered_end (length l) (head_of l) _ total hash q) (omega arith))
    (omega arith)
