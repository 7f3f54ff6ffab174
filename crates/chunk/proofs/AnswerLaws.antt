-- What a caller learns from the answer to a line: which rule is broken, or that all hold and what they say of the line.
-- Assumes nothing.
use mathlib.Core.Bool.{Bool, true, false, ◌||◌}
use mathlib.Core.List.{List}
use mathlib.Core.Path.{◌≡◌, refl, sym, ap, ◌∙◌}
use Prim.Native.Nat.{ℕ, zero, suc, ◌+◌, ◌≤◌}
use borrow.Author.Tests.{leb-true}
use lib.Dec.{eqb, leb}
use Rattle.octets.specs.Choice.{pick}
use Rattle.stream.proofs.RulesHold.{rules_hold}
use Rattle.stream.proofs.Truth.{left_holds, right_holds}
use Rattle.stream.specs.Blocks.{is_chunk_line, carries_signature, carries_hash, chunk_size, line_signature, line_hash, same_bool, is_hash_due, line_rules, line_fault}
use Rattle.stream.specs.Limits.{body_limit}
use Rattle.stream.specs.Range.{Range, is_within}
use Rattle.std.specs.Prelude.{Ok}
use Rattle.chunk.specs.Judging.{zeros, carried_by, good_line, unless_fault, line_judged}
use Rattle.chunk.specs.declared.judging.Line.{Line}

-- a good line, by the size that it announces and the 64 bytes that it carries
pub record Accepted (N : ℕ) (r : Range) (due full : Bool) (sofar : ℕ) (l : List ℕ) (size : ℕ) (carried : List ℕ) : Type 0 where
  pub kept : line_fault N r due full sofar l ≡ 0
  pub text : is_chunk_line l ≡ true
  pub announced : size ≡ chunk_size l
  pub most : size ≤ N
  pub whole : full || eqb size 0 ≡ true
  pub body : sofar + size ≤ body_limit
  pub within : is_within r sofar size ≡ true
  pub signed : carries_signature l ≡ due
  pub hashed : carries_hash l ≡ is_hash_due r due
  pub carries : carried ≡ pick due (line_signature l) (pick (is_hash_due r due) (line_hash l) zeros)

same_bool_lem : (a b : Bool) → same_bool a b ≡ true → b ≡ a
same_bool_lem true b e = e
same_bool_lem false true e = sym e
same_bool_lem false false e = refl

-- a good line is not refused
answers_good : (m : ℕ) (l : List ℕ) (line good : Line) → unless_fault m l good ≡ Ok line → (m ≡ 0) × (line ≡ good)
answers_good zero l line good e = (refl, cc)
answers_good (suc m) l line good e = cc

module _ (N : ℕ) (r : Range) (due full : Bool) (sofar : ℕ) (l : List ℕ) (line : Line) (said : line_judged N r due full sofar l ≡ Ok line) where
  all_kept : (line_fault N r due full sofar l ≡ 0) × (line ≡ good_line (chunk_size l) (carried_by l))
  unfolding line_judged
  all_kept = answers_good (line_fault N r due full sofar l) l line _ said

  pub line_accepted : Accepted N r due full sofar l line.size line.carried
  unfolding line_fault line_rules
  line_accepted =
      let (k, kept) = all_kept in
      let size = ap (λ (x : Line). x.size) kept in
      let (r6, (r8, (h8, (r7, (p7, (r9, rest)))))) = rules_hold (line_rules N r due full sofar l) refl k in
      let s = same_bool_lem due (carries_signature l) r8 in
      let t = same_bool_lem (is_hash_due r due) (carries_hash l) h8 in
      record {
        kept = k;
        text = r6;
        announced = size;
        most = rw size (leb-true _ _ (left_holds (leb (chunk_size l) N) (full || eqb (chunk_size l) 0) r7));
        whole = rw size (right_holds (leb (chunk_size l) N) (full || eqb (chunk_size l) 0) r7);
        body = rw size (leb-true _ _ r9);
        within = rw size p7;
        signed = s;
        hashed = t;
        carries = ap (λ (x : Line). x.carried) kept ∙ rw (s, t);
      }
