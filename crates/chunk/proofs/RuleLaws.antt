-- The line by the first of its rules that is broken. Assumes nothing.
use mathlib.Core.Bool.{Bool, true, false}
use mathlib.Core.List.{List}
use mathlib.Core.Path.{◌≡◌, refl, sym, ap, ◌∙◌}
use Prim.Native.Nat.{ℕ, zero, suc}
use Rattle.std.specs.Prelude.{Some, None, Ok}
use Rattle.octets.specs.Choice.{pick}
use Rattle.stream.specs.Blocks.{extension, carries_signature, carries_hash, is_chunk_line, chunk_size, same_bool, is_hash_due, line_rules, line_fault}
use Rattle.stream.specs.Range.{Range}
use Rattle.stream.specs.Rule.{first_broken}
use Rattle.chunk.specs.Judging.{refused_line, good_line, carried_by, unless_fault, line_judged}
use Rattle.chunk.specs.Parts.{text_of, carried_of, line_read, is_signature, is_hash, is_due, size_rules, number_of, bytes_in}
use Rattle.chunk.specs.declared.reading.Carried.TheVariants.{Nothing, Signature, Hash}
use Rattle.chunk.specs.declared.reading.ChunkText.{ChunkText}
use Rattle.chunk.proofs.ReadLaws.{one_name, pick_both}

module _ (l : List ℕ) where
  signed_is : is_signature (carried_of l) ≡ carries_signature l
  signed_is = by (carries_signature l) (carries_hash l) _ _
    where
      by : (t u : Bool) (s h : List ℕ) → is_signature (pick t (Signature s) (pick u (Hash h) Nothing)) ≡ t
      by true u s h = refl
      by false true s h = refl
      by false false s h = refl

  hashed_is : is_hash (carried_of l) ≡ carries_hash l
  unfolding carries_signature carries_hash
  hashed_is = by (carries_signature l) (carries_hash l) _ _ (λ e. one_name (extension l) e)
    where
      by : (t u : Bool) (s h : List ℕ) → (t ≡ true → u ≡ false) → is_hash (pick t (Signature s) (pick u (Hash h) Nothing)) ≡ u
      by true u s h f = sym (f refl)
      by false true s h f = refl
      by false false s h f = refl

  bytes_are : bytes_in (carried_of l) ≡ carried_by l
  bytes_are = by (carries_signature l) (carries_hash l) _ _
    where
      by : (t u : Bool) (s h : List ℕ) → bytes_in (pick t (Signature s) (pick u (Hash h) Nothing)) ≡ pick t s (pick u h (bytes_in Nothing))
      by true u s h = refl
      by false true s h = refl
      by false false s h = refl

  read_is : {text : ChunkText} → Some text ≡ line_read l → (is_chunk_line l ≡ true) × (text ≡ text_of (chunk_size l) (carried_of l))
  unfolding line_read
  read_is e = by (is_chunk_line l) e
    where
      by : (t : Bool) {x y : ChunkText} → Some x ≡ pick t (Some y) None → (t ≡ true) × (x ≡ y)
      by true e = (refl, cc)
      by false e = cc

  unread_is : line_read l ≡ None → is_chunk_line l ≡ false
  unfolding line_read
  unread_is e = by (is_chunk_line l) _ e
    where
      by : (t : Bool) (y : ChunkText) → pick t (Some y) None ≡ None → t ≡ false
      by true y e = cc
      by false y e = refl

module _ (N : ℕ) (r : Range) (due full : Bool) (sofar : ℕ) (l : List ℕ) where
  fault_is : line_fault N r due full sofar l
      ≡ pick (is_chunk_line l) (pick (is_due r due (carried_of l)) (first_broken (size_rules N r full sofar (chunk_size l))) 8) 6
  unfolding line_fault line_rules first_broken size_rules is_due
  fault_is =
      rw (signed_is l, hashed_is l)
      (ap (λ (n : ℕ). pick (is_chunk_line l) n 6) (sym (pick_both (same_bool due (carries_signature l)) (same_bool (is_hash_due r due) (carries_hash l)) _ _)))

  pub judged_unread : line_read l ≡ None → line_judged N r due full sofar l ≡ refused_line 6 l
  unfolding line_judged
  judged_unread e = rw (fault_is, unread_is l e)

  module _ {text : ChunkText} (e : Some text ≡ line_read l) where
    text_is : text ≡ text_of (chunk_size l) (carried_of l)
    text_is = (read_is l e).1

    pub judged_undue : is_due r due text.carried ≡ false → line_judged N r due full sofar l ≡ refused_line 8 l
    unfolding line_judged
    judged_undue d = rw (fault_is, (read_is l e).0, rw text_is at d)

    module _ (d : is_due r due text.carried ≡ true) where
      fault_rules : line_fault N r due full sofar l ≡ first_broken (size_rules N r full sofar text.size)
      fault_rules = fault_is ∙ rw ((read_is l e).0, rw text_is at d, text_is)

      pub judged_broken : (n : ℕ) → number_of (first_broken (size_rules N r full sofar text.size)) ≡ Some n → line_judged N r due full sofar l ≡ refused_line n l
      unfolding line_judged
      judged_broken n b = rw fault_rules (by (first_broken (size_rules N r full sofar text.size)) b)
        where
          by : (m : ℕ) → number_of m ≡ Some n → unless_fault m l (good_line (chunk_size l) (carried_by l)) ≡ refused_line n l
          by zero b = cc
          by (suc m) b = cc

      pub judged_good : number_of (first_broken (size_rules N r full sofar text.size)) ≡ None
          → line_judged N r due full sofar l ≡ Ok (good_line text.size (bytes_in text.carried))
      unfolding line_judged
      judged_good b = rw fault_rules (by (first_broken (size_rules N r full sofar text.size)) b)
        where
          by : (m : ℕ) → number_of m ≡ None → unless_fault m l (good_line (chunk_size l) (carried_by l)) ≡ Ok (good_line text.size (bytes_in text.carried))
          by zero b = rw (text_is, bytes_are l)
          by (suc m) b = cc
