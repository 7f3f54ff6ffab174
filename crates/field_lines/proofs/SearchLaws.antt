-- The fields of a text's lines, looked up by name among the lines with their places. Assumes nothing.
use mathlib.Core.Path.{◌≡◌, refl, sym, ap, ◌∙◌}
use mathlib.Core.Bool.{Bool, true, false, ◌&&◌}
use mathlib.Core.List.{List, [], ◌∷◌}
use Prim.Native.Nat.{ℕ, ◌+◌}
use lib.ListN.{length}
use Rattle.std.specs.Borrow.{Bor}
use Rattle.std.specs.Option.{option_map}
use Rattle.std.specs.List.{list_all, filter, find}
use Rattle.std.specs.Prelude.{Option, None, Some, MatchOption}
use Rattle.stream.specs.Bytes.{same_name}
use Rattle.stream.specs.Fields.{value_of, count_of, values_of}
use Rattle.stream.specs.Lines.{is_field_line, field_of, are_field_lines, fields_of}
use Rattle.stream.proofs.Truth.{left_holds, right_holds}
use Rattle.field_lines.specs.Placed.{placed_from, line_item}

abbrev pub is_line : ℕ × List ℕ → Bool
is_line p = is_field_line p.1

abbrev pub is_named : List ℕ → ℕ × List ℕ → Bool
is_named name p = is_field_line p.1 && same_name name (field_of p.1).name

pub all_lines : (i : ℕ) (ls : List (List ℕ)) → list_all is_line (placed_from i ls) ≡ are_field_lines ls
unfolding placed_from are_field_lines
all_lines i [] = refl
all_lines i (l ∷ ls) = ap (λ (t : Bool). is_field_line l && t) (all_lines (i + length l + 2) ls)

module _ (name : List ℕ) where
  pub count_named : (i : ℕ) (ls : List (List ℕ)) → are_field_lines ls ≡ true → length (filter (is_named name) (placed_from i ls)) ≡ count_of name (fields_of ls)
  unfolding placed_from are_field_lines fields_of values_of
  count_named i [] h = refl
  count_named i (l ∷ ls) h = go (same_name name (field_of l).name) refl (count_named (i + length l + 2) ls (right_holds (is_field_line l) (are_field_lines ls) h))
    where
      go : (t : Bool) → same_name name (field_of l).name ≡ t → length (filter (is_named name) (placed_from (i + length l + 2) ls)) ≡ count_of name (fields_of ls)
          → length (filter (is_named name) (placed_from i (l ∷ ls))) ≡ count_of name (fields_of (l ∷ ls))
      go true e k = rw (left_holds (is_field_line l) (are_field_lines ls) h, values_of, e, k)
      go false e k = rw (left_holds (is_field_line l) (are_field_lines ls) h, values_of, e, k)

  -- the first that is found
  first_named : (i : ℕ) (ls : List (List ℕ)) → are_field_lines ls ≡ true
      → MatchOption (find (is_named name) (placed_from i ls)) (value_of name (fields_of ls) ≡ []) (λ p. (is_field_line p.1 ≡ true) × (value_of name (fields_of ls) ≡ (field_of p.1).value))
  unfolding placed_from are_field_lines fields_of value_of
  first_named i [] h = refl
  first_named i (l ∷ ls) h = go (same_name name (field_of l).name) refl (first_named (i + length l + 2) ls (right_holds (is_field_line l) (are_field_lines ls) h))
    where
      good : is_field_line l ≡ true
      good = left_holds (is_field_line l) (are_field_lines ls) h

      go : (t : Bool) → same_name name (field_of l).name ≡ t
          → MatchOption (find (is_named name) (placed_from (i + length l + 2) ls)) (value_of name (fields_of ls) ≡ []) (λ p. (is_field_line p.1 ≡ true) × (value_of name (fields_of ls) ≡ (field_of p.1).value))
          → MatchOption (find (is_named name) (placed_from i (l ∷ ls))) (value_of name (fields_of (l ∷ ls)) ≡ []) (λ p. (is_field_line p.1 ≡ true) × (value_of name (fields_of (l ∷ ls)) ≡ (field_of p.1).value))
      go true e k = rw (good, value_of, e) (good, refl)
      go false e k = rw (good, value_of, e) k

  -- v is the value of the line that was found
  pub found_value : (i : ℕ) (ls : List (List ℕ)) (r : Option (ℕ × Bor (List ℕ))) (v : List ℕ) → option_map line_item r ≡ find (is_named name) (placed_from i ls) → are_field_lines ls ≡ true
      → MatchOption r (v ≡ []) (λ p. is_field_line p.1.now ≡ true → v ≡ (field_of p.1.now).value) → v ≡ value_of name (fields_of ls)
  found_value i ls None v e g h = h ∙ sym (rw (← e) at (first_named i ls g))
  found_value i ls (Some p) v e g h = let n = rw (← e) at (first_named i ls g) in h n.0 ∙ sym n.1
