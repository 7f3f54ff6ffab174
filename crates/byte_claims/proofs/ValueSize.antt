-- What is handed out of a head, for every count of its bytes: a value is no longer than the room that the head lies in, and a count is at
-- most the number of fields that a head may have. Assumes nothing.
use mathlib.Core.Bool.{Bool, true, false, ◌&&◌}
use mathlib.Core.List.{List, [], ◌∷◌}
use mathlib.Core.Path.{◌≡◌, refl}
use native.Mathlib.Omega.{arith}
use borrow.Author.Tests.{eqb-true, leb-true}
use Prim.Native.Nat.{ℕ, ◌-◌, ◌≤◌}
use lib.Dec.{eqb, leb}
use lib.ListN.{length, take, length-take}
use Rattle.octets.specs.Choice.{pick}
use Rattle.stream.specs.Bytes.{same_name}
use Rattle.stream.specs.Fields.{among, value_of, values_of, count_of}
use Rattle.stream.specs.Head.{head_of, head_with, listed_names, signed_of, text_rules}
use Rattle.stream.specs.Limits.{head_limit, field_limit}
use Rattle.stream.specs.Lines.{Field, are_field_lines}
use Rattle.stream.specs.Rule.{first_broken}
use Rattle.stream.specs.Signatures.{is_name_list, listed_fields}
use Rattle.stream.specs.Template.{nth}
use Rattle.stream.proofs.LineSizes.{field_size, field_lines_size, fields_size}
use Rattle.stream.proofs.RulesHold.{AllHold, rules_hold}
use Rattle.stream.proofs.ScanSizes.{total}
use Rattle.stream.proofs.SignedLaws.{first_value, signed_of_lem}
use Rattle.handing.specs.Handing.{fields_out, accepted_head, handed_fields, handed_value, handed_count}

-- ---- some fields

-- with its name, a colon and a line's end
value_small : (n : List ℕ) (fs : List Field) → length (value_of n fs) ≤ total field_size fs - 3
unfolding value_of
value_small n [] = omega arith
value_small n (f ∷ fs) = by (same_name n f.name) (value_small n fs)
  where
    by : (t : Bool) → length (value_of n fs) ≤ total field_size fs - 3
        → length {A = ℕ} (elim t [ true ↦ f.value | false ↦ value_of n fs ]) ≤ total field_size (f ∷ fs) - 3
    by true ih = omega arith
    by false ih = omega (arith, ih)

count_small : (n : List ℕ) (fs : List Field) → count_of n fs ≤ length fs
unfolding values_of
count_small n [] = omega arith
count_small n (f ∷ fs) = by (same_name n f.name) (count_small n fs)
  where
    by : (t : Bool) → count_of n fs ≤ length fs → length {A = List ℕ} (elim t [ true ↦ f.value ∷ values_of n fs | false ↦ values_of n fs ]) ≤ length (f ∷ fs)
    by true ih = omega (arith, ih)
    by false ih = omega (arith, ih)

-- ---- what a text hands out of a name: nothing, or all that its head has of it, and then no rule is broken

module _ (text name : List ℕ) (P : List (List ℕ) → Type 0) (nothing : P [])
    (all : AllHold (text_rules text (head_of text)) → P (values_of name (head_of text).fields)) where
  names_good : AllHold (text_rules text (head_of text)) → is_name_list (head_of text).fields (listed_names (head_of text)) ≡ true
  unfolding text_rules
  names_good rules = search

  values_out : P (values_of name (fields_out text))
  unfolding fields_out text_rules values_of
  values_out = by (eqb (first_broken (text_rules text (head_of text))) 0) refl
    where
      if_listed : AllHold (text_rules text (head_of text)) → (t : Bool) → P (pick t (values_of name (head_of text).fields) [])
      if_listed rules true = all rules
      if_listed rules false = nothing

      by : (t : Bool) → eqb (first_broken (text_rules text (head_of text))) 0 ≡ t → P (values_of name (pick t (signed_of (head_of text)) []))
      by true e =
          let rules = rules_hold (text_rules text (head_of text)) refl (eqb-true (first_broken (text_rules text (head_of text))) 0 e) in
          rw (signed_of_lem (head_of text) name (names_good rules)) (if_listed rules (among name (listed_fields (listed_names (head_of text)))))
      by false e = nothing

-- ---- the room

module _ (text name : List ℕ) where
  first_fits : AllHold (text_rules text (head_of text)) → length (nth 0 (values_of name (head_of text).fields)) ≤ length text
  unfolding text_rules head_of head_with
  first_fits rules =
      let lines : are_field_lines (head_of text).field_lines ≡ true = search in
      rw (← first_value name (head_of text).fields)
      (omega (arith, value_small name (head_of text).fields, fields_size (head_of text).field_lines lines, field_lines_size text))

  out_short : length (value_of name (fields_out text)) ≤ length text
  out_short =
      rw (first_value name (fields_out text)) (values_out text name (λ (vs : List (List ℕ)). length (nth 0 vs) ≤ length text) (omega arith) first_fits)

  all_few : AllHold (text_rules text (head_of text)) → length (values_of name (head_of text).fields) ≤ field_limit
  unfolding text_rules
  all_few rules =
      let few : leb (length (head_of text).fields) field_limit ≡ true = search in
      omega (arith, count_small name (head_of text).fields, leb-true (length (head_of text).fields) field_limit few)

  out_few : count_of name (fields_out text) ≤ field_limit
  out_few = values_out text name (λ (vs : List (List ℕ)). length vs ≤ field_limit) (omega arith) all_few

head_short : (room : List ℕ) (n : ℕ) → length (accepted_head room n) ≤ length room
unfolding accepted_head
head_short room n = by (leb head_limit (length room) && leb n (length room))
  where
    by : (t : Bool) → length (pick t (take n room) []) ≤ length room
    by true = omega (arith, length-take n room)
    by false = omega arith

pub value_short : (room : List ℕ) (n : ℕ) (name : List ℕ) → length (handed_value room n name) ≤ length room
unfolding handed_fields
value_short room n name = omega (arith, out_short (accepted_head room n) name, head_short room n)

pub count_few : (room : List ℕ) (n : ℕ) (name : List ℕ) → handed_count room n name ≤ field_limit
unfolding handed_fields
count_few room n name = out_few (accepted_head room n) name
