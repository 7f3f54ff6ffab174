-- The values of a head's signed fields, whose lines stand in its message. Assumes nothing.
use mathlib.Core.Path.{◌≡◌, sym, ap, ◌∙◌}
use mathlib.Core.Bool.{true, false}
use mathlib.Core.List.{List, [], ◌∷◌}
use Prim.Native.Nat.{ℕ}
use lib.ListN.{length, drop}
use Rattle.stream.specs.Fields.{value_of, values_of}
use Rattle.stream.specs.Head.{Head, listed_names, signed_of}
use Rattle.stream.specs.Lines.{Field}
use Rattle.stream.specs.Signatures.{is_name_list, listed_fields}
use Rattle.stream.specs.Template.{nth}
use Rattle.stream.proofs.SignedLaws.{first_value, some_values, listed_there, signed_of_lem}
use Rattle.stream.proofs.SigningSize.{listed}
use Rattle.exactness.proofs.MessageLines.{line_signed}
use Rattle.agreement.specs.Plain.{values_in}
use Rattle.claims.specs.SignedValues.{is_listed, HasValues, SignedValues}

module _ (head : Head) (good : is_name_list head.fields (listed_names head) ≡ true) (name : List ℕ) where
  abbrev fs : List Field
  fs = head.fields

  abbrev ns : List (List ℕ)
  ns = listed_fields (listed_names head)

  none_of : is_listed head name ≡ false → values_of name (signed_of head) ≡ []
  none_of e = signed_of_lem head name good ∙ rw e

  all_of : is_listed head name ≡ true → values_of name (signed_of head) ≡ values_of name fs
  all_of e = signed_of_lem head name good ∙ rw e

  has_values : is_listed head name ≡ true → HasValues head name (value_of name (signed_of head)) (length (values_of name (signed_of head)))
  has_values e =
      let others = drop 1 (values_of name fs) in
      let v : value_of name (signed_of head) ≡ value_of name fs = first_value name (signed_of head) ∙ ap (nth 0) (all_of e) ∙ sym (first_value name fs) in
      let a : value_of name (signed_of head) ∷ others ≡ values_of name fs =
      ap (λ (x : List ℕ). x ∷ others) v ∙ some_values name fs (listed_there name fs ns (listed fs (listed_names head) good).present e) in
      record { others = others; all = a; counted = ap length (a ∙ sym (all_of e)); in_message = rw a (line_signed head name e) }

-- THE VALUES of a head's signed fields
pub values_signed : (head : Head) → is_name_list head.fields (listed_names head) ≡ true → SignedValues head (values_in (signed_of head))
values_signed head good =
    record {
      unlisted = λ name e. first_value name (signed_of head) ∙ ap (nth 0) (none_of head good name e);
      uncounted = λ name e. ap length (none_of head good name e);
      listed = has_values head good;
    }
