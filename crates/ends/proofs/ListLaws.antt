-- Two lists compared as texts, part by part. Assumes nothing.
use mathlib.Core.Bool.{◌&&◌}
use mathlib.Core.List.{List, ◌++◌}
use mathlib.Core.Path.{◌≡◌, sym, ◌∙◌}
use Prim.Native.Nat.{ℕ, ◌-◌}
use native.Mathlib.Nat.{sub-zero}
use native.Mathlib.Omega.{arith}
use lib.ListN.{length, take, drop, length-drop}
use lib.Seq.{take_all}
use Rattle.places.specs.Place.{part_of}
use Rattle.stream.specs.Bytes.{same_name}
use Rattle.stream.specs.Ends.{added_names, same_names}
use Rattle.stream.specs.Signatures.{split_names}
use Rattle.stream.proofs.EndLists.{added_text, list_as_text, same_parts}

module _ (list longer front rest : List ℕ) (e : front ≡ part_of longer 0 (length list)) (f : rest ≡ part_of longer (length list) (length longer)) where
  front_is : front ≡ take (length list) longer
  unfolding part_of
  front_is = e ∙ rw sub-zero

  rest-is : rest ≡ drop (length list) longer
  unfolding part_of
  rest-is = f ∙ take_all (length longer - length list) (drop (length list) longer) (omega (arith, length-drop (length list) longer))

  pub extended_is : same_name front list && same_name rest added_text ≡ same_names (split_names longer) (split_names list ++ added_names)
  extended_is = rw (front_is, rest-is) (sym (list_as_text longer list ∙ same_parts longer list added_text))
