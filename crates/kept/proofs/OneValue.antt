-- Where no two fields have one name, each name that is there has one value, and is signed as it was. Assumes nothing.
use mathlib.Core.Bool.{true, false, and-false}
use mathlib.Core.List.{List, [], ◌∷◌}
use mathlib.Core.Path.{◌≡◌, refl, sym, ◌∙◌}
use Prim.Native.Nat.{ℕ}
use Rattle.stream.specs.Fields.{among, is_doubled, is_protected, is_protected_doubled, names_of, has_field, value_of, values_of}
use Rattle.stream.specs.Lines.{Field}
use Rattle.stream.specs.Signatures.{are_fields}
use Rattle.stream.specs.Signing.{separated, signed_fields, joined_fields}
use Rattle.stream.proofs.SignedLaws.{same_among}
use Rattle.stream.proofs.Truth.{left_holds, right_holds, left_fails, right_fails}
use Rattle.exactness.proofs.OneValue.{Once, one_value}
use Rattle.kept.specs.Older.{single_fields}

-- no name twice, and so no protected one twice
pub not_protected_doubled : (ns : List (List ℕ)) → is_doubled ns ≡ false → is_protected_doubled ns ≡ false
unfolding is_doubled is_protected_doubled
not_protected_doubled [] h = refl
not_protected_doubled (n ∷ ns) h =
    rw (left_fails (among n ns) (is_doubled ns) h, not_protected_doubled ns (right_fails (among n ns) (is_doubled ns) h), and-false (is_protected n))

-- and each name once at most
doubled_once : (n : List ℕ) (ns : List (List ℕ)) → is_doubled ns ≡ false → Once n ns
unfolding is_doubled
doubled_once n [] h = tt
doubled_once n (m ∷ ms) h =
    (λ s. sym (same_among n m ms s) ∙ left_fails (among m ms) (is_doubled ms) h, doubled_once n ms (right_fails (among m ms) (is_doubled ms) h))

-- so that what is handed out, and what is signed, of the listed fields is what the older rule had
pub single_fields_lem : (fs : List Field) (ns : List (List ℕ)) → is_doubled (names_of fs) ≡ false → are_fields fs ns ≡ true
    → (signed_fields fs ns ≡ single_fields fs ns) × (joined_fields fs ns ≡ single_fields fs ns)
unfolding are_fields signed_fields joined_fields single_fields separated
single_fields_lem fs [] single there = (refl, refl)
single_fields_lem fs (n ∷ ns) single there =
    let here = left_holds (has_field n fs) (are_fields fs ns) there in
    let one : values_of n fs ≡ value_of n fs ∷ [] = one_value n fs (doubled_once n (names_of fs) single) here in
    let rest = single_fields_lem fs ns single (right_holds (has_field n fs) (are_fields fs ns) there) in
    (rw (one, rest.0), rw (one, rest.1))
