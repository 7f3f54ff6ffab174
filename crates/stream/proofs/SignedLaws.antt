-- Looked up by name, the signed fields of a head have all values that the head has of that name, or none. Assumes nothing.
use mathlib.Core.Bool.{Bool, true, false, ◌||◌, false≢true}
use mathlib.Core.List.{List, [], ◌∷◌, ◌++◌, append-nil}
use mathlib.Core.Path.{◌≡◌, refl, sym, ap, ap₂, ◌∙◌}
use Prim.Native.Nat.{ℕ}
use lib.ListN.{drop}
use Rattle.octets.specs.Choice.{pick}
use Rattle.stream.specs.Bytes.{lowered, same_name}
use Rattle.stream.specs.Fields.{among, is_doubled, names_of, has_field, value_of, values_of}
use Rattle.stream.specs.Head.{Head, listed_names, signed_of}
use Rattle.stream.specs.Lines.{Field}
use Rattle.stream.specs.Signatures.{are_fields, is_name_list, listed_fields, sig0_name}
use Rattle.stream.specs.Signing.{fields_named, signed_fields}
use Rattle.stream.specs.Template.{nth}
use Rattle.stream.proofs.SigningSize.{listed}
use Rattle.stream.proofs.Truth.{left_holds, right_holds, left_fails, right_fails, same_equal}

-- the value is the first of the values
pub first_value : (n : List ℕ) (fs : List Field) → value_of n fs ≡ nth 0 (values_of n fs)
unfolding value_of values_of
first_value n [] = refl
first_value n (f ∷ fs) = by (same_name n f.name) (first_value n fs)
  where
    by : (t : Bool) → value_of n fs ≡ nth 0 (values_of n fs)
        → elim t [ true ↦ f.value | false ↦ value_of n fs ] ≡ nth 0 (elim t [ true ↦ f.value ∷ values_of n fs | false ↦ values_of n fs ])
    by true ih = refl
    by false ih = ih

-- ---- names that are the same

same_as : (m n k : List ℕ) → same_name m n ≡ true → same_name n k ≡ same_name m k
unfolding same_name
same_as m n k h = rw (same_equal (lowered m) (lowered n) h)

abbrev with_first : Field → Bool → List (List ℕ) → List (List ℕ)
with_first f t others = elim t [ true ↦ f.value ∷ others | false ↦ others ]

pub same_found : (m n : List ℕ) (fs : List Field) → same_name m n ≡ true → values_of n fs ≡ values_of m fs
unfolding values_of
same_found m n [] h = refl
same_found m n (f ∷ fs) h = ap₂ (with_first f) (same_as m n f.name h) (same_found m n fs h)

pub same_among : (m n : List ℕ) (ns : List (List ℕ)) → same_name m n ≡ true → among n ns ≡ among m ns
unfolding among
same_among m n [] h = refl
same_among m n (k ∷ ns) h = ap₂ ◌||◌ (same_as m n k h) (same_among m n ns h)

-- ---- a field that there is has a value

pub some_values : (n : List ℕ) (fs : List Field) → has_field n fs ≡ true → value_of n fs ∷ drop 1 (values_of n fs) ≡ values_of n fs
unfolding has_field among names_of value_of values_of
some_values n [] h = absurd (false≢true h)
some_values n (f ∷ fs) h = by (same_name n f.name) h (some_values n fs)
  where
    by : (t : Bool) → t || among n (names_of fs) ≡ true → (has_field n fs ≡ true → value_of n fs ∷ drop 1 (values_of n fs) ≡ values_of n fs)
        → elim t [ true ↦ f.value | false ↦ value_of n fs ] ∷ drop 1 (with_first f t (values_of n fs)) ≡ with_first f t (values_of n fs)
    by true h ih = refl
    by false h ih = ih h

-- and each that is listed is there
pub listed_there : (name : List ℕ) (fs : List Field) (ns : List (List ℕ)) → are_fields fs ns ≡ true → among name ns ≡ true → has_field name fs ≡ true
unfolding are_fields among has_field
listed_there name fs [] h e = absurd (false≢true e)
listed_there name fs (n ∷ ns) h e = by (same_name name n) refl e (listed_there name fs ns (right_holds (has_field n fs) (are_fields fs ns) h))
  where
    by : (t : Bool) → same_name name n ≡ t → t || among name ns ≡ true → (among name ns ≡ true → has_field name fs ≡ true) → has_field name fs ≡ true
    by true s e ih = sym (same_among name n (names_of fs) s) ∙ left_holds (has_field n fs) (are_fields fs ns) h
    by false s e ih = ih e

-- ---- the fields of one name

all_named : (name n : List ℕ) (vs : List (List ℕ)) (fs : List Field) → same_name name n ≡ true
    → values_of name (fields_named n vs ++ fs) ≡ vs ++ values_of name fs
unfolding values_of
all_named name n [] fs h = refl
all_named name n (v ∷ vs) fs h = rw (values_of, h) (ap (λ (l : List (List ℕ)). v ∷ l) (all_named name n vs fs h))

none_named : (name n : List ℕ) (vs : List (List ℕ)) (fs : List Field) → same_name name n ≡ false
    → values_of name (fields_named n vs ++ fs) ≡ values_of name fs
unfolding values_of
none_named name n [] fs h = refl
none_named name n (v ∷ vs) fs h = rw (values_of, h) (none_named name n vs fs h)

-- ---- the signed fields

-- where no name is listed twice
signed_found : (name : List ℕ) (fs : List Field) (ns : List (List ℕ)) → is_doubled ns ≡ false
    → values_of name (signed_fields fs ns) ≡ pick (among name ns) (values_of name fs) []
unfolding values_of signed_fields among is_doubled
signed_found name fs [] h = refl
signed_found name fs (n ∷ ns) h = go (same_name name n) refl (signed_found name fs ns (right_fails (among n ns) (is_doubled ns) h))
  where
    go : (t : Bool) → same_name name n ≡ t → values_of name (signed_fields fs ns) ≡ pick (among name ns) (values_of name fs) []
        → values_of name (fields_named n (values_of n fs) ++ signed_fields fs ns) ≡ pick (t || among name ns) (values_of name fs) []
    go true e ih =
        let none : among name ns ≡ false = sym (same_among name n ns e) ∙ left_fails (among n ns) (is_doubled ns) h in
        all_named name n (values_of n fs) (signed_fields fs ns) e
        ∙ rw (ih, none) (append-nil (values_of n fs) ∙ same_found name n fs e)
    go false e ih = none_named name n (values_of n fs) (signed_fields fs ns) e ∙ ih

-- of a head whose list is good
pub signed_of_lem : (h : Head) (name : List ℕ) → is_name_list h.fields (listed_names h) ≡ true
    → values_of name (signed_of h) ≡ pick (among name (listed_fields (listed_names h))) (values_of name h.fields) []
unfolding signed_of is_doubled
signed_of_lem h name good =
    let ns = listed_fields (listed_names h) in
    signed_found name h.fields ns (right_fails (among sig0_name ns) (is_doubled ns) (listed h.fields (listed_names h) good).different)
