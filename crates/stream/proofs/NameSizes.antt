-- The fields that a list of names without doubles finds take no more room than all the fields there are. Assumes nothing.
use mathlib.Core.Bool.{Bool, true, false, ◌||◌, true≢false, false≢true}
use mathlib.Core.List.{List, [], ◌∷◌, ◌++◌}
use mathlib.Core.Path.{◌≡◌, refl, sym, ap, ◌∙◌}
use Prim.Native.Nat.{ℕ, ◌+◌, ◌≤◌}
use native.Mathlib.Omega.{arith}
use lib.ListN.{length, length-append}
use Rattle.octets.specs.Octets.{octets}
use Rattle.stream.specs.Bytes.{same_name}
use Rattle.stream.specs.Fields.{among, is_doubled, names_of, has_field, value_of, values_of}
use Rattle.stream.specs.Lines.{Field}
use Rattle.stream.specs.Signatures.{are_fields}
use Rattle.stream.specs.Signing.{separated, joined_values, joined_value, joined_fields}
use Rattle.stream.proofs.LineSizes.{field_size}
use Rattle.stream.proofs.ScanSizes.{total}
use Rattle.stream.proofs.Truth.{left_holds, right_holds, left_fails, right_fails, names_same, same_length}

-- the size of all fields of a name
unfoldable pub size_of : List Field → List ℕ → ℕ
size_of [] n = 0
size_of (f ∷ fs) n = elim (same_name n f.name) [ true ↦ field_size f + size_of fs n | false ↦ size_of fs n ]

-- ---- the sum over names is at most the sum over the fields, one field after the other

none_seen : (ns : List (List ℕ)) → total (size_of []) ns ≤ 0
unfolding size_of
none_seen [] = omega arith
none_seen (n ∷ ns) = omega (arith, none_seen ns)

-- the field is found by n, so by no name that differs from n
unseen : (f : Field) (fs : List Field) (n : List ℕ) (ns : List (List ℕ)) → same_name n f.name ≡ true → among n ns ≡ false
    → total (size_of (f ∷ fs)) ns ≡ total (size_of fs) ns
unfolding among size_of
unseen f fs n [] e h = refl
unseen f fs n (m ∷ ms) e h = by (same_name m f.name) refl (unseen f fs n ms e (right_fails (same_name n m) (among n ms) h))
  where
    by : (x : Bool) → same_name m f.name ≡ x → total (size_of (f ∷ fs)) ms ≡ total (size_of fs) ms
        → elim x [ true ↦ field_size f + size_of fs m | false ↦ size_of fs m ] + total (size_of (f ∷ fs)) ms ≡ size_of fs m + total (size_of fs) ms
    by true q ih = absurd (true≢false (sym (names_same f.name n m e q) ∙ left_fails (same_name n m) (among n ms) h))
    by false q ih = ap (λ (k : ℕ). size_of fs m + k) ih

-- names without doubles find it once at most
seen_once : (f : Field) (fs : List Field) (ns : List (List ℕ)) → is_doubled ns ≡ false
    → total (size_of (f ∷ fs)) ns ≤ field_size f + total (size_of fs) ns
unfolding is_doubled size_of
seen_once f fs [] h = omega arith
seen_once f fs (n ∷ ns) h = by (same_name n f.name) refl (seen_once f fs ns (right_fails (among n ns) (is_doubled ns) h))
  where
    by : (x : Bool) → same_name n f.name ≡ x → total (size_of (f ∷ fs)) ns ≤ field_size f + total (size_of fs) ns
        → elim x [ true ↦ field_size f + size_of fs n | false ↦ size_of fs n ] + total (size_of (f ∷ fs)) ns
        ≤ field_size f + (size_of fs n + total (size_of fs) ns)
    by true q ih = omega (arith, unseen f fs n ns q (left_fails (among n ns) (is_doubled ns) h))
    by false q ih = omega arith

pub names_size : (fs : List Field) (ns : List (List ℕ)) → is_doubled ns ≡ false → total (size_of fs) ns ≤ total field_size fs
names_size [] ns h = none_seen ns
names_size (f ∷ fs) ns h = omega (arith, seen_once f fs ns h, names_size fs ns h)

-- ---- a name and its values

-- a value more costs two bytes, and where it comes from a line
more_size : (v : List ℕ) (vs : List (List ℕ)) → length (joined_values (v ∷ vs)) ≤ length v + (2 + length (joined_values vs))
unfolding separated
more_size v [] = omega arith
more_size v (w ∷ vs) = omega (arith, length-append v (octets ", " ++ joined_values (w ∷ vs)))

pub none_there : (fs : List Field) (n : List ℕ) → has_field n fs ≡ false → values_of n fs ≡ []
unfolding has_field among names_of values_of
none_there [] n h = refl
none_there (f ∷ fs) n h =
    let a = same_name n f.name in
    rw (values_of, left_fails a (among n (names_of fs)) h) (none_there fs n (right_fails a (among n (names_of fs)) h))

-- of a field that there is: its line in the signing string, with a line feed, is no longer than all of its lines
pub named_size : (fs : List Field) (n : List ℕ) → has_field n fs ≡ true → length n + length (joined_value n fs) + 3 ≤ size_of fs n
unfolding has_field among names_of values_of size_of separated
named_size [] n h = absurd (false≢true h)
named_size (f ∷ fs) n h = by (same_name n f.name) refl h (named_size fs n)
  where
    first : same_name n f.name ≡ true → (x : Bool) → has_field n fs ≡ x → (x ≡ true → length n + length (joined_value n fs) + 3 ≤ size_of fs n)
        → length n + length (joined_values (f.value ∷ values_of n fs)) + 3 ≤ field_size f + size_of fs n
    first q true e ih = omega (arith, same_length n f.name q, more_size f.value (values_of n fs), ih refl)
    first q false e ih = rw (none_there fs n e) (omega (arith, same_length n f.name q))

    by : (x : Bool) → same_name n f.name ≡ x → (x || among n (names_of fs)) ≡ true
        → (has_field n fs ≡ true → length n + length (joined_value n fs) + 3 ≤ size_of fs n)
        → length n + length (joined_values (elim x [ true ↦ f.value ∷ values_of n fs | false ↦ values_of n fs ])) + 3
        ≤ elim x [ true ↦ field_size f + size_of fs n | false ↦ size_of fs n ]
    by true q i ih = first q (has_field n fs) refl (λ e. ih e)
    by false q i ih = ih i

-- the first value alone, whether there is such a field or not
pub value_size : (fs : List Field) (n : List ℕ) → length (value_of n fs) ≤ size_of fs n
unfolding value_of size_of
value_size [] n = omega arith
value_size (f ∷ fs) n = by (same_name n f.name) (value_size fs n)
  where
    by : (x : Bool) → length (value_of n fs) ≤ size_of fs n
        → length {A = ℕ} (elim x [ true ↦ f.value | false ↦ value_of n fs ]) ≤ elim x [ true ↦ field_size f + size_of fs n | false ↦ size_of fs n ]
    by true ih = omega arith
    by false ih = ih

-- the fields of a list of names, as they are signed
pub signed_size : (fs : List Field) (ns : List (List ℕ)) → are_fields fs ns ≡ true → total field_size (joined_fields fs ns) ≤ total (size_of fs) ns
unfolding are_fields joined_fields
signed_size fs [] h = omega arith
signed_size fs (n ∷ ns) h =
    omega
    (arith, named_size fs n (left_holds (has_field n fs) (are_fields fs ns) h), signed_size fs ns (right_holds (has_field n fs) (are_fields fs ns) h))
