-- A name that is there once has one value, and a protected one is there once at most. Assumes nothing.
use mathlib.Core.Bool.{Bool, true, false, ◌&&◌, ◌||◌, false≢true}
use mathlib.Core.List.{List, [], ◌∷◌}
use mathlib.Core.Path.{◌≡◌, refl, sym, ap, ◌∙◌}
use Prim.Native.Nat.{ℕ, zero, suc}
use lib.ListN.{take}
use Rattle.stream.specs.Bytes.{lower, lowered, same_name}
use Rattle.stream.specs.Fields.{among, is_protected, is_protected_doubled, names_of, has_field, value_of, values_of}
use Rattle.stream.specs.Lines.{Field}
use Rattle.stream.proofs.NameSizes.{none_there}
use Rattle.stream.proofs.SignedLaws.{same_among}
use Rattle.stream.proofs.Truth.{left_fails, right_fails, same_equal}

-- after the first of that name comes no other
abbrev pub Once : List ℕ → List (List ℕ) → Type 0
Once n [] = Unit {0}
Once n (m ∷ ms) = (same_name n m ≡ true → among n ms ≡ false) × Once n ms

-- such a name that is there has its one value
pub one_value : (n : List ℕ) (fs : List Field) → Once n (names_of fs) → has_field n fs ≡ true → values_of n fs ≡ value_of n fs ∷ []
unfolding among names_of has_field value_of values_of
one_value n [] once has = absurd (false≢true has)
one_value n (f ∷ fs) once has = by (same_name n f.name) refl has (one_value n fs once.1)
  where
    by : (t : Bool) → same_name n f.name ≡ t → (same_name n f.name || among n (names_of fs)) ≡ true
        → (among n (names_of fs) ≡ true → values_of n fs ≡ value_of n fs ∷ []) → values_of n (f ∷ fs) ≡ value_of n (f ∷ fs) ∷ []
    by true s h ih = rw (values_of, value_of, s, none_there fs n (once.0 s))
    by false s h ih = rw (values_of, value_of, s) (ih (rw s at h))

-- ---- protected names

take_lowered : (k : ℕ) (l : List ℕ) → lowered (take k l) ≡ take k (lowered l)
unfolding lowered
take_lowered zero l = refl
take_lowered (suc k) [] = refl
take_lowered (suc k) (x ∷ l) = ap (λ (m : List ℕ). lower x ∷ m) (take_lowered k l)

-- the same name in another case is protected too
same_protected : (m n : List ℕ) → same_name m n ≡ true → is_protected m ≡ is_protected n
unfolding same_name is_protected
same_protected m n s = rw (take_lowered 9 m, take_lowered 9 n, same_equal (lowered m) (lowered n) s)

pub protected_once : (n : List ℕ) (ns : List (List ℕ)) → is_protected n ≡ true → is_protected_doubled ns ≡ false → Once n ns
unfolding is_protected_doubled
protected_once n [] p h = tt
protected_once n (m ∷ ms) p h =
    let here = left_fails (is_protected m && among m ms) (is_protected_doubled ms) h in
    let others = right_fails (is_protected m && among m ms) (is_protected_doubled ms) h in
    (λ s. sym (same_among n m ms s) ∙ (rw (sym (same_protected n m s) ∙ p) at here), protected_once n ms p others)
