-- The fields of a head by name: "names are compared without case". Assumes nothing.
use Rattle.std.specs.Prelude.{Bool, true, false, ◌&&◌, ◌||◌, List, [], ◌∷◌, ℕ, length, take}
use Rattle.octets.specs.Octets.{octets}
use Rattle.stream.specs.Bytes.{same_name}
use Rattle.stream.specs.Lines.{Field}

-- the name is one of the list's
unfoldable pub among : List ℕ → List (List ℕ) → Bool
among n [] = false
among n (m ∷ ms) = same_name n m || among n ms

-- some two are the same
unfoldable pub is_doubled : List (List ℕ) → Bool
is_doubled [] = false
is_doubled (n ∷ ns) = among n ns || is_doubled ns

-- request #102: "other than those beginning `X-Ouinet-`, `Content-Length` and `Transfer-Encoding`, whose doubling stays refusal 3"
unfoldable pub is_protected : List ℕ → Bool
is_protected n =
    same_name (take 9 n) (octets "x-ouinet-") || (same_name n (octets "content-length") || same_name n (octets "transfer-encoding"))

-- "every pair of names is compared": some two are the same, and such a name
unfoldable pub is_protected_doubled : List (List ℕ) → Bool
is_protected_doubled [] = false
is_protected_doubled (n ∷ ns) = (is_protected n && among n ns) || is_protected_doubled ns

unfoldable pub names_of : List Field → List (List ℕ)
names_of [] = []
names_of (f ∷ fs) = f.name ∷ names_of fs

-- there is a field of that name
unfoldable pub has_field : List ℕ → List Field → Bool
has_field n fs = among n (names_of fs)

-- the value of the first field of that name, empty where there is none
unfoldable pub value_of : List ℕ → List Field → List ℕ
value_of n [] = []
value_of n (f ∷ fs) = elim (same_name n f.name) [ true ↦ f.value | false ↦ value_of n fs ]

-- the values of all fields of that name, in their order
unfoldable pub values_of : List ℕ → List Field → List (List ℕ)
values_of n [] = []
values_of n (f ∷ fs) = elim (same_name n f.name) [ true ↦ f.value ∷ values_of n fs | false ↦ values_of n fs ]

-- how many there are
abbrev pub count_of : List ℕ → List Field → ℕ
count_of n fs = length (values_of n fs)
