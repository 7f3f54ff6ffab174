-- Bytes by class, and byte strings compared. Assumes nothing.
use Rattle.std.specs.Prelude.{Bool, true, false, ◌&&◌, ◌||◌, List, [], ◌∷◌, map, ℕ, ◌+◌, eqb, leb}
use Rattle.octets.specs.Octets.{octets}
use Rattle.octets.specs.Choice.{pick}

abbrev pub between : ℕ → ℕ → ℕ → Bool
between low high b = leb low b && leb b high

-- b is one of the list's
abbrev pub one_of : List ℕ → ℕ → Bool
one_of [] b = false
one_of (x ∷ xs) b = eqb b x || one_of xs b

abbrev pub is_digit : ℕ → Bool
is_digit b = between 48 57 b

abbrev pub is_letter : ℕ → Bool
is_letter b = between 65 90 b || between 97 122 b

-- a hex digit of either case
abbrev pub is_hex : ℕ → Bool
is_hex b = is_digit b || (between 65 70 b || between 97 102 b)

-- RFC 9110, section 5.6.2: the bytes of a field's name
abbrev pub is_tchar : ℕ → Bool
is_tchar b = is_digit b || (is_letter b || one_of (octets "!#$%&'*+-.^_`|~") b)

-- "only tab and bytes 32 to 126 and 128 to 255": the bytes of a reason or a value
abbrev pub is_text : ℕ → Bool
is_text b = eqb b 9 || (between 32 126 b || between 128 255 b)

-- "spaces and tabs"
abbrev pub is_blank : ℕ → Bool
is_blank b = eqb b 32 || eqb b 9

-- "letters, digits, `-`, `_`": the bytes of an injection's id
abbrev pub is_id_byte : ℕ → Bool
is_id_byte b = is_letter b || (is_digit b || (eqb b 45 || eqb b 95))

-- what may stand between quotes: all but a quote
abbrev pub is_quoted : ℕ → Bool
is_quoted b = pick (eqb b 34) false true

-- every byte is of the class
unfoldable pub all : (ℕ → Bool) → List ℕ → Bool
all p [] = true
all p (b ∷ l) = p b && all p l

-- the same bytes
unfoldable pub same : List ℕ → List ℕ → Bool
same [] [] = true
same [] (y ∷ ys) = false
same (x ∷ xs) [] = false
same (x ∷ xs) (y ∷ ys) = eqb x y && same xs ys

-- a letter in lower case, any other byte as it is
abbrev pub lower : ℕ → ℕ
lower b = pick (between 65 90 b) (b + 32) b

unfoldable pub lowered : List ℕ → List ℕ
lowered l = map lower l

-- "compared without case"
unfoldable pub same_name : List ℕ → List ℕ → Bool
same_name m n = same (lowered m) (lowered n)
