-- The signing string (paper 01, "The head"; document 000, "Signature computation"). Assumes nothing.
use Rattle.std.specs.Prelude.{List, [], ◌∷◌, ◌++◌, map, ℕ}
use Rattle.octets.specs.Octets.{octets}
use Rattle.stream.specs.Bytes.{lowered}
use Rattle.stream.specs.Fields.{values_of}
use Rattle.stream.specs.Lines.{Field}

-- texts one after the other with `between` between them, and none after the last
unfoldable pub separated : List ℕ → List (List ℕ) → List ℕ
separated between [] = []
separated between (t ∷ []) = t
separated between (t ∷ u ∷ ts) = t ++ (between ++ separated between (u ∷ ts))

-- ---- the fields of a list of names, each with its name as it is listed

-- as many fields of one name as there are values
abbrev pub fields_named : List ℕ → List (List ℕ) → List Field
fields_named n vs = map (λ v. record { name = n; value = v }) vs

-- all that a head has of them
unfoldable pub signed_fields : List Field → List (List ℕ) → List Field
signed_fields fs [] = []
signed_fields fs (n ∷ ns) = fields_named n (values_of n fs) ++ signed_fields fs ns

-- request #102: "The signing draft joins the values of a repeated field, in order, with a comma and a space."
abbrev pub joined_values : List (List ℕ) → List ℕ
joined_values vs = separated (octets ", ") vs

abbrev pub joined_value : List ℕ → List Field → List ℕ
joined_value n fs = joined_values (values_of n fs)

-- each of them once
unfoldable pub joined_fields : List Field → List (List ℕ) → List Field
joined_fields fs [] = []
joined_fields fs (n ∷ ns) = record { name = n; value = joined_value n fs } ∷ joined_fields fs ns

-- ---- the string

-- "the name in lower case, colon, space, value"
unfoldable pub signing_line : Field → List ℕ
signing_line f = lowered f.name ++ (octets ": " ++ f.value)

-- "a line feed between, none after the last"
unfoldable pub signing_text : List Field → List ℕ
signing_text fs = separated (10 ∷ []) (map signing_line fs)
