-- Which values of a head are handed out, by name, and that each stands in the message that is to be signed (paper 01, "How a sitting
-- goes": "for fields in the signed list only; for another name, .. the part is empty"). Assumes nothing.
use Rattle.std.specs.Prelude.{◌≡◌, Bool, true, false, List, [], ◌∷◌, ℕ, length}
use Rattle.stream.specs.Fields.{among, values_of}
use Rattle.stream.specs.Head.{Head, listed_names, signing_string}
use Rattle.stream.specs.Signatures.{listed_fields}
use Rattle.stream.specs.Signing.{joined_values, signing_line}
use Rattle.exactness.specs.MessageLines.{LineIn}
use Rattle.agreement.specs.Observation.{Values}

-- The values of the fields of that name, "compared without case": the one that is handed out is the first, the count is of all, and all of
-- them, "in order, with a comma and a space", are the value in the head's message.
pub record HasValues (head : Head) (name value : List ℕ) (count : ℕ) : Type 0 where
  pub others : List (List ℕ)
  pub all : value ∷ others ≡ values_of name head.fields
  pub counted : length (value ∷ others) ≡ count
  pub in_message : LineIn (signing_line (record { name = name; value = joined_values (value ∷ others) })) (signing_string head)

-- the head lists the name among those of the signed fields
abbrev pub is_listed : Head → List ℕ → Bool
is_listed head name = among name (listed_fields (listed_names head))

-- The values by name are those of the head's signed fields: no other name gives anything, and the line of a listed name stands in the head's
-- message with all values of that name.
pub record SignedValues (head : Head) (values : Values) : Type 0 where
  pub unlisted : (name : List ℕ) → is_listed head name ≡ false → values.value name ≡ []
  pub uncounted : (name : List ℕ) → is_listed head name ≡ false → values.count name ≡ 0
  pub listed : (name : List ℕ) → is_listed head name ≡ true → HasValues head name (values.value name) (values.count name)
