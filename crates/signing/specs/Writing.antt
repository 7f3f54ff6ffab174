-- The signing string by its lines (paper 01, "The head"). Assumes nothing.
use Rattle.std.specs.Prelude.{List, [], ◌∷◌, ◌++◌, map, ℕ}
use Rattle.octets.specs.Octets.{octets}
use Rattle.fields.specs.Table.{fields_in}
use Rattle.fields.specs.declared.table.Fields.{Fields}
use Rattle.names.specs.NameList.{names_in}
use Rattle.names.specs.declared.reading.Names.{Names}
use Rattle.stream.specs.Bytes.{lowered}
use Rattle.stream.specs.Lines.{Field}
use Rattle.stream.specs.Signatures.{listed_fields, response_status_name, created_name}
use Rattle.stream.specs.Signing.{joined_fields, signing_line, signing_text}

-- the name in lower case, colon, space
abbrev pub label_of : List ℕ → List ℕ
label_of name = lowered name ++ octets ": "

abbrev pub line_of : List ℕ → List ℕ → List ℕ
line_of name value = signing_line (record { name = name; value = value })

-- texts one after the other, each with `between` in front
unfoldable pub led_by : List ℕ → List (List ℕ) → List ℕ
led_by between [] = []
led_by between (t ∷ ts) = between ++ (t ++ led_by between ts)

-- the lines of some fields, each with a line feed in front
abbrev pub following : List Field → List ℕ
following fs = led_by (10 ∷ []) (map signing_line fs)

-- one line more, after those that there are
abbrev pub added_line : List ℕ → List ℕ → List ℕ
added_line name value = following (record { name = name; value = value } ∷ [])

-- by the fields of a head, its listed names, the digits of its status and those of `created`
unfoldable pub string_of : List Field → List (List ℕ) → List ℕ → List ℕ → List ℕ
string_of fs ns digits seconds =
    signing_text
    (record { name = response_status_name; value = digits }
    ∷ record { name = created_name; value = seconds }
    ∷ joined_fields fs (listed_fields ns))

-- ---- the same of the table and the spans that the code has

abbrev pub lines_in : List ℕ → Fields → List ℕ → Names → List ℕ
lines_in text f list n = following (joined_fields (fields_in text f) (listed_fields (names_in list n)))

abbrev pub string_in : List ℕ → Fields → List ℕ → Names → List ℕ → List ℕ → List ℕ
string_in text f list n digits seconds = string_of (fields_in text f) (names_in list n) digits seconds
