-- Before request #102: no two fields of a head had one name, and so each signed field had one value. The rule that the request has amended
-- stands here as it was, in the midst of all others as they are now. Assumes nothing.
use Rattle.std.specs.Prelude.{Bool, not, List, [], ◌∷◌, ◌++◌, ℕ, take, drop}
use Rattle.sections.specs.Reading.{Log, ask, granted}
use Rattle.stream.specs.Events.{Question, Release, head_accepted, LastWord}
use Rattle.stream.specs.Fields.{is_doubled, names_of, value_of}
use Rattle.stream.specs.Head.{Head, head_of, status_digits, signed_status, head_signature, listed_names, trusted_by, text_rules, caller_rules}
use Rattle.stream.specs.Lines.{Field}
use Rattle.stream.specs.Numbers.{decimal_value}
use Rattle.stream.specs.Places.{head_place}
use Rattle.stream.specs.Ring.{Ring, number_of}
use Rattle.stream.specs.Rule.{Rule, rule, first_broken}
use Rattle.stream.specs.Signatures.{created_text, listed_fields, response_status_name, created_name}
use Rattle.stream.specs.Signing.{signing_text}
use Rattle.stream.specs.Stream.{first_line, Says, unless_broken, show_of}
use Rattle.stream.specs.Terms.{Terms}
use Rattle.kept.specs.OtherHeads.{reading_with}

-- the fifth rule: "every pair of names is compared"
unfoldable pub older_rules : List ℕ → Head → List Rule
older_rules l h = take 4 (text_rules l h) ++ (rule 3 (not (is_doubled (names_of h.fields))) ∷ drop 5 (text_rules l h))

unfoldable pub older_fault : Terms → List ℕ → ℕ
older_fault terms l = first_broken (older_rules l (head_of l) ++ caller_rules terms (head_of l))

-- the fields of those names, each with its name as it is listed
unfoldable pub single_fields : List Field → List (List ℕ) → List Field
single_fields fs [] = []
single_fields fs (n ∷ ns) = record { name = n; value = value_of n fs } ∷ single_fields fs ns

unfoldable pub older_signed : Head → List Field
older_signed h = single_fields h.fields (listed_fields (listed_names h))

unfoldable pub older_string : Head → List ℕ
older_string h =
    signing_text
    (record { name = response_status_name; value = signed_status h }
    ∷ record { name = created_name; value = created_text h.sig0 }
    ∷ older_signed h)

unfoldable pub older_question : Ring → Head → Question
older_question ring h = record { message = older_string h; signature = head_signature h; key_number = number_of (trusted_by ring h) }

unfoldable pub older_accept : Ring → Head → Says
older_accept ring h =
    ask (older_question ring h) (granted (head_accepted (decimal_value (status_digits h)) (older_signed h)) (first_line (show_of ring h)))

unfoldable pub older_head : Terms → List ℕ → Says
older_head terms l = unless_broken (older_fault terms l) (head_place l) (older_accept terms.ring (head_of l))

unfoldable pub older_reading : Terms → List ℕ → List Bool → Bool → Log Question Release LastWord
older_reading terms stream answers told = reading_with (older_head terms) stream answers told
