-- The values that are handed out of an accepted head (paper 01, "How a sitting goes"). Assumes nothing.
use Rattle.std.specs.Prelude.{◌&&◌, List, [], ℕ, eqb, leb, length, take}
use Rattle.octets.specs.Choice.{pick}
use Rattle.stream.specs.Fields.{value_of, count_of}
use Rattle.stream.specs.Head.{head_of, signed_of, text_rules}
use Rattle.stream.specs.Limits.{head_limit}
use Rattle.stream.specs.Lines.{Field}
use Rattle.stream.specs.Rule.{first_broken}

-- the fields of a text that are handed out: "for fields in the signed list only"; of one that breaks a rule of heads there are none
unfoldable pub fields_out : List ℕ → List Field
fields_out text = pick (eqb (first_broken (text_rules text (head_of text))) 0) (signed_of (head_of text)) []

-- the head is the first n bytes of the room that a reader has for it; "with too short a hold" there is none
unfoldable pub accepted_head : List ℕ → ℕ → List ℕ
accepted_head room n = pick (leb head_limit (length room) && leb n (length room)) (take n room) []

unfoldable pub handed_fields : List ℕ → ℕ → List Field
handed_fields room n = fields_out (accepted_head room n)

-- request #102: "The handed-out value of a repeated field is its first part"
abbrev pub handed_value : List ℕ → ℕ → List ℕ → List ℕ
handed_value room n name = value_of name (handed_fields room n)

-- "a count says how many there are, 0 at a name, time or hold that gives no value"
abbrev pub handed_count : List ℕ → ℕ → List ℕ → ℕ
handed_count room n name = count_of name (handed_fields room n)
