-- The judgement of a trailer: its text (paper 01, "Blocks"), and the end of the show that it and the head claim (request #101), which of a part answer
-- is not checked (request #104). Assumes nothing.
use Rattle.std.specs.Prelude.{List, ◌++◌, ℕ, eqb, leb, length, drop, Option, Some, None, Result, Ok, Err}
use Rattle.octets.specs.Choice.{pick}
use Rattle.refusals.specs.Refusals.{placed, plain}
use Rattle.refusals.specs.declared.Refusal.{Refusal}
use Rattle.stream.specs.Ends.{Ends, all_fields, is_checked, ends_in, end_signature, end_fault, end_string}
use Rattle.stream.specs.Head.{Head, head_of, range_of, text_rules}
use Rattle.stream.specs.Lines.{Field}
use Rattle.stream.specs.Places.{trailer_place}
use Rattle.stream.specs.Rule.{first_broken}
use Rattle.stream.specs.Trailer.{is_trailer}
use Rattle.ends.specs.declared.trailer.Asked.{Asked}

-- the answer, and the buffer that was lent for the question
pub record Judgement : Type 0 where
  pub answer : Result (Option Asked) Refusal
  pub question : List ℕ

abbrev pub judged : Result (Option Asked) Refusal → List ℕ → Judgement
judged answer question = record { answer = answer; question = question }

abbrev pub refusing : Refusal → List ℕ → Judgement
refusing why question = judged (Err why) question

-- the stream is closed, with nothing to check
abbrev pub closing : List ℕ → Judgement
closing question = judged (Ok None) question

-- *question*: the signing string at the front of the buffer, and the signature that is to be its
unfoldable pub asked : Head → Ends → List ℕ → Judgement
asked h e question =
    judged (Ok (Some (record { signature = end_signature e; length = length (end_string h e) })))
    (end_string h e ++ drop (length (end_string h e)) question)

-- The end that is claimed, by its fault. The signing string has room in a buffer of `most` bytes, as many as the head has; only a state that no
-- stream leads to has a shorter one, and is refused.
unfoldable pub end_answered : ℕ → Head → Ends → ℕ → List ℕ → Judgement
end_answered most h e fault question =
    pick (eqb fault 0)
    (pick (leb most (length question)) (asked h e question) (refusing (plain 13) question))
    (refusing (plain fault) question)

unfoldable pub end_judged : ℕ → Head → List Field → ℕ → List ℕ → List ℕ → Judgement
end_judged most h fs total hash question =
    pick (is_checked (range_of h) fs) (end_answered most h (ends_in fs) (end_fault h fs total hash) question) (closing question)

-- The trailer t, after the head l and a body of `total` bytes with the SHA-256 `hash`. A text that is no good head comes only with a state that no
-- stream leads to; then the end is refused.
unfoldable pub trailer_judged : List ℕ → List ℕ → ℕ → List ℕ → List ℕ → Judgement
trailer_judged l t total hash question =
    pick (is_trailer t)
    (pick (eqb (first_broken (text_rules l (head_of l))) 0)
    (end_judged (length l) (head_of l) (all_fields (head_of l) t) total hash question)
    (refusing (plain 13) question))
    (refusing (placed 6 (trailer_place t)) question)
