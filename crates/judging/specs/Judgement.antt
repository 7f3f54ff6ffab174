-- The judgement of a head (paper 01, "The head" and "How a sitting goes"). Assumes nothing.
use Rattle.std.specs.Prelude.{List, ◌++◌, ℕ, eqb, leb, length, drop, Result, Ok, Err}
use Rattle.octets.specs.Choice.{pick}
use Rattle.params.specs.Injection.{padded}
use Rattle.ranges.specs.Extent.{extent_of}
use Rattle.refusals.specs.Refusals.{refusal_of}
use Rattle.stream.specs.Head.{Head, head_of, status_digits, range_of, block_size, injection_id, head_signature, signing_string, trusted_by, head_fault}
use Rattle.stream.specs.Limits.{id_limit}
use Rattle.stream.specs.Numbers.{decimal_value}
use Rattle.stream.specs.Places.{head_place}
use Rattle.stream.specs.Ring.{number_of}
use Rattle.stream.specs.Terms.{Terms}
use Rattle.refusals.specs.declared.Refusal.{Refusal}
use Rattle.judging.specs.declared.Asked.{Asked}

-- the answer, and the buffer that was lent for the question
pub record Judgement : Type 0 where
  pub answer : Result Asked Refusal
  pub question : List ℕ

abbrev pub judged : Result Asked Refusal → List ℕ → Judgement
judged answer question = record { answer = answer; question = question }

-- a refusal tells its number, and with 3 the place of the head's text, and nothing else
abbrev pub none_asked : ℕ → List ℕ → Result Asked Refusal
none_asked n l = Err (refusal_of n (head_place l))

-- *question*: the signing string at the front of the buffer, the signature that is to be its, and the number of the key's record;
-- with them what is told once the signature is good
unfoldable pub asked : ℕ → Head → List ℕ → Judgement
asked key h question =
    judged
    (Ok (record {
      status = decimal_value (status_digits h);
      size = block_size h;
      extent = extent_of (range_of h);
      key = key;
      id = padded id_limit (injection_id h);
      id_length = length (injection_id h);
      signature = head_signature h;
      length = length (signing_string h);
    }))
    (signing_string h ++ drop (length (signing_string h)) question)

-- A refusal leaves the buffer as it is. A buffer that is shorter than the head may lack room for the signing string, so it is
-- refused as a head that is too long for the reader is.
unfoldable pub head_judged : Terms → List ℕ → List ℕ → Judgement
head_judged terms l question =
    pick (eqb (head_fault terms l) 0)
    (pick (leb (length l) (length question)) (asked (number_of (trusted_by terms.ring (head_of l))) (head_of l) question) (judged (none_asked 3 l) question))
    (judged (none_asked (head_fault terms l) l) question)
