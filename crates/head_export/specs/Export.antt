-- What the exported function answers. Assumes nothing.
use Rattle.std.specs.Prelude.{List, [], ◌∷◌, ℕ, Result, Ok, Err}
use Rattle.octets.specs.Choice.{pick}
use Rattle.base64_text.specs.Base64.{is_base64, base64_bytes}
use Rattle.stream.specs.Ring.{Ring}
use Rattle.judging.specs.declared.Asked.{Asked}
use Rattle.refusals.specs.declared.Refusal.{Refusal}
use Rattle.judging.specs.Judgement.{Judgement, head_judged}

-- The result, and what the lent bytes then are.
pub record Answer : Type 0 where
  pub number : ℕ
  pub question : List ℕ

abbrev pub made : ℕ → List ℕ → Answer
made n l = record { number = n; question = l }

-- the number of a refusal, 0 where a question is asked
abbrev pub number_of : Result Asked Refusal → ℕ
number_of (Err why) = why.number
number_of (Ok asked) = 0

-- a ring of the one key that a text of 44 characters writes
unfoldable pub one_key : List ℕ → ℕ → ℕ → Ring
one_key text first last = pick (is_base64 32 text) (record { key = base64_bytes 32 text; first = first; last = last } ∷ []) []

abbrev pub told : Judgement → Answer
told j = made (number_of j.answer) j.question

abbrev pub answered : List ℕ → List ℕ → ℕ → ℕ → List ℕ → List ℕ → Answer
answered text key first last uri question = told (head_judged (record { ring = one_key key first last; uri = uri }) text question)
