-- What a call of the reader gives as bytes: the state after it and its result. Assumes nothing.
use Rattle.std.specs.Prelude.{Bool, ◌&&◌, List, ℕ, leb}
use Rattle.layout.specs.State.{state_size, stored}
use Rattle.calls.specs.Response.{Response}
use Rattle.results.specs.Results.{result_size, word_of, result_in}

-- the number that is returned, and all bytes that are lent as they are then
pub record Answer : Type 0 where
  pub word : ℕ
  pub state : List ℕ
  pub head : List ℕ
  pub block : List ℕ
  pub question : List ℕ
  pub result : List ℕ

abbrev pub made : ℕ → List ℕ → List ℕ → List ℕ → List ℕ → List ℕ → Answer
made n s h b q t = record { word = n; state = s; head = h; block = b; question = q; result = t }

-- whether a state and a result fit buffers of these lengths
unfoldable pub are_long : ℕ → ℕ → Bool
are_long state result = leb state_size state && leb result_size result

-- what a call of the reader gives, with the state after it and its result written down
abbrev pub answered : List ℕ → List ℕ → Response → Answer
answered s t c =
    made (word_of c.word) (stored c.after.reader s) c.after.head c.after.block c.after.question
    (result_in c.word c.taken c.signature t)
