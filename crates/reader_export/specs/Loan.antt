-- What an exported call is lent, and what the contract of its function says of the answer. Assumes nothing.
use Rattle.std.specs.Prelude.{Bool, true, List, ◌≡◌, ℕ, length}
use Rattle.sections.specs.Calls.{Request, feed, answer, end}
use Rattle.calls.specs.Response.{Response}
use Rattle.layout.specs.State.{decoded}
use Rattle.results.specs.Written.{Answer, are_long}
use Rattle.reader_export.specs.Export.{called, feed_in, answer_in, end_in}

-- buffers of any lengths, with any bytes in them; the ring and the asked URI for a feed alone
pub record Loan : Type 0 where
  pub state : List ℕ
  pub head : List ℕ
  pub block : List ℕ
  pub question : List ℕ
  pub ring : List ℕ
  pub uri : List ℕ
  pub result : List ℕ

abbrev pub loan : List ℕ → List ℕ → List ℕ → List ℕ → List ℕ → List ℕ → List ℕ → Loan
loan s h b q ring uri t = record { state = s; head = h; block = b; question = q; ring = ring; uri = uri; result = t }

-- the reader's call, by the exported function of each request
abbrev pub call_in : Loan → Request → Response
call_in l (feed piece) = feed_in l.state l.head l.block l.question l.ring l.uri piece
call_in l (answer good) = answer_in l.state l.head l.block l.question good
call_in l end = end_in l.state l.head l.block l.question

-- the number returned, and all bytes that were lent as they are then: the clause `whole` of the contract
abbrev pub exported : Loan → Request → Answer
exported l r = called l.state l.head l.block l.question l.result (call_in l r)

-- the buffers of state and result are long enough; else the answer is 255
abbrev pub is_long : Loan → Bool
is_long l = are_long (length l.state) (length l.result)

-- both clauses
pub record Kept (l : Loan) (r : Request) (a : Answer) : Type 0 where
  pub whole : a ≡ exported l r
  pub carried : is_long l ≡ true → decoded a.state ≡ (call_in l r).after.reader
