-- What the plain reading shows of a list of calls. No reader stands here: only the words and counts that the reading gives, and
-- what they hand out (paper 01, "How a sitting goes"). Assumes nothing.
use Rattle.std.specs.Prelude.{List, [], ◌∷◌, ℕ, length}
use Rattle.sections.specs.Reading.{Event, question, message, last, Log}
use Rattle.sections.specs.Calls.{Request, feed, answer, end, Call, Reply, more, event, misused, Out, read_calls}
use Rattle.sections.specs.Resuming.{request}
use Rattle.stream.specs.Events.{Question, Release, head_accepted, block, LastWord}
use Rattle.stream.specs.Fields.{value_of, count_of}
use Rattle.stream.specs.Lines.{Field}
use Rattle.stream.specs.Stream.{head, rules}
use Rattle.stream.specs.Terms.{Terms}
use Rattle.agreement.specs.Observation.{Values, Told, Observation, Trace}
use Rattle.agreement.specs.Observation as S

-- ---- words

-- the values of some fields by their names
abbrev pub values_in : List Field → Values
values_in fields = record { value = λ name. value_of name fields; count = λ name. count_of name fields }

-- a release, as a caller sees it
abbrev pub told : Release → Told
told (head_accepted status fields) = S.head_accepted status (values_in fields)
told (block offset b) = S.block offset (length b) b

abbrev pub told_event : Event Question Release LastWord → Event Question Told LastWord
told_event (question q) = question q
told_event (message e) = message (told e)
told_event (last l) = last l

abbrev pub told_word : Reply Question Release LastWord → Reply Question Told LastWord
told_word more = more
told_word (event e) = event (told_event e)
told_word (misused n) = misused n

-- events in their order, each with its place
unfoldable pub told_log : Log Question Release LastWord → Log Question Told LastWord
told_log [] = []
told_log (x ∷ log) = (x.0, told_event x.1) ∷ told_log log

-- ---- what is handed out

-- the released block, and the signed fields of the accepted head
pub record Handed : Type 0 where
  pub released : List ℕ
  pub signed : List Field

-- at first nothing
abbrev pub nothing : Handed
nothing = record { released = []; signed = [] }

-- "until the next feed or end that isn't refused by 1 or 2": such a call takes the block back, an answer does not
abbrev pub block_left : Request → List ℕ → List ℕ
block_left (feed piece) b = []
block_left (answer good) b = b
block_left end b = []

-- *block* hands its bytes out, and *head accepted* the signed fields, for good; a call refused by 1 or 2 changes nothing
abbrev pub handed_after : Handed → Request → Reply Question Release LastWord → Handed
handed_after h r more = record { released = block_left r h.released; signed = h.signed }
handed_after h r (event (question q)) = record { released = block_left r h.released; signed = h.signed }
handed_after h r (event (message (head_accepted status fields))) = record { released = block_left r h.released; signed = fields }
handed_after h r (event (message (block offset b))) = record { released = b; signed = h.signed }
handed_after h r (event (last l)) = record { released = block_left r h.released; signed = h.signed }
handed_after h r (misused n) = h

-- ---- calls

abbrev pub observes : Handed → Out Question Release LastWord → Observation
observes h o = record { out = (told_word o.0, o.1); block = h.released; values = values_in h.signed }

-- what is shown of one call after the other, where h is handed out before them
unfoldable pub trace_from : Handed → List Call → List (Out Question Release LastWord) → Trace
trace_from h [] os = []
trace_from h (k ∷ ks) [] = []
trace_from h (k ∷ ks) (o ∷ os) = observes (handed_after h (request k) o.0) o ∷ trace_from (handed_after h (request k) o.0) ks os

-- what the plain reading shows of a list of calls
unfoldable pub plain_trace : Terms → List Call → Trace
plain_trace terms ks = trace_from nothing ks (read_calls (rules terms) head ks)
