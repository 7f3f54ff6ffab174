-- The body as it comes out of a run: the bytes that were handed out with each block. Assumes nothing.
use Rattle.std.specs.Prelude.{List, [], ◌∷◌, ◌++◌, ℕ}
use Rattle.sections.specs.Reading.{Event, question, message, last, Log}
use Rattle.stream.specs.Events.{Question, LastWord}
use Rattle.agreement.specs.Observation.{Told, head_accepted, block}

-- the bytes handed out with an event
abbrev pub bytes_told : Event Question Told LastWord → List ℕ
bytes_told (question q) = []
bytes_told (message (head_accepted status value)) = []
bytes_told (message (block o n b)) = b
bytes_told (last l) = []

-- of all events, joined
unfoldable pub body_told : Log Question Told LastWord → List ℕ
body_told [] = []
body_told (x ∷ log) = bytes_told x.1 ++ body_told log
