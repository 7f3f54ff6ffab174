-- What a caller sees of a call (paper 01, "The plain reading": "Compared are each call's word with all it carries, the counts taken,
-- a question's message, and the handed-out parts"). Assumes nothing.
use Rattle.std.specs.Prelude.{List, [], ◌∷◌, ℕ}
use Rattle.sections.specs.Calls.{Out}
use Rattle.stream.specs.Events.{Question, LastWord}

-- what is handed out of an accepted head by a field's name: its value, and how many fields of that name there are
pub record Values : Type 0 where
  pub value : List ℕ → List ℕ
  pub count : List ℕ → ℕ

-- what *head accepted* and *block* carry, and what is handed out with them: the status, and the values of the fields; the offset and the
-- length, and the block
pub data Told : Type 0 where
  head_accepted : ℕ → Values → Told
  block : ℕ → ℕ → List ℕ → Told

-- the word with all that it carries, and the count taken; then, as they are handed out after the call, the released block and the
-- values of the fields
pub record Observation : Type 0 where
  pub out : Out Question Told LastWord
  pub block : List ℕ
  pub values : Values

-- what is seen of a list of calls
abbrev pub Trace : Type 0
Trace = List Observation

-- the words and the counts alone
unfoldable pub outs : Trace → List (Out Question Told LastWord)
outs [] = []
outs (s ∷ ss) = s.out ∷ outs ss
