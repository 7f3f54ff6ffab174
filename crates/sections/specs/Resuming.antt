-- What it means that a stream is handed over in pieces, and what events a list of calls gave: both are read off the
-- calls and what they returned. Assumes nothing.
use Rattle.std.specs.Prelude.{◌≡◌, Bool, true, false, ◌||◌, List, [], ◌∷◌, ◌++◌, ℕ, ◌+◌, take, drop}
use Rattle.sections.specs.Reading.{Log}
use Rattle.sections.specs.Calls.{Request, feed, answer, end, Call, call, Reply, more, event, misused, Out, over, standing}

-- The list l is a beginning of the list m.
pub record Begins {A : Type 0} (l m : List A) : Type 0 where
  pub rest : List A
  pub joined : l ++ rest ≡ m

module _ {Q E L : Type 0} where
  -- The call was not refused by 1 or 2.
  abbrev pub heard : Reply Q E L → Bool
  heard more = true
  heard (event e) = true
  heard (misused n) = false

-- A call that was heard, where `left` is what of the stream is not yet taken: a piece is a beginning of it, and
-- the end is told only once nothing is left. A refused call may be anything.
abbrev pub continues : List ℕ → Bool → Request → Type 0
continues left false r = Unit {0}
continues left true (feed piece) = Begins piece left
continues left true (answer a) = Unit {0}
continues left true end = left ≡ []

-- The bytes that a call took, if it was heard: the first so many of its piece.
abbrev pub bytes_by : Bool → ℕ → Request → List ℕ
bytes_by false n r = []
bytes_by true n (feed piece) = take n piece
bytes_by true n (answer a) = []
bytes_by true n end = []

-- The answer that a call gave, if it was heard.
abbrev pub answer_by : Bool → Request → List Bool
answer_by false r = []
answer_by true (feed piece) = []
answer_by true (answer a) = a ∷ []
answer_by true end = []

-- Whether it told the end, if it was heard.
abbrev pub end_by : Bool → Request → Bool
end_by false r = false
end_by true (feed piece) = false
end_by true (answer a) = false
end_by true end = true

-- What a call asks for, whatever it is lent.
abbrev pub request : Call → Request
request (call fit r) = r

module _ {Q E L : Type 0} where
  -- The calls, with what they returned, go through the stream `left`, each from the first byte not taken.
  unfoldable pub Resumes : List ℕ → List Call → List (Out Q E L) → Type 0
  Resumes left [] os = Unit {0}
  Resumes left (k ∷ ks) [] = Unit {0}
  Resumes left (k ∷ ks) (o ∷ os) = continues left (heard o.0) (request k) × Resumes (drop o.1 left) ks os

  -- What a word adds to the log, with so many bytes taken.
  abbrev pub entry : ℕ → Reply Q E L → Log Q E L
  entry at more = []
  entry at (event e) = (at, e) ∷ []
  entry at (misused n) = []

  -- An event's place in a run is the sum of the counts taken up to its call, that included.
  unfoldable pub placed : ℕ → List (Out Q E L) → Log Q E L
  placed at [] = []
  placed at (o ∷ os) = entry (at + o.1) o.0 ++ placed (at + o.1) os

  -- The events that a list of calls gave.
  abbrev pub events : List (Out Q E L) → Log Q E L
  events os = placed 0 os

  -- The bytes that were taken, one after the other.
  unfoldable pub bytes_taken : List Call → List (Out Q E L) → List ℕ
  bytes_taken [] os = []
  bytes_taken (k ∷ ks) [] = []
  bytes_taken (k ∷ ks) (o ∷ os) = bytes_by (heard o.0) o.1 (request k) ++ bytes_taken ks os

  -- The answers that were heard, in their order.
  unfoldable pub answers_heard : List Call → List (Out Q E L) → List Bool
  answers_heard [] os = []
  answers_heard (k ∷ ks) [] = []
  answers_heard (k ∷ ks) (o ∷ os) = answer_by (heard o.0) (request k) ++ answers_heard ks os

  -- Whether an end was heard.
  unfoldable pub end_heard : List Call → List (Out Q E L) → Bool
  end_heard [] os = false
  end_heard (k ∷ ks) [] = false
  end_heard (k ∷ ks) (o ∷ os) = end_by (heard o.0) (request k) || end_heard ks os

  -- The log is a beginning of the whole reading, and all of it once a last word has come.
  pub record Tracks (log whole : Log Q E L) : Type 0 where
    pub begins : Begins log whole
    pub complete : standing log ≡ over → log ≡ whole
