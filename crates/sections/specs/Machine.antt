-- The reader as a machine that is given one byte at a time: what it keeps, and what each call does with it.
-- It shares a protocol's rules with the plain reading, and keeps no more of the past than its state. Assumes nothing.
use Rattle.std.specs.Prelude.{Bool, true, false, List, [], ◌∷◌, ◌++◌, ℕ, suc}
use Rattle.sections.specs.Reading.{Event, question, message, last, Grant, granted, final, Verdict, go, tell, ask, stop, Rules}
use Rattle.sections.specs.Calls.{Request, feed, answer, end, Call, call, more, event, misused, Out}

-- What is kept between calls: in a section, its context and the bytes gathered of it; at an open question, what
-- a yes gives; after a last word, nothing.
pub data State (C E L : Type 0) : Type 0 where
  running : C → List ℕ → State C E L
  asked : Grant C E L → State C E L
  finished : State C E L

-- What a byte does: reading goes on, in a context with so many bytes gathered; or it decides an event.
pub data Step (C Q E L : Type 0) : Type 0 where
  on : C → List ℕ → Step C Q E L
  decides : Event Q E L → State C E L → Step C Q E L

-- What a call does: what it returns, and the next state.
abbrev pub Turn : Type 0 → Type 0 → Type 0 → Type 0 → Type 0
Turn C Q E L = Out Q E L × State C E L

module _ {C Q E L : Type 0} where
  -- a whole section's verdict
  abbrev pub ruling : Verdict C Q E L → Step C Q E L
  ruling (go c) = on c []
  ruling (tell e c) = decides (message e) (running c [])
  ruling (ask q y) = decides (question q) (asked y)
  ruling (stop l) = decides (last l) finished

  -- one byte more than the rest of the piece took
  abbrev pub one_more : Turn C Q E L → Turn C Q E L
  one_more t = ((t.0.0, suc t.0.1), t.1)

  -- After a byte's step: the rest of the piece is read on, or left where the byte decided an event.
  abbrev pub follow : Step C Q E L → (C → List ℕ → Turn C Q E L) → Turn C Q E L
  follow (on c g) rest = one_more (rest c g)
  follow (decides e s) rest = ((event e, 1), s)

  -- a yes to an open question
  abbrev pub replied : Grant C E L → Turn C Q E L
  replied (granted e c) = ((event (message e), 0), running c [])
  replied (final l) = ((event (last l), 0), finished)

  -- a refused call
  abbrev pub declined : ℕ → State C E L → Turn C Q E L
  declined number s = ((misused number, 0), s)

module _ {C Q E L : Type 0} (R : Rules C Q E L) where
  -- The bytes g are gathered: a section that is whole with them is judged.
  abbrev pub gathered : Bool → C → List ℕ → Step C Q E L
  gathered true c g = ruling (R.judge c g)
  gathered false c g = on c g

  -- One byte more.
  unfoldable pub step : C → List ℕ → ℕ → Step C Q E L
  step c g b = gathered (R.whole c (g ++ b ∷ [])) c (g ++ b ∷ [])

  -- Byte by byte, to the first event or the piece's end.
  unfoldable pub fed : C → List ℕ → List ℕ → Turn C Q E L
  fed c g [] = ((more, 0), running c g)
  fed c g (b ∷ bs) = follow (step c g b) (λ c' g'. fed c' g' bs)

  -- A call whose loan will do.
  unfoldable pub respond : State C E L → Request → Turn C Q E L
  respond (running c g) (feed piece) = fed c g piece
  respond (running c g) (answer a) = declined 1 (running c g)
  respond (running c g) end = ((event (last R.unfinished), 0), finished)
  respond (asked y) (feed piece) = declined 1 (asked y)
  respond (asked y) (answer true) = replied y
  respond (asked y) (answer false) = ((event (last R.denied), 0), finished)
  respond (asked y) end = declined 1 (asked y)
  respond finished r = declined 1 finished

  -- A call: refusal 2 before all else.
  unfoldable pub turn : State C E L → Call → Turn C Q E L
  turn s (call false r) = declined 2 s
  turn s (call true r) = respond s r

  -- One call after the other, each from the state that the one before left.
  unfoldable pub run_from : State C E L → List Call → List (Out Q E L)
  run_from s [] = []
  run_from s (k ∷ ks) = (turn s k).0 ∷ run_from (turn s k).1 ks

  -- A list of calls, from the start: the word and the count that each returns.
  unfoldable pub run_calls : C → List Call → List (Out Q E L)
  run_calls start ks = run_from (running start []) ks
