-- What a list of calls means, told by the plain reading alone (paper 01, "A list of calls is read so").
-- No reader and no state stand here: only what was taken, answered and told so far. Assumes nothing.
use Rattle.std.specs.Prelude.{Bool, true, false, ◌||◌, List, [], ◌∷◌, ◌++◌, ℕ, eqb, length, drop}
use Rattle.sections.specs.Reading.{Event, question, message, last, Log, Rules, Cut, uncut, cut_at, cut, reading}

-- ---- calls and their words

-- What a call asks for: to take a piece of the stream, to answer an open question, or to know that no bytes will follow.
pub data Request : Type 0 where
  feed : List ℕ → Request
  answer : Bool → Request
  end : Request

-- A call: whether what it is lent will do, and what it asks for.
pub data Call : Type 0 where
  call : Bool → Request → Call

-- "Refusals 1 and 2 answer a call and are no events": the number is one of these.
abbrev pub is_of_call : ℕ → Bool
is_of_call n = eqb n 1 || eqb n 2

-- A call's word: no event yet; an event; or the call is refused, with the number 1 or 2 of paper 01's table.
pub data Reply (Q E L : Type 0) : Type 0 where
  more : Reply Q E L
  event : Event Q E L → Reply Q E L
  misused : ℕ → Reply Q E L

-- What a call returns: its word, and the number of bytes that it took.
abbrev pub Out : Type 0 → Type 0 → Type 0 → Type 0
Out Q E L = Reply Q E L × ℕ

-- ---- what came so far

-- The bytes taken, the answers given in their order, and whether the end was told.
pub data History : Type 0 where
  history : List ℕ → List Bool → Bool → History

-- At first nothing is taken, answered or told.
abbrev pub fresh : History
fresh = history [] [] false

abbrev pub with_bytes : History → List ℕ → History
with_bytes (history taken answers told) bs = history (taken ++ bs) answers told

abbrev pub with_answer : History → Bool → History
with_answer (history taken answers told) a = history taken (answers ++ a ∷ []) told

abbrev pub with_end : History → History
with_end (history taken answers told) = history taken answers true

-- ---- where a reading stands

pub data Standing : Type 0 where
  going asking over : Standing

module _ {Q E L : Type 0} where
  abbrev pub standing_at : Event Q E L → Standing
  standing_at (question q) = asking
  standing_at (message e) = going
  standing_at (last l) = over

  -- A question is open while the reading ends in one; after a last word it is over.
  unfoldable pub standing : Log Q E L → Standing
  standing [] = going
  standing (x ∷ []) = standing_at x.1
  standing (x ∷ y ∷ log) = standing (y ∷ log)

  -- The events by which a reading has gained on an earlier one.
  abbrev pub gained : Log Q E L → Log Q E L → Log Q E L
  gained before after = drop (length before) after

  abbrev pub nonempty : Log Q E L → Bool
  nonempty [] = false
  nonempty (x ∷ log) = true

  -- The event gained is the call's word; with none the word is "more".
  abbrev pub word : Log Q E L → Reply Q E L
  word [] = more
  word (x ∷ log) = event x.1

  -- A refused call takes no byte and changes nothing.
  abbrev pub refuses : ℕ → History → Out Q E L × History
  refuses number h = ((misused number, 0), h)

-- What a feed takes of its piece, by the cut of it: the beginning cut off, or else all.
abbrev pub part : List ℕ → Cut → List ℕ
part piece uncut = piece
part piece (cut_at f r) = f

-- ---- calls, read so

module _ {C Q E L : Type 0} (R : Rules C Q E L) (start : C) where
  -- The plain reading of what came so far.
  abbrev pub read : History → Log Q E L
  read (history taken answers told) = reading R start taken answers told

  -- A call that takes n bytes and leads from one history to the next.
  abbrev pub leads : History → ℕ → History → Out Q E L × History
  leads h n next = ((word (gained (read h) (read next)), n), next)

  -- With the bytes t more, the reading gains an event.
  abbrev pub gains : History → List ℕ → Bool
  gains h t = nonempty (gained (read h) (read (with_bytes h t)))

  -- A feed takes the shortest beginning of its piece by which the reading gains an event; with none, all of it.
  abbrev pub takes : History → List ℕ → List ℕ
  takes h piece = part piece (cut (gains h) piece)

  -- A call whose loan will do, by where the reading stands. Refusal 1: feed or end with a question open, answer
  -- with none open, any call after a last word. Otherwise bytes, an answer or the end are added.
  unfoldable pub read_request : Standing → History → Request → Out Q E L × History
  read_request going h (feed piece) = leads h (length (takes h piece)) (with_bytes h (takes h piece))
  read_request going h (answer a) = refuses 1 h
  read_request going h end = leads h 0 (with_end h)
  read_request asking h (feed piece) = refuses 1 h
  read_request asking h (answer a) = leads h 0 (with_answer h a)
  read_request asking h end = refuses 1 h
  read_request over h r = refuses 1 h

  -- Refusal 2, of a loan that will not do, is tested before refusal 1, and both before all else.
  unfoldable pub read_call : History → Call → Out Q E L × History
  read_call h (call false r) = refuses 2 h
  read_call h (call true r) = read_request (standing (read h)) h r

  -- One call after the other, each from the history that the one before left.
  unfoldable pub read_from : History → List Call → List (Out Q E L)
  read_from h [] = []
  read_from h (k ∷ ks) = (read_call h k).0 ∷ read_from (read_call h k).1 ks

  -- A list of calls, from the start: the word and the count of each.
  unfoldable pub read_calls : List Call → List (Out Q E L)
  read_calls ks = read_from fresh ks
