-- The plain reading of a stream: which events it gives, and at which byte each is decided (paper 01, "The plain reading").
-- A stream is a row of sections. What a section is and what it says is left open here: a protocol fills that in by its `Rules`.
-- Nothing here knows how the bytes arrive or who gathers them. Assumes nothing.
use Rattle.std.specs.Prelude.{Bool, true, false, List, [], ◌∷◌, ℕ, zero, suc, ◌+◌, length}

-- ---- events

-- A question waits for an answer; after a last word nothing follows; any other event is a message.
-- What each kind carries is the protocol's: Q for questions, E for messages, L for last words.
pub data Event (Q E L : Type 0) : Type 0 where
  question : Q → Event Q E L
  message : E → Event Q E L
  last : L → Event Q E L

-- Events in their order, each with its place: the number of bytes up to and with the one that decides it.
abbrev pub Log : Type 0 → Type 0 → Type 0 → Type 0
Log Q E L = List (ℕ × Event Q E L)

-- ---- the rules of a protocol

-- What a yes to a question gives: a message, and reading goes on in a context; or a last word, where the last section asks too (request
-- #101).
pub data Grant (C E L : Type 0) : Type 0 where
  granted : E → C → Grant C E L
  final : L → Grant C E L

-- What a whole section says: nothing, go on; a message that needs no answer, go on; a question, with what a yes
-- gives; or a last word. A context is all that the sections before tell about the section to come. (Paper 01 releases nothing without
-- an answer, so that none of its sections says `tell`: it is there for a protocol that has messages of its own.)
pub data Verdict (C Q E L : Type 0) : Type 0 where
  go : C → Verdict C Q E L
  tell : E → C → Verdict C Q E L
  ask : Q → Grant C E L → Verdict C Q E L
  stop : L → Verdict C Q E L

-- `whole c bs`: in the context c the section has its end, or its length limit, with the bytes bs.
-- `judge c bs`: what the whole section bs says. `denied` is the last word after a no (refusal 10 of paper 01's table),
-- `unfinished` the one for a stream whose end is told before it is complete (refusal 11).
pub record Rules (C Q E L : Type 0) : Type 0 where
  pub whole : C → List ℕ → Bool
  pub judge : C → List ℕ → Verdict C Q E L
  pub denied : L
  pub unfinished : L

-- ---- the shortest beginning

-- Nothing is cut off, or a beginning is, with what comes after it.
pub data Cut : Type 0 where
  uncut : Cut
  cut_at : List ℕ → List ℕ → Cut

-- a byte in front of what is cut off
abbrev pub push : ℕ → Cut → Cut
push b uncut = uncut
push b (cut_at f r) = cut_at (b ∷ f) r

-- The shortest beginning, of one byte or more, for which the test p holds.
unfoldable pub cut : (List ℕ → Bool) → List ℕ → Cut
cut p [] = uncut
cut p (b ∷ bs) = elim (p (b ∷ [])) [ true ↦ cut_at (b ∷ []) bs | false ↦ push b (cut (λ t. p (b ∷ t)) bs) ]

-- ---- the reading

-- A yes to a question at the place `at`; `next` reads on.
abbrev pub accepted : {C Q E L : Type 0} → Grant C E L → ℕ → (C → Log Q E L) → Log Q E L
accepted (granted e c) at next = (at, message e) ∷ next c
accepted (final l) at next = (at, last l) ∷ []

module _ {C Q E L : Type 0} (R : Rules C Q E L) where
  -- A question takes the next answer, if there is one, at its own place.
  abbrev pub answered : Grant C E L → ℕ → List Bool → (C → List Bool → Log Q E L) → Log Q E L
  answered y at [] next = []
  answered y at (true ∷ answers) next = accepted y at (λ c. next c answers)
  answered y at (false ∷ answers) next = (at, last R.denied) ∷ []

  -- A section whose last byte is at the place `at` was judged; `next` reads the rest.
  abbrev pub judged : Verdict C Q E L → ℕ → List Bool → (C → List Bool → Log Q E L) → Log Q E L
  judged (go c) at answers next = next c answers
  judged (tell e c) at answers next = (at, message e) ∷ next c answers
  judged (ask q y) at answers next = (at, question q) ∷ answered y at answers next
  judged (stop l) at answers next = (at, last l) ∷ []

  -- The bytes ran out, at the place `at`: that is an event only where the end was told.
  abbrev pub ran_out : ℕ → Bool → Log Q E L
  ran_out at true = (at, last R.unfinished) ∷ []
  ran_out at false = []

  -- One section of the bytes bs, which begin after the place `at`: without a whole one the bytes ran out; the shortest
  -- whole one is judged at its last byte, and `next` reads what comes after it.
  abbrev pub one_section : C → ℕ → List ℕ → List Bool → Bool → Cut → (C → ℕ → List ℕ → List Bool → Log Q E L) → Log Q E L
  one_section c at bs answers told uncut next = ran_out (at + length bs) told
  one_section c at bs answers told (cut_at f r) next =
      judged (R.judge c f) (at + length f) answers (λ c' answers'. next c' (at + length f) r answers')

  -- At most k sections.
  unfoldable pub sections : ℕ → C → ℕ → List ℕ → List Bool → Bool → Log Q E L
  sections zero c at bs answers told = ran_out (at + length bs) told
  sections (suc k) c at bs answers told =
      one_section c at bs answers told (cut (R.whole c) bs) (λ c' at' r answers'. sections k c' at' r answers' told)

  -- The reading of bs after the place `at`. A section has one byte or more, so there are no more sections than bytes.
  unfoldable pub reading_at : C → ℕ → List ℕ → List Bool → Bool → Log Q E L
  reading_at c at bs answers told = sections (length bs) c at bs answers told

  -- The plain reading: of a stream's bytes, the answers in their order, and whether the end was told.
  unfoldable pub reading : C → List ℕ → List Bool → Bool → Log Q E L
  reading start bs answers told = reading_at start 0 bs answers told
