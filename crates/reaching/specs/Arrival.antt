-- What the ordinary caller comes to over any stream of any protocol, read off its calls, what they returned, and the plain reading;
-- and what it means that a reading closes at the stream's end. Assumes nothing.
use Rattle.std.specs.Prelude.{◌≡◌, Bool, true, List, [], ◌∷◌, ℕ, suc, ◌≤◌, length, take}
use Rattle.sections.specs.Reading.{question, message, last, Log, Rules, reading}
use Rattle.sections.specs.Calls.{Call, Out, over, standing}
use Rattle.sections.specs.Resuming.{Resumes, events, answers_heard}

-- ---- every stream

-- how many questions a reading asks
unfoldable pub questions_in : {Q E L : Type 0} → Log Q E L → ℕ
questions_in [] = 0
questions_in ((at, question q) ∷ log) = suc (questions_in log)
questions_in ((at, message e) ∷ log) = questions_in log
questions_in ((at, last l) ∷ log) = questions_in log

-- The calls ks, which returned os, over a stream S with a list of answers.
pub record Finishes {C Q E L : Type 0} (R : Rules C Q E L) (start : C) (S : List ℕ) (answers : List Bool) (ks : List Call) (os : List (Out Q E L)) : Type 0 where
  -- each piece begins at the first byte not taken, and the end is told only once nothing is left
  pub resumes : Resumes S ks os
  -- the events are all of the plain reading of S, with these answers and the end told
  pub all_events : events os ≡ reading R start S answers true
  -- each of its questions takes the next answer, if there is one, and no other answer is heard
  pub answered : answers_heard ks os ≡ take (questions_in (reading R start S answers true)) answers
  -- a question is decided by a byte of its own: with an answer for each byte, or more, there is a last word
  pub is_over : length S ≤ length answers → standing (events os) ≡ over

-- ---- a stream that closes at its end

-- A log with so many questions, and with one last word, as its last event, at the place `end`.
pub data EndsAt {Q E L : Type 0} (end : ℕ) : ℕ → Log Q E L → Type 0 where
  closes : {l : L} → EndsAt end 0 ((end, last l) ∷ [])
  tells : {n at : ℕ} {e : E} {log : Log Q E L} → EndsAt end n log → EndsAt end n ((at, message e) ∷ log)
  asks : {n at : ℕ} {q : Q} {log : Log Q E L} → EndsAt end n log → EndsAt end (suc n) ((at, question q) ∷ log)
