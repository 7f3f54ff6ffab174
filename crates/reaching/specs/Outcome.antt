-- What the ordinary caller is to get of an honest show, or of an honest part of one (request #104). Assumes nothing.
use Rattle.std.specs.Prelude.{◌≡◌, Bool, true, List, [], ◌∷◌, ◌++◌, ℕ, length, replicate}
use Rattle.sections.specs.Reading.{last, Log}
use Rattle.sections.specs.Calls.{Call, Out, over, standing}
use Rattle.sections.specs.Machine.{run_calls}
use Rattle.sections.specs.Resuming.{Resumes, events, bytes_taken, answers_heard}
use Rattle.stream.specs.Events.{Question, Release, LastWord}
use Rattle.stream.specs.Stream.{head, rules}
use Rattle.stream.specs.Terms.{Terms}
use Rattle.exactness.specs.ShowEvents.{good_word, show_events}
use Rattle.exactness.specs.Shows.{Sending, body_of, stream_of, claims_end, yeses_of}
use Rattle.reaching.specs.Driver.{calls_over}

module _ (terms : Terms) where
  -- the caller's calls, for any lengths of the pieces, with a yes for the head, for each block and for a claimed end, and any answers
  -- more; and what they return
  abbrev pub show_calls : List ℕ → List Bool → Sending → List Call
  show_calls lengths others s = calls_over (rules terms) head lengths (replicate (yeses_of s) true ++ others) (stream_of s)

  abbrev pub show_outs : List ℕ → List Bool → Sending → List (Out Question Release LastWord)
  show_outs lengths others s = run_calls (rules terms) head (show_calls lengths others s)

  pub record ComesOut (s : Sending) (ks : List Call) (os : List (Out Question Release LastWord)) : Type 0 where
    -- each piece begins at the first byte not taken
    pub resumes : Resumes (stream_of s) ks os
    -- all of the stream is taken
    pub took : bytes_taken ks os ≡ stream_of s
    -- a yes is heard for the head, for each block and for a claimed end, and no other answer
    pub yeses : answers_heard ks os ≡ replicate (yeses_of s) true
    -- the events, with their places, are those computed from the show
    pub all_events : events os ≡ show_events terms.ring s
    -- the last of them, at the place of all bytes, is *complete* where an end is claimed, else *closed*, with the length of the body; it is
    -- a last word, and the run is over
    pub before_last : Log Question Release LastWord
    pub then_last : events os ≡ before_last ++ (length (stream_of s), last (good_word (claims_end s) (length (body_of s.chunks)))) ∷ []
    pub is_over : standing (events os) ≡ over
