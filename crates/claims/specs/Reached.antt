-- RUNS THAT FINISH: what the claims say of runs that took a whole stream, or came to a last word, they do not say for want of such runs.
-- The ordinary caller, who knows nothing but what the reader returned (Ordinary), has one over each stream, however it is cut. Assumes
-- nothing.
use Rattle.std.specs.Prelude.{◌≡◌, Bool, true, List, ◌++◌, ℕ, ◌≤◌, leb, length, take, replicate}
use Rattle.ring.specs.Keys.{terms_of}
use Rattle.ring.specs.declared.KeyRing.{KeyRing}
use Rattle.sections.specs.Calls.{over, standing}
use Rattle.sections.specs.Resuming.{Resumes, events}
use Rattle.stream.specs.Limits.{ring_limit}
use Rattle.stream.specs.Stream.{plain_reading}
use Rattle.agreement.specs.Loans.{have_room}
use Rattle.agreement.specs.Plain.{told_log}
use Rattle.agreement.specs.Run.{Invocation, plain_calls}
use Rattle.exactness.specs.Shows.{Sending, stream_of, Honest, yeses_of}
use Rattle.reaching.specs.Arrival.{questions_in}
use Rattle.claims.specs.Demand2.{ComesOutWhole}
use Rattle.claims.specs.Ordinary.{ordinary_calls}
use Rattle.claims.specs.Runs.{words, taken, answers}

module _ (keys : KeyRing) (uri h b q : List ℕ) (ks : List Invocation) where
  -- AN HONEST SHOW IS REACHED.
  pub record Reached (s : Sending) : Type 0 where
    -- each piece begins at the first byte not taken
    pub resumes : Resumes (stream_of s) (plain_calls keys h b q ks) (words keys uri h b q ks)
    -- all of the stream is taken
    pub took : taken keys uri h b q ks ≡ stream_of s
    -- a yes is heard for the head, for each block and for a claimed end, and no other answer
    pub yeses : answers keys uri h b q ks ≡ replicate (yeses_of s) true
    -- and the show comes out whole
    pub whole : ComesOutWhole keys uri h b q ks s

  -- EVERY STREAM IS READ TO ITS END, with the answers that are given to its questions.
  pub record ReadToItsEnd (stream : List ℕ) (given : List Bool) : Type 0 where
    -- each piece begins at the first byte not taken, and the end is told only once nothing is left
    pub resumes : Resumes stream (plain_calls keys h b q ks) (words keys uri h b q ks)
    -- the events, with their places and with what they hand out, are all of the plain reading of the stream, the end told
    pub all_events : events (words keys uri h b q ks) ≡ told_log (plain_reading (terms_of keys uri) stream given true)
    -- each of its questions takes the next answer, if there is one, and no other answer is heard
    pub answered : answers keys uri h b q ks ≡ take (questions_in (plain_reading (terms_of keys uri) stream given true)) given
    -- with an answer for each byte, or more, there is a last word: a question is decided by a byte of its own
    pub is_over : length stream ≤ length given → standing (events (words keys uri h b q ks)) ≡ over

-- WITH BUFFERS AND A RING THAT WILL DO, for any lengths of the pieces:
module _ (keys : KeyRing) (uri h b q : List ℕ) where
  -- every honest show is reached, with a yes to each question, whatever answers would follow
  abbrev pub HonestReached : Type 0
  HonestReached =
      have_room h b q ≡ true → leb keys.count ring_limit ≡ true → (s : Sending) (lengths : List ℕ) (others : List Bool) → Honest (terms_of keys uri) s
      → Reached keys uri h b q (ordinary_calls keys uri h b q lengths (replicate (yeses_of s) true ++ others) (stream_of s)) s

  -- every stream is read to its end, with any answers
  abbrev pub CallerFinishes : Type 0
  CallerFinishes =
      have_room h b q ≡ true → leb keys.count ring_limit ≡ true → (lengths : List ℕ) (given : List Bool) (stream : List ℕ)
      → ReadToItsEnd keys uri h b q (ordinary_calls keys uri h b q lengths given stream) stream given
