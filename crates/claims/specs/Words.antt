-- A day of streams, the words that their calls return, as the day tally is given them, and what is claimed of the tally. Assumes
-- nothing.
use Rattle.std.specs.Prelude.{◌≡◌, List, [], ◌∷◌, ◌++◌, ℕ}
use Rattle.ring.specs.Keys.{terms_of}
use Rattle.ring.specs.declared.KeyRing.{KeyRing}
use Rattle.sections.specs.Reading.{Log}
use Rattle.stream.specs.Events.{Question, Release, LastWord}
use Rattle.stream.specs.Stream.{plain_reading}
use Rattle.state.specs.Configuration.{Configuration, configuration, fresh_reader}
use Rattle.state.specs.declared.word.Word.{Word}
use Rattle.tally.specs.Counting.{no_counts, tallied}
use Rattle.tally.specs.Counts.{shown, counts_of}
use Rattle.agreement.specs.Run.{Invocation, run_call}
use Rattle.claims.specs.Runs.{taken, answers, ended}

unfoldable pub words_from : KeyRing → List ℕ → Configuration → List Invocation → List Word
words_from keys uri d [] = []
words_from keys uri d (k ∷ ks) = (run_call keys uri d k).word ∷ words_from keys uri (run_call keys uri d k).after ks

-- of a list of calls from a fresh reader, as in `run`
unfoldable pub words_of_run : KeyRing → List ℕ → List ℕ → List ℕ → List ℕ → List Invocation → List Word
words_of_run keys uri h b q ks = words_from keys uri (configuration fresh_reader h b q) ks

-- ---- a day

-- one stream: its ring, the asked URI, the buffers as first lent, and the calls
pub record Sitting : Type 0 where
  pub keys : KeyRing
  pub uri : List ℕ
  pub head : List ℕ
  pub block : List ℕ
  pub question : List ℕ
  pub calls : List Invocation

-- the words of all calls of a day's streams
unfoldable pub day_words : List Sitting → List Word
day_words [] = []
day_words (s ∷ ss) = words_of_run s.keys s.uri s.head s.block s.question s.calls ++ day_words ss

-- the events of the plain readings of what these calls took
abbrev pub events_read : KeyRing → List ℕ → List ℕ → List ℕ → List ℕ → List Invocation → Log Question Release LastWord
events_read keys uri h b q ks = plain_reading (terms_of keys uri) (taken keys uri h b q ks) (answers keys uri h b q ks) (ended keys uri h b q ks)

unfoldable pub day_events : List Sitting → Log Question Release LastWord
day_events [] = []
day_events (s ∷ ss) = events_read s.keys s.uri s.head s.block s.question s.calls ++ day_events ss

-- THE DAY TALLY. A tally that is zero at first, and is given the word of each call of any lists of calls, one stream after the other, shows
-- what the events of their plain readings come to, each count cut to its largest value.
abbrev pub TalliesTheDay : List Sitting → Type 0
TalliesTheDay ss = tallied no_counts (day_words ss) ≡ shown (counts_of (day_events ss))
