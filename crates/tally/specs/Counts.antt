-- What a day's events come to in plain numbers, which have no largest value, and how a tally shows them. Assumes nothing.
use Rattle.std.specs.Prelude.{List, [], ◌∷◌, ℕ, ◌+◌, min, length}
use Rattle.octets.specs.Choice.{pick}
use Rattle.sections.specs.Calls.{is_of_call}
use Rattle.sections.specs.Reading.{Event, question, message, last, Log}
use Rattle.refusals.specs.Refusals.{placed}
use Rattle.stream.specs.Events.{Question, Release, head_accepted, block, LastWord, closed, complete, refused}
use Rattle.state.specs.declared.word.Word.{Word}
use Rattle.state.specs.declared.word.Word.TheVariants as W
use Rattle.tally.specs.Counting.{largest}
use Rattle.tally.specs.declared.Tally.{Tally}

-- "blocks, bytes released, streams closed, streams finally refused"
pub record Counts : Type 0 where
  pub blocks : ℕ
  pub bytes : ℕ
  pub closed : ℕ
  pub refused : ℕ

abbrev pub counts : ℕ → ℕ → ℕ → ℕ → Counts
counts a b c d = record { blocks = a; bytes = b; closed = c; refused = d }

abbrev pub nothing : Counts
nothing = counts 0 0 0 0

abbrev pub together : Counts → Counts → Counts
together c d = counts (c.blocks + d.blocks) (c.bytes + d.bytes) (c.closed + d.closed) (c.refused + d.refused)

-- in 64 bits, each count by itself: one that would pass the largest value is that value
abbrev pub shown : Counts → Tally
shown c =
    record {
      blocks = min c.blocks largest;
      bytes = min c.bytes largest;
      closed = min c.closed largest;
      refused = min c.refused largest;
    }

-- ---- events

-- the refusals 1 and 2 "are no events"
abbrev pub refusal_counts : ℕ → Counts
refusal_counts n = pick (is_of_call n) nothing (counts 0 0 0 1)

-- what an event adds: a block is one block and its bytes; each last word is one stream, and *complete* counts as
-- closed (request #101)
unfoldable pub event_counts : Event Question Release LastWord → Counts
event_counts (question q) = nothing
event_counts (message (head_accepted status fields)) = nothing
event_counts (message (block offset bytes)) = counts 1 (length bytes) 0 0
event_counts (last (closed total)) = counts 0 0 1 0
event_counts (last (complete total)) = counts 0 0 1 0
event_counts (last (refused n at)) = refusal_counts n

-- a log's events, of one stream or of many after one another
unfoldable pub counts_of : Log Question Release LastWord → Counts
counts_of [] = nothing
counts_of (x ∷ log) = together (event_counts x.1) (counts_of log)

-- ---- words

-- what a call's word adds
unfoldable pub word_counts : Word → Counts
word_counts W.More = nothing
word_counts (W.Question n key) = nothing
word_counts (W.Head status) = nothing
word_counts (W.Block offset n) = counts 1 n 0 0
word_counts (W.Closed total) = counts 0 0 1 0
word_counts (W.Complete total) = counts 0 0 1 0
word_counts (W.Refused why) = refusal_counts why.number

unfoldable pub words_count : List Word → Counts
words_count [] = nothing
words_count (w ∷ ws) = together (word_counts w) (words_count ws)

-- the word that tells an event
unfoldable pub word_of : Event Question Release LastWord → Word
word_of (question q) = W.Question (length q.message) q.key_number
word_of (message (head_accepted status fields)) = W.Head status
word_of (message (block offset bytes)) = W.Block (record { 0 = offset }) (length bytes)
word_of (last (closed total)) = W.Closed total
word_of (last (complete total)) = W.Complete total
word_of (last (refused n at)) = W.Refused (placed n at)

unfoldable pub words_of : Log Question Release LastWord → List Word
words_of [] = []
words_of (x ∷ log) = word_of x.1 ∷ words_of log
