-- What a call of the reader gives, and what stands before every call (paper 01, "How a sitting goes" and "When the reader says
-- no"). Assumes nothing.
use Rattle.std.specs.Prelude.{Bool, true, false, ◌&&◌, List, ℕ, leb, length}
use Rattle.refusals.specs.Refusals.{plain}
use Rattle.stream.specs.Limits.{head_limit, block_limit}
use Rattle.state.specs.Configuration.{Configuration, configuration, reader_at, Next, on, stop, no_signature}
use Rattle.state.specs.declared.phase.Phase.{Phase}
use Rattle.state.specs.declared.phase.Phase.TheVariants as P
use Rattle.state.specs.declared.reader.Reader.{Reader}
use Rattle.state.specs.declared.word.Word.{Word}
use Rattle.state.specs.declared.word.Word.TheVariants as W
use Rattle.calls.specs.declared.outcome.Outcome.{Outcome}

-- the word, how many bytes were taken, the signature that a question is about, and the reader with its buffers after the call
pub record Response : Type 0 where
  pub word : Word
  pub taken : ℕ
  pub signature : List ℕ
  pub after : Configuration

abbrev pub response : Word → ℕ → List ℕ → Configuration → Response
response w n signature d = record { word = w; taken = n; signature = signature; after = d }

-- a word that is no question
abbrev pub telling : Word → ℕ → Configuration → Response
telling w n d = response w n no_signature d

-- what the code's answer says, with the buffers as it leaves them
abbrev pub made : Outcome → List ℕ → List ℕ → List ℕ → Response
made o h b q = response o.word o.taken o.signature (configuration o.reader h b q)

-- refusals 1 and 2: "nothing changed, 0 taken"
abbrev pub unchanged : ℕ → Configuration → Response
unchanged n d = telling (W.Refused (plain n)) 0 d

-- what a step leads to, as the end of a call that has taken so many bytes
abbrev pub given : ℕ → Next → Response
given taken (on d) = telling W.More taken d
given taken (stop w signature d) = response w taken signature d

-- "head hold (at least 8,192 bytes), block hold (at least 65,536), question hold (at least 8,192)"; request #108: "head and question holds to
-- 32,768"
unfoldable pub are_roomy : ℕ → ℕ → ℕ → Bool
are_roomy head block question = leb head_limit head && (leb block_limit block && leb head_limit question)

abbrev pub fits : Configuration → Bool
fits d = are_roomy (length d.head) (length d.block) (length d.question)

-- a feed or an end is due: no question is open, and no final event has come
abbrev pub is_reading : Phase → Bool
is_reading (P.Head n) = true
is_reading (P.HeadAsked n) = false
is_reading (P.FirstLine n) = true
is_reading (P.Data have size) = true
is_reading (P.DataEnd have size) = true
is_reading (P.NextLine have size) = true
is_reading (P.BlockAsked size next) = false
is_reading (P.Trailer have total) = true
is_reading (P.EndAsked have total) = false
is_reading (P.Closed total) = false
is_reading (P.Complete total) = false
is_reading (P.Refused n) = false

-- a block is handed out "until the next feed or end that isn't refused by 1 or 2"
abbrev pub taking_back : Reader → Reader
taking_back r = reader_at r r.phase r.fixed r.chain 0

abbrev pub recalled : Configuration → Configuration
recalled d = configuration (taking_back d.reader) d.head d.block d.question
