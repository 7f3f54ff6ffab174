-- When a call is due, for every state value, and what its word and count are held to (paper 01, "When the reader says no").
-- Assumes nothing.
use Rattle.std.specs.Prelude.{Bool, true, false, ℕ, ◌≤◌}
use Rattle.sections.specs.Calls.{is_of_call, Request, feed, answer, end}
use Rattle.state.specs.declared.phase.Phase.{Phase}
use Rattle.state.specs.declared.phase.Phase.TheVariants as P
use Rattle.state.specs.declared.word.Word as Code
use Rattle.state.specs.declared.word.Word.TheVariants as W
use Rattle.calls.specs.Response.{is_reading}

-- a question is open
abbrev pub is_asking : Phase → Bool
is_asking (P.Head n) = false
is_asking (P.HeadAsked n) = true
is_asking (P.FirstLine n) = false
is_asking (P.Data have size) = false
is_asking (P.DataEnd have size) = false
is_asking (P.NextLine have size) = false
is_asking (P.BlockAsked size next) = true
is_asking (P.Trailer have total) = false
is_asking (P.EndAsked have total) = true
is_asking (P.Closed total) = false
is_asking (P.Complete total) = false
is_asking (P.Refused n) = false

-- the call is due: "feed or end with a question open, answer with none open, any call after a final event" is not
abbrev pub is_due : Phase → Request → Bool
is_due p (feed piece) = is_reading p
is_due p (answer good) = is_asking p
is_due p end = is_reading p

-- the head is not whole yet
abbrev pub is_in_head : Phase → Bool
is_in_head (P.Head n) = true
is_in_head (P.HeadAsked n) = false
is_in_head (P.FirstLine n) = false
is_in_head (P.Data have size) = false
is_in_head (P.DataEnd have size) = false
is_in_head (P.NextLine have size) = false
is_in_head (P.BlockAsked size next) = false
is_in_head (P.Trailer have total) = false
is_in_head (P.EndAsked have total) = false
is_in_head (P.Closed total) = false
is_in_head (P.Complete total) = false
is_in_head (P.Refused n) = false

-- the word is refusal 1 or 2
abbrev pub is_misuse : Code.Word → Bool
is_misuse W.More = false
is_misuse (W.Question n key) = false
is_misuse (W.Head status) = false
is_misuse (W.Block offset n) = false
is_misuse (W.Closed total) = false
is_misuse (W.Complete total) = false
is_misuse (W.Refused why) = is_of_call why.number

-- the word asks a question: with it goes a signature
abbrev pub is_question : Code.Word → Bool
is_question W.More = false
is_question (W.Question n key) = true
is_question (W.Head status) = false
is_question (W.Block offset n) = false
is_question (W.Closed total) = false
is_question (W.Complete total) = false
is_question (W.Refused n) = false

-- between the two, both included
pub record Between (low high n : ℕ) : Type 0 where
  pub least : low ≤ n
  pub most : n ≤ high
