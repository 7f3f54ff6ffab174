-- An answer, and the end (paper 01, "How a sitting goes" and "When the reader says no"). Assumes nothing.
use Rattle.std.specs.Prelude.{Bool, ℕ, ◌+◌, min}
use Rattle.blocks.specs.Place.{largest}
use Rattle.blocks.specs.declared.offsets.BlockNumber.{BlockNumber}
use Rattle.octets.specs.Choice.{pick}
use Rattle.refusals.specs.Refusals.{plain}
use Rattle.stream.specs.Limits.{block_limit}
use Rattle.state.specs.Configuration.{Configuration, configuration, reader_at, moved, pending, refuse}
use Rattle.state.specs.declared.phase.Phase.{Phase}
use Rattle.state.specs.declared.phase.Phase.TheVariants as P
use Rattle.state.specs.declared.reader.Chain.{Chain}
use Rattle.state.specs.declared.reader.Fixed.{Fixed}
use Rattle.state.specs.declared.reader.Reader.{Reader}
use Rattle.state.specs.declared.word.Word.TheVariants as W
use Rattle.line_steps.specs.FirstLine.{announced}
use Rattle.line_steps.specs.NextLine.{released_with, offset_now}
use Rattle.calls.specs.Response.{Response, telling, unchanged, given, fits, is_reading, recalled}

-- ---- the head's question

-- a head of n bytes is accepted, so that its signed values are handed out
abbrev pub accepted_fixed : Fixed → ℕ → Fixed
accepted_fixed f n =
    record { accepted = n; status = f.status; block_size = f.block_size; extent = f.extent; key = f.key; id = f.id; id_length = f.id_length }

-- and the first chunk line follows
abbrev pub accepting : Reader → ℕ → Reader
accepting r n = reader_at r (P.FirstLine 0) (accepted_fixed r.fixed n) r.chain r.released

-- "A yes gives *head accepted*", "a no gives refusal 10"; nothing is pending
unfoldable pub head_answer : ℕ → Configuration → Bool → Response
head_answer n d good =
    pick good
    (telling (W.Head d.reader.fixed.status) 0 (configuration (accepting d.reader n) d.head d.block d.question))
    (given 0 (refuse (plain 10) 0 d))

-- ---- a block's question

-- the number of the block after; no stream has as many blocks as the largest number
unfoldable pub following : BlockNumber → BlockNumber
following i = record { 0 = min (i.0 + 1) largest }

-- the chain once its block is released
abbrev pub followed : Chain → Chain
followed c = record { number = following c.number; hash = c.hash; body = c.body }

-- the block of `size` bytes is handed out, and what the line has announced follows
unfoldable pub releasing : Reader → ℕ → ℕ → Reader
releasing r size next = reader_at r (announced next (released_with r size)) r.fixed (followed r.chain) size

-- "N from 1 to 65,536": only a state that no stream leads to has a larger size, and it is clipped
abbrev pub block_length : ℕ → ℕ
block_length size = min size block_limit

-- a yes gives "*block* (offset, length)", a no refusal 10, with the block pending
unfoldable pub block_answer : ℕ → ℕ → Configuration → Bool → Response
block_answer size next d good =
    pick good
    (telling (W.Block (offset_now d.reader) (block_length size)) 0
    (configuration (releasing d.reader (block_length size) next) d.head d.block d.question))
    (given 0 (refuse (plain 10) size d))

-- ---- the question about the end

-- request #101: "A yes gives a new last word, *complete*, with the total"; a no refusal 10, with the trailer of `have` bytes pending
unfoldable pub end_answer : ℕ → ℕ → Configuration → Bool → Response
end_answer have total d good =
    pick good (telling (W.Complete total) 0 (moved d (P.Complete total))) (given 0 (refuse (plain 10) have d))

-- ---- the calls

unfoldable pub answer_at : Phase → Configuration → Bool → Response
answer_at (P.Head n) d good = unchanged 1 d
answer_at (P.HeadAsked n) d good = head_answer n d good
answer_at (P.FirstLine n) d good = unchanged 1 d
answer_at (P.Data have size) d good = unchanged 1 d
answer_at (P.DataEnd have size) d good = unchanged 1 d
answer_at (P.NextLine have size) d good = unchanged 1 d
answer_at (P.BlockAsked size next) d good = block_answer size next d good
answer_at (P.Trailer have total) d good = unchanged 1 d
answer_at (P.EndAsked have total) d good = end_answer have total d good
answer_at (P.Closed total) d good = unchanged 1 d
answer_at (P.Complete total) d good = unchanged 1 d
answer_at (P.Refused n) d good = unchanged 1 d

-- "2 is tested before 1"; 1 is an "answer with none open"
unfoldable pub answer_of : Configuration → Bool → Response
answer_of d good = pick (fits d) (answer_at d.reader.phase d good) (unchanged 2 d)

-- 1 is an end "with a question open" or "after a final event", 11 an "end in an unfinished stream"
unfoldable pub end_of : Configuration → Response
end_of d =
    pick (fits d)
    (pick (is_reading d.reader.phase) (given 0 (refuse (plain 11) (pending d.reader.phase) (recalled d))) (unchanged 1 d))
    (unchanged 2 d)
