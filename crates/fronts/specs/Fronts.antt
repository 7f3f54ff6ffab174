-- The reader's calls on the first part of each buffer, as long as a hold has to be at least (stream: Limits), with the rest of each put back
-- behind. Assumes nothing.
use Rattle.std.specs.Prelude.{Bool, List, ◌++◌, ℕ, take, drop}
use Rattle.ring.specs.declared.KeyRing.{KeyRing}
use Rattle.stream.specs.Limits.{head_limit, block_limit}
use Rattle.state.specs.Configuration.{Configuration, configuration}
use Rattle.calls.specs.Answer.{answer_of, end_of}
use Rattle.calls.specs.Response.{Response, response}
use Rattle.reader.specs.Feed.{feed_of}

-- the same reader with the first part of each buffer
abbrev pub first_parts : Configuration → Configuration
first_parts d = configuration d.reader (take head_limit d.head) (take block_limit d.block) (take head_limit d.question)

-- what a call on the first parts gives, with the rest of d's buffers behind them
abbrev pub backed : Configuration → Response → Response
backed d c =
    response c.word c.taken c.signature
    (configuration c.after.reader
    (c.after.head ++ drop head_limit d.head)
    (c.after.block ++ drop block_limit d.block)
    (c.after.question ++ drop head_limit d.question))

unfoldable pub feed_front : KeyRing → List ℕ → Configuration → List ℕ → Response
feed_front ring uri d piece = backed d (feed_of ring uri (first_parts d) piece)

unfoldable pub answer_front : Configuration → Bool → Response
answer_front d good = backed d (answer_of (first_parts d) good)

unfoldable pub end_front : Configuration → Response
end_front d = backed d (end_of (first_parts d))
