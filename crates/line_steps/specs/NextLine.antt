-- What one byte of the line after a block does, which carries the block's signature (paper 01, "Blocks"): the byte is gathered, and the
-- line that is whole with it is judged; a good one asks about the block. Assumes nothing.
use Rattle.std.specs.Prelude.{true, List, [], ℕ, ◌+◌, ◌-◌, min, eqb, leb, take, set, Result, Ok, Err}
use Rattle.octets.specs.Choice.{pick}
use Rattle.chunk.specs.Judging.{line_judged}
use Rattle.blocks.specs.Place.{offset_at, largest}
use Rattle.blocks.specs.Writing.{message_written}
use Rattle.chunk.specs.declared.judging.Line.{Line}
use Rattle.refusals.specs.declared.Refusal.{Refusal}
use Rattle.blocks.specs.declared.offsets.ByteOffset.{ByteOffset}
use Rattle.number.specs.Writing.{Written}
use Rattle.sha256.specs.Midstate.{added}
use Rattle.sha256.specs.declared.Midstate.{Midstate}
use Rattle.stream.specs.Blocks.{is_whole_line, chained, block_message}
use Rattle.stream.specs.Limits.{line_limit}
use Rattle.state.specs.Configuration.{Configuration, configuration, with_hash, lined, Next, on, stop, refuse}
use Rattle.state.specs.declared.phase.Phase.TheVariants as P
use Rattle.state.specs.declared.reader.Reader.{Reader}
use Rattle.state.specs.declared.word.Word.TheVariants as W
use Rattle.line_steps.specs.FirstLine.{too_long, line_of, range_now, first_now}

-- where the block under way starts
abbrev pub offset_now : Reader → ByteOffset
offset_now r = offset_at r.chain.number r.fixed.block_size

-- how many bytes the body has with it; no stream's body comes near the largest number
unfoldable pub body_with : Reader → ℕ → ℕ
body_with r size = min ((offset_now r).0 + size) largest

-- and how many of them this answer carries
unfoldable pub released_with : Reader → ℕ → ℕ
released_with r size = body_with r size - first_now r

unfoldable pub next_judged : Reader → ℕ → List ℕ → Result Line Refusal
next_judged r size l = line_judged r.fixed.block_size (range_now r) true (eqb size r.fixed.block_size) (body_with r size) l

-- the hash of the block, the first `size` bytes of the block buffer
abbrev pub hash_now : Configuration → ℕ → List ℕ
hash_now d size = chained (pick (eqb d.reader.chain.number.0 0) [] d.reader.chain.hash) (take size d.block)

-- the body with the block, for its SHA-256
abbrev pub body_now : Configuration → ℕ → Midstate
body_now d size = added d.reader.chain.body (take size d.block)

-- the question about the block: its message is written at the front of the question buffer
unfoldable pub message_now : Configuration → ℕ → Written
message_now d size =
    message_written
    (block_message (take d.reader.fixed.id_length d.reader.fixed.id) (offset_now d.reader).0 (hash_now d size))
    d.question

unfoldable pub asked : Configuration → ℕ → ℕ → List ℕ → Next
asked d size next signature =
    stop (W.Question (message_now d size).count d.reader.fixed.key) signature
    (configuration (with_hash d.reader (P.BlockAsked size next) (hash_now d size) (body_now d size)) d.head d.block (message_now d size).bytes)

unfoldable pub next_answered : Configuration → ℕ → Result Line Refusal → Next
next_answered d size (Err why) = refuse why size d
next_answered d size (Ok line) = asked d size line.size line.carried

unfoldable pub next_gathered : Configuration → ℕ → ℕ → Next
next_gathered d n size =
    pick (is_whole_line (line_of d n))
    (next_answered d size (next_judged d.reader size (line_of d n)))
    (on d)

unfoldable pub push_next_line : Configuration → ℕ → ℕ → ℕ → Next
push_next_line d have size x =
    pick (leb line_limit have)
    (refuse too_long size d)
    (next_gathered (lined d (P.NextLine (have + 1) size) (set d.reader.line have x)) (have + 1) size)
