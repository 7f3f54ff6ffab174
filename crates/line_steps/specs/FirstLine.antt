-- What one byte of the first chunk line does, and what all lines share (paper 01, "Blocks"): the byte is gathered, and the line that is
-- whole with it is judged. In a state that no stream leads to, with a count past the limit, the line is refused as too long.
-- Assumes nothing.
use Rattle.std.specs.Prelude.{true, false, List, ℕ, ◌+◌, ◌/◌, eqb, leb, take, set, Result, Ok, Err}
use Rattle.octets.specs.Choice.{pick}
use Rattle.chunk.specs.Judging.{line_judged}
use Rattle.chunk.specs.declared.judging.Line.{Line}
use Rattle.ranges.specs.Extent.{range_in}
use Rattle.refusals.specs.Refusals.{placed}
use Rattle.refusals.specs.declared.Refusal.{Refusal}
use Rattle.stream.specs.Blocks.{is_whole_line}
use Rattle.stream.specs.Limits.{line_limit}
use Rattle.stream.specs.Range.{Range, first_byte}
use Rattle.state.specs.Configuration.{Configuration, configuration, with_chain, lined, Next, on, refuse}
use Rattle.state.specs.declared.phase.Phase.{Phase}
use Rattle.state.specs.declared.phase.Phase.TheVariants as P
use Rattle.state.specs.declared.reader.Chain.{Chain}
use Rattle.state.specs.declared.reader.Reader.{Reader}

-- a line that announces n bytes: a block, or, "size 0 ends the body", the trailer of a body of `total` bytes
abbrev pub announced : ℕ → ℕ → Phase
announced n total = pick (eqb n 0) (P.Trailer 0 total) (P.Data 0 n)

-- a line that has no end within the limit
abbrev pub too_long : Refusal
too_long = placed 6 line_limit

-- the first n bytes of the line
abbrev pub line_of : Configuration → ℕ → List ℕ
line_of d n = take n d.reader.line

-- where the answer's bytes begin, as far as the head said
abbrev pub range_now : Reader → Range
range_now r = range_in r.fixed.extent

abbrev pub first_now : Reader → ℕ
first_now r = first_byte (range_now r)

-- the chain before the first block; request #104: "If a is above 0 the first chunk line carries `;ouihash=`", and the block at a is the first
abbrev pub starting : Reader → List ℕ → Chain
starting r hash =
    pick (eqb (first_now r) 0)
    r.chain
    (record { number = record { 0 = first_now r / r.fixed.block_size }; hash = hash; body = r.chain.body })

-- the first line, where nothing is pending
unfoldable pub first_answered : Configuration → Result Line Refusal → Next
first_answered d (Err why) = refuse why 0 d
first_answered d (Ok line) =
    on (configuration (with_chain d.reader (announced line.size 0) (starting d.reader line.carried)) d.head d.block d.question)

unfoldable pub first_judged : Reader → List ℕ → Result Line Refusal
first_judged r l = line_judged r.fixed.block_size (range_now r) false true (first_now r) l

-- the n bytes so far are a whole line, or it goes on
unfoldable pub first_gathered : Configuration → ℕ → Next
first_gathered d n =
    pick (is_whole_line (line_of d n))
    (first_answered d (first_judged d.reader (line_of d n)))
    (on d)

unfoldable pub push_first_line : Configuration → ℕ → ℕ → Next
push_first_line d have x =
    pick (leb line_limit have)
    (refuse too_long 0 d)
    (first_gathered (lined d (P.FirstLine (have + 1)) (set d.reader.line have x)) (have + 1))
