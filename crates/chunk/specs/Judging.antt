-- A chunk line judged, as the code answers (paper 01, "Blocks"). Assumes nothing.
use Rattle.std.specs.Prelude.{Bool, List, ℕ, zero, suc, replicate, Result, Ok, Err}
use Rattle.octets.specs.Choice.{pick}
use Rattle.refusals.specs.Refusals.{refusal_of}
use Rattle.refusals.specs.declared.Refusal.{Refusal}
use Rattle.stream.specs.Blocks.{carries_signature, carries_hash, chunk_size, line_signature, line_hash, line_fault}
use Rattle.stream.specs.Places.{line_place}
use Rattle.stream.specs.Range.{Range}
use Rattle.chunk.specs.declared.judging.Line.{Line}

-- what stands for 64 bytes where a line carries none
abbrev pub zeros : List ℕ
zeros = replicate 64 0

-- the signature, or the hash, that a line carries
abbrev pub carried_by : List ℕ → List ℕ
carried_by l = pick (carries_signature l) (line_signature l) (pick (carries_hash l) (line_hash l) zeros)

abbrev pub good_line : ℕ → List ℕ → Line
good_line size carried = record { size = size; carried = carried }

-- with the place of the line's text, where the number has one
abbrev pub refused_line : ℕ → List ℕ → Result Line Refusal
refused_line n l = Err (refusal_of n (line_place l))

-- by the number of the first rule that is broken, 0 where all hold
abbrev pub unless_fault : ℕ → List ℕ → Line → Result Line Refusal
unless_fault zero l line = Ok line
unless_fault (suc n) l line = refused_line (suc n) l

-- N is the block size, and r the answer's range; a signature is due or not; the block before is full or not; the body so far has `sofar` bytes
unfoldable pub line_judged : ℕ → Range → Bool → Bool → ℕ → List ℕ → Result Line Refusal
line_judged N r due full sofar l = unless_fault (line_fault N r due full sofar l) l (good_line (chunk_size l) (carried_by l))
