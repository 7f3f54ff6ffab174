-- What the writer of messages leaves: how many bytes it wrote, and the whole buffer. Assumes nothing.
use Rattle.std.specs.Prelude.{List, ◌++◌, ℕ, leb, length, drop}
use Rattle.number.specs.Writing.{Written, written}
use Rattle.octets.specs.Choice.{pick}

-- the buffer with m at its front, in place of as many of its bytes
unfoldable pub at_front : List ℕ → List ℕ → List ℕ
at_front m out = m ++ drop (length m) out

-- m at the front where it fits whole, else nothing
unfoldable pub message_written : List ℕ → List ℕ → Written
message_written m out = pick (leb (length m) (length out)) (written (length m) (at_front m out)) (written 0 out)
