-- What the writer leaves: how many bytes it wrote, and the whole buffer. Assumes nothing.
use Rattle.std.specs.Prelude.{List, ◌++◌, ℕ, ◌+◌, leb, length, take, drop}
use Rattle.octets.specs.Choice.{pick}
use Rattle.stream.specs.Numbers.{decimal}

pub record Written : Type 0 where
  pub count : ℕ
  pub bytes : List ℕ

abbrev pub written : ℕ → List ℕ → Written
written count bytes = record { count = count; bytes = bytes }

-- the buffer with l from index at on, in place of as many of its bytes
unfoldable pub over : List ℕ → ℕ → List ℕ → List ℕ
over out at l = take at out ++ (l ++ drop (at + length l) out)

-- n in decimal from index at on where it fits whole, else nothing
unfoldable pub decimal_written : List ℕ → ℕ → ℕ → Written
decimal_written out at n = pick (leb (at + length (decimal n)) (length out)) (written (length (decimal n)) (over out at (decimal n))) (written 0 out)
