-- Texts written one after another into a buffer. Assumes nothing.
use Rattle.std.specs.Prelude.{List, ℕ, ◌+◌, ◌-◌, min, length}
use Rattle.std.proofs.Math.Seq.{paste}

-- where the next text goes, and the whole buffer
pub record Placed : Type 0 where
  pub next : ℕ
  pub bytes : List ℕ

abbrev pub placed : ℕ → List ℕ → Placed
placed next bytes = record { next = next; bytes = bytes }

-- how many bytes of l go into the buffer from place at on: as many as there are and as there is room for
abbrev pub room : List ℕ → ℕ → List ℕ → ℕ
room out at l = min (length l) (length out - at)

-- those bytes in place of as many of the buffer's
unfoldable pub wrote : List ℕ → ℕ → List ℕ → Placed
wrote out at l = placed (at + room out at l) (paste out at l (room out at l))
