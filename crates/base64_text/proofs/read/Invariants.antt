-- `base64::read` meets its contract. The invariant: the whole is a text of n bytes just where the rest is one of the bytes left; it stands as far as the
-- rest does; and what is written so far, followed by the bytes of the rest, are the bytes of the whole. The measure is the number of groups
-- left, so there is at most one turn for each group: 11 turns for 32 bytes, 22 for 64. Assumes nothing.
use mathlib.Core.List.{◌++◌}
use mathlib.Core.Path.{◌≡◌}
use Prim.Native.Nat.{◌+◌, ◌-◌, ◌%◌, ◌≤◌}
use lib.ListN.{length, take, drop}
use Rattle.base64_text.specs.Base64.{is_base64, base64_bytes}
use Rattle.base64_text.specs.Places.{groups, bytes_before, standing_from, viable_length}
use Rattle.base64_text.proofs.read.Given as goal

abbrev pub invariant-loop-o : goal.invariant-loop-o
invariant-loop-o l =
    (is_base64 l.n l.text ≡ is_base64 (l.n - l.o) (drop l.i l.text))
    × (viable_length l.n l.text ≡ l.i + standing_from l.n l.i (drop l.i l.text))
    × (length l.initial.out ≡ l.n → take l.o l.out ++ base64_bytes (l.n - l.o) (drop l.i l.text) ≡ base64_bytes l.n l.text)
    × (length l.out ≡ length l.initial.out)
    × (l.i % 4 ≡ 0)
    × (l.o ≡ bytes_before l.i)
    × (l.i ≤ length l.text)

abbrev pub decreases-loop-o : goal.decreases-loop-o
decreases-loop-o l = groups (l.n - l.o)
