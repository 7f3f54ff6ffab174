-- "Head and trailer limit to 32,768" (request #108): without its end a head, or a trailer, is whole at so many bytes, and not before. Assumes
-- nothing.
use mathlib.Core.Bool.{false}
use mathlib.Core.List.{List}
use mathlib.Core.Path.{◌≡◌}
use Prim.Native.Nat.{ℕ}
use lib.Dec.{leb}
use lib.ListN.{length}
use Rattle.stream.specs.Head.{ends_head, is_whole_head}
use Rattle.stream.specs.Trailer.{ends_trailer, is_whole_trailer}

pub whole_at_32768
    : (l : List ℕ) → (ends_head l ≡ false → is_whole_head l ≡ leb 32_768 (length l)) × (ends_trailer l ≡ false → is_whole_trailer l ≡ leb 32_768 (length l))
unfolding is_whole_head is_whole_trailer
whole_at_32768 l = (λ e. rw e, λ e. rw e)
