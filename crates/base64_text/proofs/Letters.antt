-- The value of a letter as the code finds it, by ranges of bytes, is its place in the alphabet. Assumes nothing.
use borrow.Author.Tests.{eqb-true}
use mathlib.Core.Bool.{Bool}
use mathlib.Core.Path.{◌≡◌, refl}
use Prim.Native.Nat.{ℕ, ◌<◌}
use lib.Dec.{eqb}
use Rattle.base64_text.specs.Base64.{letter_value}
use Rattle.base64_text.specs.Groups.{in_range}
use Rattle.base64_text.proofs.Computed.{below}

abbrev pub by_range : ℕ → ℕ
by_range b = in_range b 65 90 0 (in_range b 97 122 26 (in_range b 48 57 52 (in_range b 43 43 62 (in_range b 47 47 63 64))))

by_range_is : ℕ → Bool
by_range_is b = eqb (by_range b) (letter_value b)

-- one test, computed at each byte
pub range_value : (b : ℕ) → b < 256 → by_range b ≡ letter_value b
unfolding by_range_is letter_value
range_value b h = eqb-true _ _ (below by_range_is 256 refl b h)
