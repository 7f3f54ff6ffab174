-- What the private functions' contracts name: a byte's place in a range, and four characters as a group. No public contract names these. Assumes nothing.
use Rattle.std.specs.Prelude.{Bool, ◌&&◌, ℕ, ◌+◌, ◌-◌, leb}
use Rattle.octets.specs.Choice.{pick}
use Rattle.base64_text.specs.Base64.{joined_letters}
use Rattle.base64_text.specs.Places.{stands_in}
use Rattle.base64_text.specs.declared.Group.{Group}

-- How far byte b is above low, and base more, where it is from low to high.
abbrev pub in_range : ℕ → ℕ → ℕ → ℕ → ℕ → ℕ
in_range b low high base other = pick (leb low b && leb b high) (b - low + base) other

-- How many of four tests hold, up to the first that does not.
abbrev pub leading4 : Bool → Bool → Bool → Bool → ℕ
leading4 p q r s = pick p (pick q (pick r (pick s 4 3) 2) 1) 0

-- How many of a group's four characters may stand where they do, up to the first that may not.
abbrev pub standing_of : ℕ → ℕ → ℕ → ℕ → ℕ → ℕ
standing_of left a b c d = leading4 (stands_in left 0 a) (stands_in left 1 b) (stands_in left 2 c) (stands_in left 3 d)

unfoldable pub group_of : ℕ → ℕ → ℕ → ℕ → ℕ → Group
group_of left a b c d = record { standing = standing_of left a b c d; bits = joined_letters a b c d }
