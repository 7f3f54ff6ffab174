-- Which character may stand where in a text of n bytes, and how many of a text's first characters may stand where they do. It is proved
-- that these are the longest beginning that some text of n bytes also has (proofs/Viable.antt). Assumes nothing.
use Rattle.std.specs.Prelude.{Bool, true, false, ◌&&◌, ◌||◌, List, [], ◌∷◌, ℕ, suc, ◌+◌, ◌-◌, ◌*◌, ◌/◌, ◌%◌, eqb, leb, ltb}
use Rattle.octets.specs.Choice.{pick}
use Rattle.base64_text.specs.Base64.{letter_value, pad_character, is_base64}
use Rattle.places.specs.declared.Checked.{Checked}

-- A text of n bytes has a group for each three of them, and one for what is left over: 11 groups for 32 bytes, 22 for 64.
abbrev pub groups : ℕ → ℕ
groups n = (n + 2) / 3

-- A group has four characters and three bytes, the last one of a text perhaps fewer: the bytes before the group that place i is in, and those left there.
abbrev pub bytes_before : ℕ → ℕ
bytes_before i = i / 4 * 3

abbrev pub bytes_left : ℕ → ℕ → ℕ
bytes_left n i = n - bytes_before i

-- With three bytes left or more a group holds three of them, in four letters. With one or two it holds these, in one letter more than they are, and then
-- padding; the lowest four or two bits of its last letter belong to no byte, and are zero where its value is a multiple of 16 or of 4.
abbrev pub last_multiple : ℕ → ℕ
last_multiple left = pick (eqb left 1) 16 4

-- Whether byte b, whose value is v, may stand at place k of a group, 0 to 3.
unfoldable pub stands_as : ℕ → ℕ → ℕ → ℕ → Bool
stands_as left k b v =
    pick (leb 3 left || ltb k left) (ltb v 64)
    (pick (ltb left k) (eqb b pad_character)
    (ltb v 64 && eqb (v % last_multiple left) 0))

abbrev pub stands_in : ℕ → ℕ → ℕ → Bool
stands_in left k b = stands_as left k b (letter_value b)

-- Whether byte b may stand at place i of a text of n bytes.
unfoldable pub may_stand : ℕ → ℕ → ℕ → Bool
may_stand n i b = ltb (bytes_before i) n && stands_in (bytes_left n i) (i % 4) b

-- How many characters, of which the first stands at place i, may stand where they do, up to the first that may not.
unfoldable pub standing_from : ℕ → ℕ → List ℕ → ℕ
standing_from n i [] = 0
standing_from n i (b ∷ t) = elim (may_stand n i b) [ true ↦ suc (standing_from n (suc i) t) | false ↦ 0 ]

abbrev pub viable_length : ℕ → List ℕ → ℕ
viable_length n t = standing_from n 0 t

-- What a check of a text answers: whether it is a text of n bytes, and how far it goes well.
abbrev pub checked : ℕ → List ℕ → Checked
checked n t = record { good = is_base64 n t; at = viable_length n t }
