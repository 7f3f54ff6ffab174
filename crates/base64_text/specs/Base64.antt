-- Base64 with padding, as RFC 4648 has it, of a number of bytes that is known beforehand.
-- Assumes nothing.
use Rattle.std.specs.Prelude.{Bool, true, false, ◌&&◌, List, [], ◌∷◌, ℕ, zero, suc, ◌+◌, ◌*◌, ◌/◌, ◌%◌, eqb, leb, ltb, length, get_or, drop}
use Rattle.octets.specs.Octets.{octets}

-- Section 4, table 1: the letters of the values 0 to 63, in order.
abbrev pub alphabet : List ℕ
alphabet = octets "ABCDEFGHIJKLMNOPQRSTUVWXYZabcdefghijklmnopqrstuvwxyz0123456789+/"

-- Section 4, table 1: the padding character, `=`.
abbrev pub pad_character : ℕ
pad_character = 61

-- Where a byte stands in a list, counted from 0; the list's length where it does not stand there.
abbrev pub index_of : ℕ → List ℕ → ℕ
index_of b [] = 0
index_of b (x ∷ xs) = elim (eqb b x) [ true ↦ 0 | false ↦ suc (index_of b xs) ]

-- A letter's value. A byte that is no letter has the value 64, so no six bits.
unfoldable pub letter_value : ℕ → ℕ
letter_value b = index_of b alphabet

abbrev pub is_base64_letter : ℕ → Bool
is_base64_letter b = ltb (letter_value b) 64

-- Section 4: the four characters of a group stand for three bytes, and at the text's end (its cases 2 and 3) for one or two. What is
-- missing of a group is padding (section 3.2), and the bits of the last letter that belong to no byte are zero (section 3.5).
unfoldable pub holds_three : ℕ → ℕ → ℕ → ℕ → Bool
holds_three a b c d = is_base64_letter a && is_base64_letter b && is_base64_letter c && is_base64_letter d

unfoldable pub holds_two : ℕ → ℕ → ℕ → ℕ → Bool
holds_two a b c d = is_base64_letter a && is_base64_letter b && is_base64_letter c && eqb (letter_value c % 4) 0 && eqb d pad_character

unfoldable pub holds_one : ℕ → ℕ → ℕ → ℕ → Bool
holds_one a b c d = is_base64_letter a && is_base64_letter b && eqb (letter_value b % 16) 0 && eqb c pad_character && eqb d pad_character

-- What a function says of the first four characters of a text.
abbrev pub first4 : {A : Type 0} → (ℕ → ℕ → ℕ → ℕ → A) → List ℕ → A
first4 f t = f (get_or t 0 0) (get_or t 1 0) (get_or t 2 0) (get_or t 3 0)

-- Section 4: a text of n bytes is a group for each three of them, and one for what is left over.
unfoldable pub is_base64 : ℕ → List ℕ → Bool
is_base64 zero t = eqb (length t) 0
is_base64 (suc zero) t = eqb (length t) 4 && first4 holds_one t
is_base64 (suc (suc zero)) t = eqb (length t) 4 && first4 holds_two t
is_base64 (suc (suc (suc n))) t = leb 4 (length t) && first4 holds_three t && is_base64 n (drop 4 t)

-- A character's six bits; padding stands for zeros.
abbrev pub sextet : ℕ → ℕ
sextet b = letter_value b % 64

-- Section 4: the 24 bits of four characters, the first one's the highest.
unfoldable pub joined_letters : ℕ → ℕ → ℕ → ℕ → ℕ
joined_letters a b c d = ((sextet a * 64 + sextet b) * 64 + sextet c) * 64 + sextet d

-- Three bytes of 24 bits, the highest first.
abbrev pub high_byte : ℕ → ℕ
high_byte g = g / 65536 % 256

abbrev pub mid_byte : ℕ → ℕ
mid_byte g = g / 256 % 256

abbrev pub low_byte : ℕ → ℕ
low_byte g = g % 256

-- The n bytes that a text stands for: three of each group, and of the last one as many as are left.
unfoldable pub base64_bytes : ℕ → List ℕ → List ℕ
base64_bytes zero t = []
base64_bytes (suc zero) t = high_byte (first4 joined_letters t) ∷ []
base64_bytes (suc (suc zero)) t = high_byte (first4 joined_letters t) ∷ mid_byte (first4 joined_letters t) ∷ []
base64_bytes (suc (suc (suc n))) t = high_byte (first4 joined_letters t) ∷ mid_byte (first4 joined_letters t) ∷ low_byte (first4 joined_letters t) ∷ base64_bytes n (drop 4 t)

-- Section 4, the other way: the letter of a value below 64, and the text of some bytes. It is proved that `is_base64` takes just these texts
-- and that `base64_bytes` gives the bytes back (proofs/Written.antt, proofs/Unique.antt).
abbrev pub letter_of : ℕ → ℕ
letter_of v = get_or alphabet v 0

unfoldable pub text_of : List ℕ → List ℕ
text_of [] = []
text_of (x ∷ []) = letter_of (x / 4) ∷ letter_of (x % 4 * 16) ∷ pad_character ∷ pad_character ∷ []
text_of (x ∷ y ∷ []) = letter_of (x / 4) ∷ letter_of (x % 4 * 16 + y / 16) ∷ letter_of (y % 16 * 4) ∷ pad_character ∷ []
text_of (x ∷ y ∷ z ∷ r) = letter_of (x / 4) ∷ letter_of (x % 4 * 16 + y / 16) ∷ letter_of (y % 16 * 4 + z / 64) ∷ letter_of (z % 64) ∷ text_of r
