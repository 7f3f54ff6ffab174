-- Digits of any base up to 16, for the one loop that the readers share. No public contract names these. Assumes nothing.
use Rattle.std.specs.Prelude.{Bool, true, false, ◌&&◌, List, [], ◌∷◌, ℕ, zero, suc, ◌+◌, ◌-◌, ◌*◌, ◌/◌, min, eqb, leb, ltb, get_or, Result, Ok, Err}
use Rattle.octets.specs.Choice.{pick}
use Rattle.stream.specs.Bytes.{is_digit, between}
use Rattle.number.specs.declared.Digits.{Digits}

-- a digit's value, and 16 for a byte that is no hex digit
unfoldable pub digit_of : ℕ → ℕ
digit_of b = pick (is_digit b) (b - 48) (pick (between 65 70 b) (b - 55) (pick (between 97 102 b) (b - 87) 16))

abbrev pub is_digit_of : ℕ → ℕ → Bool
is_digit_of base b = ltb (digit_of b) base

abbrev pub digits : ℕ → ℕ → Digits
digits count value = record { count = count; value = value }

-- the digits in front, no more than k, after `count` that wrote `value`
unfoldable pub front_from : ℕ → ℕ → ℕ → ℕ → List ℕ → Digits
front_from base zero count value l = digits count value
front_from base (suc k) count value [] = digits count value
front_from base (suc k) count value (b ∷ l) = elim (is_digit_of base b) [ true ↦ front_from base k (suc count) (value * base + digit_of b) l | false ↦ digits count value ]

-- how many digits of a decimal may be taken: where the first is 0, no more than `zeros`
unfoldable pub most_digits : ℕ → ℕ → List ℕ → ℕ
most_digits most zeros l = pick (eqb (get_or l 0 0) 48) (min most zeros) most

-- of `count` digits that write `value`, those that are left where the last are taken away until the rest write no more than the limit
unfoldable pub fitting : ℕ → ℕ → ℕ → ℕ
fitting limit zero value = 0
fitting limit (suc count) value = elim (leb value limit) [ true ↦ suc count | false ↦ fitting limit count (value / 10) ]

-- a text of so many bytes is a number where it is digits to its end, and has one
unfoldable pub whole_read : ℕ → Digits → Result ℕ ℕ
whole_read length d = pick (leb 1 d.count && leb length d.count) (Ok d.value) (Err d.count)
