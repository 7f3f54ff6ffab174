-- Numbers as texts write them. Assumes nothing.
use Rattle.std.specs.Prelude.{Bool, true, false, ◌&&◌, ◌||◌, List, [], ◌∷◌, ◌++◌, ℕ, zero, suc, ◌+◌, ◌-◌, ◌*◌, ◌/◌, ◌%◌, eqb, leb, ltb, length, get_or}
use Rattle.octets.specs.Choice.{pick}
use Rattle.stream.specs.Bytes.{is_digit, is_hex, between, all}

-- the number that digits of a base write, after digits that wrote n
unfoldable pub number_from : (ℕ → ℕ) → ℕ → ℕ → List ℕ → ℕ
number_from digit base n [] = n
number_from digit base n (b ∷ l) = number_from digit base (n * base + digit b) l

abbrev pub decimal_digit : ℕ → ℕ
decimal_digit b = b - 48

-- a hex digit's value: `0` to `9`, `A` to `F`, `a` to `f`
abbrev pub hex_digit : ℕ → ℕ
hex_digit b = pick (leb b 57) (b - 48) (pick (leb b 70) (b - 55) (b - 87))

abbrev pub decimal_value : List ℕ → ℕ
decimal_value l = number_from decimal_digit 10 0 l

abbrev pub hex_value : List ℕ → ℕ
hex_value l = number_from hex_digit 16 0 l

-- "1 to 12 digits, no leading zero unless it is `0`", and the same for another number of digits
unfoldable pub is_decimal : ℕ → List ℕ → Bool
is_decimal most l = all is_digit l && (between 1 most (length l) && (eqb (length l) 1 || ltb 48 (get_or l 0 0)))

-- "1 to 8 hex digits of either case"
unfoldable pub is_hex_number : ℕ → List ℕ → Bool
is_hex_number most l = all is_hex l && between 1 most (length l)

-- n in decimal, with at most so many digits
unfoldable pub decimal_within : ℕ → ℕ → List ℕ
decimal_within zero n = []
decimal_within (suc most) n = elim (ltb n 10) [ true ↦ (48 + n) ∷ [] | false ↦ decimal_within most (n / 10) ++ ((48 + n % 10) ∷ []) ]

-- "in decimal": n has no more than n + 1 digits
unfoldable pub decimal : ℕ → List ℕ
decimal n = decimal_within (suc n) n
