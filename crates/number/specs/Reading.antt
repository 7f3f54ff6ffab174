-- What the readers answer: the number of a text that is one, in the words of paper 01, and for any other text the place where it went wrong, which
-- is the length of its longest beginning that some such number also has (proofs/Places.antt; request #106). Assumes nothing.
use Rattle.std.specs.Prelude.{List, ℕ, zero, suc, min, Result, Ok, Err}
use Rattle.octets.specs.Choice.{pick}
use Rattle.scanner.specs.Form.{reach_form}
use Rattle.scanner.specs.Scanner.{reach}
use Rattle.stream.specs.Forms.{decimal_form, hex_form, count_up_to}
use Rattle.stream.specs.GoodText.{is_count}
use Rattle.stream.specs.Numbers.{is_decimal, decimal_value, is_hex_number, hex_value}

-- ---- how far a text agrees with a number of at most so many digits; none has at most 0

unfoldable pub decimal_place : ℕ → List ℕ → ℕ
decimal_place zero l = 0
decimal_place (suc n) l = reach_form (decimal_form n) l

unfoldable pub hex_place : ℕ → List ℕ → ℕ
hex_place zero l = 0
hex_place (suc n) l = reach_form (hex_form n) l

unfoldable pub count_place : ℕ → ℕ → List ℕ → ℕ
count_place zero limit l = 0
count_place (suc n) limit l = reach (count_up_to limit n) l

-- ---- the answers

-- 19 digits are the most of which every number fits 64 bits
unfoldable pub decimal_read : ℕ → List ℕ → Result ℕ ℕ
decimal_read most l = pick (is_decimal (min most 19) l) (Ok (decimal_value l)) (Err (decimal_place (min most 19) l))

unfoldable pub count_read : ℕ → ℕ → List ℕ → Result ℕ ℕ
count_read most limit l = pick (is_count (min most 19) limit l) (Ok (decimal_value l)) (Err (count_place (min most 19) limit l))

-- and so are 16 hex digits
unfoldable pub hex_read : ℕ → List ℕ → Result ℕ ℕ
hex_read most l = pick (is_hex_number (min most 16) l) (Ok (hex_value l)) (Err (hex_place (min most 16) l))
