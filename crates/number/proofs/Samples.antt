-- Texts of numbers, each with what its reader answers: times of at most 12 digits, sizes of at most 5 digits from 1 to 65,536, and sizes of chunks, of
-- at most 8 hex digits. One computed test covers the table. The dues were written from the change request's words. Assumes nothing.
use mathlib.Core.Bool.{Bool, true, false}
use mathlib.Core.List.{List, [], ◌∷◌}
use mathlib.Core.Path.{◌≡◌, refl}
use Prim.Native.Nat.{ℕ, suc}
use Prim.Native.String.{String}
use lib.Dec.{eqb}
use Rattle.octets.specs.Octets.{octets}
use Rattle.scanner.specs.Form.{step_form, reach_form}
use Rattle.scanner.specs.Scanner.{reach_from, reach}
use Rattle.stream.specs.Bytes.{all}
use Rattle.stream.specs.Forms.{decimal_form, hex_form, step_count}
use Rattle.stream.specs.GoodText.{is_count}
use Rattle.stream.specs.Limits.{time_digits, block_digits, block_limit, size_digits}
use Rattle.stream.specs.Numbers.{number_from, is_decimal, is_hex_number}
use Rattle.number.specs.Reading.{decimal_place, hex_place, count_place, decimal_read, hex_read, count_read}
use Rattle.std.specs.Prelude.{Result, Ok, Err}

record Row : Type 0 where
  answer : Result ℕ ℕ
  due : Result ℕ ℕ

abbrev time : String → Result ℕ ℕ → Row
time text due = record { answer = decimal_read time_digits (octets text); due = due }

abbrev block_size : String → Result ℕ ℕ → Row
block_size text due = record { answer = count_read block_digits block_limit (octets text); due = due }

abbrev chunk_size : String → Result ℕ ℕ → Row
chunk_size text due = record { answer = hex_read size_digits (octets text); due = due }

abbrev rows : List Row
rows =
    -- `0` is a time, and no other begins with it
    time "0" (Ok 0)
    ∷ time "01" (Err 1)
    ∷ time "00" (Err 1)
    ∷ time "" (Err 0)
    ∷ time "999999999999" (Ok 999_999_999_999)
    ∷ time "1234567890123" (Err 12)
    ∷ time "123456789012x" (Err 12)
    ∷ time "17x" (Err 2)
    ∷ time "-1" (Err 0)
    ∷ time ":" (Err 0)
    -- a block size: `0` begins none, and no digit may make it larger than the limit
    ∷ block_size "1" (Ok 1)
    ∷ block_size "65536" (Ok 65_536)
    ∷ block_size "65537" (Err 4)
    ∷ block_size "65540" (Err 4)
    ∷ block_size "65600" (Err 4)
    ∷ block_size "99999" (Err 4)
    ∷ block_size "655360" (Err 5)
    ∷ block_size "6553x" (Err 4)
    ∷ block_size "0" (Err 0)
    ∷ block_size "05" (Err 0)
    ∷ block_size "" (Err 0)
    -- hex digits of either case, and zeros in front
    ∷ chunk_size "0" (Ok 0)
    ∷ chunk_size "0aF" (Ok 175)
    ∷ chunk_size "00000005" (Ok 5)
    ∷ chunk_size "FFFFffff" (Ok 4_294_967_295)
    ∷ chunk_size "000000005" (Err 8)
    ∷ chunk_size "12g" (Err 2)
    ∷ chunk_size "" (Err 0)
    ∷ []

abbrev alike : Result ℕ ℕ → Result ℕ ℕ → Bool
alike (Ok v) (Ok w) = eqb v w
alike (Ok v) (Err q) = false
alike (Err p) (Ok w) = false
alike (Err p) (Err q) = eqb p q

-- the numbers of the rows that do not hold
abbrev broken : ℕ → List Row → List ℕ
broken i [] = []
broken i (r ∷ rs) = elim (alike r.answer r.due) [ true ↦ broken (suc i) rs | false ↦ i ∷ broken (suc i) rs ]

pub samples : broken 0 rows ≡ []
unfolding decimal_read hex_read count_read decimal_place hex_place count_place is_decimal is_hex_number is_count all number_from decimal_form hex_form step_count reach_form reach reach_from step_form
samples = refl
