-- What the code makes of the value of `Content-Range` (request #104). Assumes nothing.
use Rattle.std.specs.Prelude.{◌&&◌, List, ℕ, ◌+◌, length, drop, Option, Some, None}
use Rattle.octets.specs.Choice.{pick}
use Rattle.stream.specs.Bytes.{is_digit}
use Rattle.stream.specs.Limits.{time_digits}
use Rattle.stream.specs.Numbers.{is_decimal, decimal_value}
use Rattle.stream.specs.Range.{range_said, is_content_range}
use Rattle.stream.specs.Template.{Scanned, run, starts_with}
use Rattle.ranges.specs.Extent.{extent_of}
use Rattle.ranges.specs.declared.extent.Extent.{Extent}
use Rattle.ranges.specs.declared.numbers.Numbered.{Numbered}

-- the part that a good value says
unfoldable pub range_read : ℕ → Scanned → Option Extent
range_read N s = pick (is_content_range N s) (Some (extent_of (range_said s))) None

-- ---- the number after a text. No public contract names these.

-- the digits from a place on
abbrev pub digits_from : List ℕ → ℕ → List ℕ
digits_from value start = run is_digit (drop start value)

-- a text that stands at a place, and the number after it
unfoldable pub number_after : List ℕ → ℕ → List ℕ → Option Numbered
number_after value at mark =
    pick (starts_with mark (drop at value) && is_decimal time_digits (digits_from value (at + length mark)))
    (Some (record {
      number = decimal_value (digits_from value (at + length mark));
      next = at + length mark + length (digits_from value (at + length mark));
    }))
    None
