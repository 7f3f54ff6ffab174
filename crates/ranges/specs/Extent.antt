-- What the code keeps of an answer's range, and the range that it stands for. Assumes nothing.
use Rattle.std.specs.Prelude.{Bool, ◌&&◌, ◌||◌, ℕ, suc, ◌+◌, leb}
use Rattle.stream.specs.Range.{Range, whole, part}
use Rattle.ranges.specs.declared.extent.Extent.{Extent}
use Rattle.ranges.specs.declared.extent.Extent.TheVariants.{Whole, Part}

abbrev pub range_in : Extent → Range
range_in Whole = whole
range_in (Part first last total) = part first.0 last.0 total

abbrev pub extent_of : Range → Extent
extent_of whole = Whole
extent_of (part a b t) = Part (record { 0 = a }) (record { 0 = b }) t

-- `sofar + n` bytes end at the last byte or before it, and just there where n is 0. No public contract names this.
unfoldable pub ends_within : ℕ → ℕ → ℕ → Bool
ends_within last sofar n = leb (sofar + n) (suc last) && (leb 1 n || leb (suc last) sofar)
