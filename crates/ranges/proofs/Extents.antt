-- What is kept of a range stands for that range. Assumes nothing.
use mathlib.Core.Path.{◌≡◌, refl}
use Rattle.stream.specs.Range.{Range, whole, part}
use Rattle.ranges.specs.Extent.{range_in, extent_of}

pub range_extent : (r : Range) → range_in (extent_of r) ≡ r
range_extent whole = refl
range_extent (part a b t) = refl
