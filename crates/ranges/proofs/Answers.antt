-- What a caller learns from what was read of `Content-Range`: whether the value is good, and the part that it then says. Assumes nothing.
use mathlib.Core.Bool.{Bool, true, false}
use mathlib.Core.Path.{◌≡◌, refl}
use Prim.Native.Nat.{ℕ}
use Rattle.std.specs.Prelude.{is_some, Some, None}
use Rattle.octets.specs.Choice.{pick}
use Rattle.stream.specs.Range.{is_content_range, range_said}
use Rattle.stream.specs.Template.{Scanned}
use Rattle.ranges.specs.Extent.{extent_of}
use Rattle.ranges.specs.Reading.{range_read}

module _ (N : ℕ) (s : Scanned) where
  pub range_says : is_some (range_read N s) ≡ is_content_range N s
  unfolding range_read
  range_says = by (is_content_range N s)
    where
      by : (t : Bool) → is_some (pick t (Some (extent_of (range_said s))) None) ≡ t
      by true = refl
      by false = refl

  pub range_is : is_content_range N s ≡ true → range_read N s ≡ Some (extent_of (range_said s))
  unfolding range_read
  range_is h = rw h
