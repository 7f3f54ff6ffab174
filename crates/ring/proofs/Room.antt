-- What a ring value in the code tells by itself: its array has all its room. Assumes nothing.
use mathlib.Core.Path.{◌≡◌}
use mathlib.Core.List.{List}
use lib.ListN.{length}
use mir.Val.{Val}
use denote.Laws.{Is}
use Rattle.stream.specs.Limits.{ring_limit}
use Rattle.ring.specs.declared.KeyRing.{KeyRing}
use Rattle.ring.specs.contracts.KeyRing as declared

-- from the fact that owning the value gives, `c.good` of a parameter: past the count's part, the array's says its length
pub room : (r : KeyRing) (vs : List Val) → Is declared.the_row r vs → length r.records ≡ ring_limit
room r vs is = is.1.1.1.0.1.0.1
