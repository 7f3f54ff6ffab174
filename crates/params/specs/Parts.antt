-- Parts of a value as the code goes through them: what a template's scan from a place makes of its first parts, whatever
-- parts come after them. No public contract names these. Assumes nothing.
use Rattle.std.specs.Prelude.{List, [], ◌∷◌, ◌++◌, ◌≡◌, ℕ, ◌≤◌, length, drop, Option, Some, None, IfSome}
use Rattle.stream.specs.Template.{Part, text, gap, Scanned, unlike, keep, scan}
use Rattle.places.specs.Place.{part_of}
use Rattle.params.specs.declared.parts.Run.{Run}

-- a run's places lie in the value
pub record Inside (value : List ℕ) (r : Run) : Type 0 where
  pub ordered : r.start ≤ r.end
  pub ends : r.end ≤ length value
  pub goes_on : r.next ≤ length value

-- the bytes of a run
abbrev pub run_bytes : List ℕ → Run → List ℕ
run_bytes value r = part_of value r.start r.end

-- the run is kept, and the scan goes on after it with the parts that come next
abbrev pub onward : List ℕ → Option Run → List Part → Scanned
onward value None ps = unlike
onward value (Some r) ps = keep (run_bytes value r) (scan ps (drop r.next value))

-- r is what the first parts of a template make of the value from a place on
pub record Reads (first : List Part) (value : List ℕ) (at : ℕ) (r : Option Run) : Type 0 where
  pub meaning : (ps : List Part) → scan (first ++ ps) (drop at value) ≡ onward value r ps
  pub inside : IfSome r (Inside value)

-- r is what those parts make of it with a text and a gap after them, where `before` is what they make of it
pub record GoesOn (value : List ℕ) (before : Run) (mark : List ℕ) (r : Option Run) : Type 0 where
  pub meaning : (first : List Part) (at : ℕ) → Reads first value at (Some before) → Reads (first ++ text mark ∷ gap ∷ []) value at r
  pub inside : IfSome r (Inside value)
