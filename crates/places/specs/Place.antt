-- A part of a text by the place where it starts and the place after its end. A place past the text's end, or a start after its
-- end, stands for nothing, so any two numbers have a part. Assumes nothing.
use Rattle.std.specs.Prelude.{List, ◌≡◌, ℕ, ◌-◌, ◌≤◌, length, take, drop}
use Rattle.places.specs.declared.Span.{Span}

-- the text from start up to end, as far as it goes
unfoldable pub part_of : List ℕ → ℕ → ℕ → List ℕ
part_of text start end = take (end - start) (drop start text)

-- the same part by places that lie within the text
pub record Clips (text : List ℕ) (start end : ℕ) (s : Span) : Type 0 where
  pub content : part_of text s.start s.end ≡ part_of text start end
  pub ordered : s.start ≤ s.end
  pub within : s.end ≤ length text
