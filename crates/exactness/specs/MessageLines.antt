-- A line of a message: "a line feed between, none after the last" (paper 01, "The head"). Assumes nothing.
use Rattle.std.specs.Prelude.{List, [], ◌∷◌, ◌++◌, ◌≡◌, ℕ}

-- what comes before a line: nothing, or what ends in a line feed
pub data BeforeLine : List ℕ → Type 0 where
  first : BeforeLine []
  after_line_feed : (l : List ℕ) → BeforeLine (l ++ 10 ∷ [])

-- what comes after it: nothing, or what begins with one
pub data AfterLine : List ℕ → Type 0 where
  final : AfterLine []
  before_line_feed : (l : List ℕ) → AfterLine (10 ∷ l)

pub record LineIn (line text : List ℕ) : Type 0 where
  pub before : List ℕ
  pub after : List ℕ
  pub starts : BeforeLine before
  pub ends : AfterLine after
  pub joined : before ++ (line ++ after) ≡ text
