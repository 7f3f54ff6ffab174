-- A piece of the stream byte by byte, for any rule `push` of what one byte does (paper 01, "How a sitting goes": a feed takes
-- bytes up to the first event, or all of them, and says how many). Assumes nothing.
use Rattle.std.specs.Prelude.{List, [], ◌∷◌, ℕ, ◌+◌}
use Rattle.state.specs.Configuration.{Configuration, Next, on, stop}
use Rattle.state.specs.declared.word.Word.{Word}

-- what a piece leads to: no event, with so many bytes taken, or a word, with its signature, at the byte that decided it
pub data Fed : Type 0 where
  more : ℕ → Configuration → Fed
  event : Word → List ℕ → ℕ → Configuration → Fed

abbrev pub follow : Next → ℕ → (Configuration → Fed) → Fed
follow (on d) taken rest = rest d
follow (stop w signature d) taken rest = event w signature taken d

-- from a desk, with `taken` bytes of the piece taken already
unfoldable pub run_of : (Configuration → ℕ → Next) → Configuration → ℕ → List ℕ → Fed
run_of push d taken [] = more taken d
run_of push d taken (x ∷ xs) = follow (push d x) (taken + 1) (λ d'. run_of push d' (taken + 1) xs)
