-- A run of data bytes taken at once. Assumes nothing.
use Rattle.std.specs.Prelude.{List, ℕ, ◌+◌, ◌-◌, min, length}
use Rattle.std.proofs.Math.Seq.{paste}
use Rattle.state.specs.Configuration.{in_phase}
use Rattle.body_steps.specs.declared.runs.Passed.{Passed}
use Rattle.state.specs.declared.phase.Phase.{Phase}
use Rattle.state.specs.declared.phase.Phase.TheVariants as P
use Rattle.state.specs.declared.reader.Reader.{Reader}

-- how many bytes of xs go into b from the place `at` on: at most `most`, as many as there are and as there is room for
abbrev pub room : List ℕ → ℕ → List ℕ → ℕ → ℕ
room b at xs most = min most (min (length xs) (length b - at))

-- the reader after the run, how many bytes it has, and the block buffer after it
pub record Skip : Type 0 where
  pub reader : Reader
  pub taken : ℕ
  pub block : List ℕ

abbrev pub skip_to : Reader → ℕ → List ℕ → Skip
skip_to r n b = record { reader = r; taken = n; block = b }

abbrev pub passed_of : Passed → List ℕ → Skip
passed_of p b = skip_to p.reader p.taken b

-- of a block of `size` bytes `have` have come: all that follow but its last
abbrev pub run_length : ℕ → ℕ → List ℕ → List ℕ → ℕ
run_length have size b xs = room b have xs (size - have - 1)

unfoldable pub skipped_data : ℕ → ℕ → Reader → List ℕ → List ℕ → Skip
skipped_data have size r b xs =
    skip_to (in_phase r (P.Data (have + run_length have size b xs) size)) (run_length have size b xs)
    (paste b have xs (run_length have size b xs))

-- only data is skipped
unfoldable pub skipped_at : Phase → Reader → List ℕ → List ℕ → Skip
skipped_at (P.Head n) r b xs = skip_to r 0 b
skipped_at (P.HeadAsked n) r b xs = skip_to r 0 b
skipped_at (P.FirstLine n) r b xs = skip_to r 0 b
skipped_at (P.Data have size) r b xs = skipped_data have size r b xs
skipped_at (P.DataEnd have size) r b xs = skip_to r 0 b
skipped_at (P.NextLine have size) r b xs = skip_to r 0 b
skipped_at (P.BlockAsked size next) r b xs = skip_to r 0 b
skipped_at (P.Trailer have total) r b xs = skip_to r 0 b
skipped_at (P.EndAsked have total) r b xs = skip_to r 0 b
skipped_at (P.Closed total) r b xs = skip_to r 0 b
skipped_at (P.Complete total) r b xs = skip_to r 0 b
skipped_at (P.Refused n) r b xs = skip_to r 0 b

abbrev pub skipped : Reader → List ℕ → List ℕ → Skip
skipped r b xs = skipped_at r.phase r b xs
