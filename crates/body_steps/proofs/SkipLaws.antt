-- Laws on the code of a run of data bytes: its count, and the phases in which there is none. Assumes nothing.
use mathlib.Core.List.{List}
use mathlib.Core.Path.{◌≡◌, refl, sym, ap, ◌∙◌}
use native.Mathlib.Omega.{arith}
use native.Mathlib.Nat.{add-sub_cancel_left}
use Prim.Native.Nat.{ℕ, ◌+◌, ◌-◌, ◌≤◌, min}
use lib.ListN.{length, take, length-take}
use lib.Seq.{paste, take-take}
use Rattle.places.specs.Writing.{placed, wrote}
use Rattle.places.proofs.WritingLaws.{next_is, bytes_are}
use Rattle.state.specs.Configuration.{in_phase}
use Rattle.body_steps.specs.Skip.{room, Skip, skip_to, skipped_data, skipped_at}
use Rattle.state.specs.declared.phase.Phase.{Phase}
use Rattle.state.specs.declared.phase.Phase.TheVariants as P
use Rattle.state.specs.declared.reader.Reader.{Reader}

min_assoc : (k m n : ℕ) → min (min k m) n ≡ min k (min m n)
min_assoc k m n = omega arith

-- the run is written from the place `have` on: `end` bytes of xs, as far as there is room
module _ (have most end next : ℕ) (b b' xs : List ℕ) (f : end ≡ min most (length xs)) (e : placed next b' ≡ wrote b have (take end xs)) where
  long : length (take end xs) ≡ min most (length xs)
  long = omega (arith, length-take end xs)

  run_is : min (length (take end xs)) (length b - have) ≡ room b have xs most
  run_is = rw long (min_assoc most (length xs) (length b - have))

  next_from : next ≡ have + room b have xs most
  next_from = next_is b have (take end xs) next b' e ∙ rw run_is

  pub goes_up : have ≤ next
  goes_up = omega (arith, next_from)

  block_is : b' ≡ paste b have xs (room b have xs most)
  block_is = bytes_are b have (take end xs) next b' e ∙ rw (run_is, take-take (room b have xs most) end xs (omega arith))

  pub skipped_is : (r : Reader) (size : ℕ) → most ≡ size - have - 1 → skip_to (in_phase r (P.Data next size)) (next - have) b' ≡ skipped_data have size r b xs
  unfolding skipped_data
  skipped_is r size m = rw (block_is, next_from, add-sub_cancel_left, m)

module _ (r : Reader) (b xs : List ℕ) where
  pub skipped_at_lem : (p p' : Phase) (s : Skip) → p ≡ p' → s ≡ skipped_at p' r b xs → s ≡ skipped_at p r b xs
  skipped_at_lem p p' s e f = f ∙ ap (λ (p : Phase). skipped_at p r b xs) (sym e)

  -- all phases but the fourth, by their numbers
  pub no_data : (p : Phase) → ((have size : ℕ) → p ≡ P.Data have size → ⊥) → skip_to r 0 b ≡ skipped_at p r b xs
  unfolding skipped_at
  no_data (P.Head n) h = refl
  no_data (P.HeadAsked n) h = refl
  no_data (P.FirstLine n) h = refl
  no_data (P.Data have size) h = absurd (h have size refl)
  no_data (P.DataEnd have size) h = refl
  no_data (P.NextLine have size) h = refl
  no_data (P.BlockAsked size next) h = refl
  no_data (P.Trailer have total) h = refl
  no_data (P.EndAsked have total) h = refl
  no_data (P.Closed total) h = refl
  no_data (P.Complete total) h = refl
  no_data (P.Refused n) h = refl
