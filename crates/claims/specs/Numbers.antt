-- The numbers of a run's refusals, as paper 01's table has them ("When the reader says no") and requests #101 and #105 add to it, and which of
-- them tell a place (request #106). Assumes nothing.
use Rattle.std.specs.Prelude.{Bool, true, false, ◌&&◌, List, ◌≡◌, ℕ, ◌≤◌, leb}
use Rattle.ring.specs.declared.KeyRing.{KeyRing}
use Rattle.sections.specs.Reading.{last}
use Rattle.sections.specs.Calls.{misused}
use Rattle.sections.specs.Resuming.{events}
use Rattle.stream.specs.Events.{refused, has_place}
use Rattle.stream.specs.Limits.{head_limit}
use Rattle.agreement.specs.Due.{Between}
use Rattle.agreement.specs.Run.{Invocation}
use Rattle.exactness.specs.Telling.{Stands}
use Rattle.claims.specs.Runs.{words}

-- a stream is refused with 3 to 12, as paper 01's table has them, or with request #101's 13, 14 and 15, or with request #105's 16
abbrev pub is_of_stream : ℕ → Bool
is_of_stream n = leb 3 n && leb n 16

-- a refusal that is an event, with its place in the text
pub record OfStreams (n at : ℕ) : Type 0 where
  pub number : is_of_stream n ≡ true
  -- only 3 and 6 tell a place
  pub none : has_place n ≡ false → at ≡ 0
  -- within the longest section that is judged by its text
  pub most : at ≤ head_limit

pub record NumbersOfTheTable (keys : KeyRing) (uri h b q : List ℕ) (ks : List Invocation) : Type 0 where
  -- "Refusals 1 and 2 answer a call and are no events": a call that is refused without an event has one of these
  pub of_calls : (n count : ℕ) → Stands (misused n, count) (words keys uri h b q ks) → Between 1 2 n
  -- and a refusal that is an event, which is final, one of the others
  pub of_streams : (place n at : ℕ) → Stands (place, last (refused n at)) (events (words keys uri h b q ks)) → OfStreams n at
