-- A refusal comes exactly when it is due, with its number and with the place where the text went wrong (request #106), however the stream was
-- cut. What is due is said in crate exactness, from the paper and the request: `Refuses` (which rule is broken, and by which section),
-- `WentWrong` (the place, by which texts are good). Assumes nothing.
use Rattle.std.specs.Prelude.{List, ◌↔◌, ℕ}
use Rattle.ring.specs.Keys.{terms_of}
use Rattle.ring.specs.declared.KeyRing.{KeyRing}
use Rattle.sections.specs.Reading.{last}
use Rattle.sections.specs.Resuming.{events}
use Rattle.stream.specs.Events.{refused}
use Rattle.agreement.specs.Run.{Invocation}
use Rattle.exactness.specs.Telling.{Expected, Stands}
use Rattle.claims.specs.Runs.{words, taken, answers, ended}

module _ (keys : KeyRing) (uri h b q : List ℕ) (ks : List Invocation) where
  -- at a place of the stream the run is refused with n, and told that the section's text went wrong at `wrong`
  abbrev pub RefusedExactly : Type 0
  RefusedExactly =
      (at n wrong : ℕ)
      → Stands (at, last (refused n wrong)) (events (words keys uri h b q ks))
      ↔ Expected (terms_of keys uri) (taken keys uri h b q ks) (answers keys uri h b q ks) (ended keys uri h b q ks) at (last (refused n wrong))
