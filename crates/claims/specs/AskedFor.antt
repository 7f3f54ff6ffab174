-- THE SHOW THAT WAS ASKED FOR, AND NO OTHER (request #105), said of any list of calls. `AsksFor` (crate exactness, AskedFor) says of the bytes
-- taken that they begin with a good head whose URI is the asked one, and of the events that the first of them is the question about this head, in
-- whose message the asked URI has its line. Assumes nothing.
use Rattle.std.specs.Prelude.{◌≡◌, false, List, ℕ}
use Rattle.ring.specs.Keys.{terms_of}
use Rattle.ring.specs.declared.KeyRing.{KeyRing}
use Rattle.sections.specs.Reading.{Event}
use Rattle.sections.specs.Resuming.{events}
use Rattle.stream.specs.Events.{Question, LastWord}
use Rattle.agreement.specs.Observation.{Told}
use Rattle.agreement.specs.Run.{Invocation}
use Rattle.exactness.specs.AskedFor.{is_last, AsksFor}
use Rattle.exactness.specs.Telling.{Stands}
use Rattle.claims.specs.Runs.{words, taken}

module _ (keys : KeyRing) (uri h b q : List ℕ) (ks : List Invocation) where
  -- where anything at all was asked or handed out
  abbrev pub AskedShowOnly : Type 0
  AskedShowOnly =
      (at : ℕ) (e : Event Question Told LastWord) → Stands (at, e) (events (words keys uri h b q ks)) → is_last e ≡ false
      → AsksFor (terms_of keys uri) (taken keys uri h b q ks) (events (words keys uri h b q ks))
