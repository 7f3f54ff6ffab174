-- When a run closes. *Closed* means that the framing ended well: all that the run took is then the stream of some honest show, or of some honest
-- part of one (request #104; crate closing, `TakesShow`), that claims no end (request #101: "none of the three, *closed* as today"). It does not say that the show is
-- complete. Assumes nothing.
use Rattle.std.specs.Prelude.{false, List, ◌↔◌, ◌≡◌, ℕ}
use Rattle.ring.specs.Keys.{terms_of}
use Rattle.ring.specs.declared.KeyRing.{KeyRing}
use Rattle.sections.specs.Reading.{last}
use Rattle.sections.specs.Resuming.{events}
use Rattle.stream.specs.Events.{closed}
use Rattle.agreement.specs.Run.{Invocation}
use Rattle.exactness.specs.Shows.{body_of}
use Rattle.exactness.specs.Telling.{Stands}
use Rattle.closing.specs.Closing.{TakesShow}
use Rattle.claims.specs.Body.{body_told}
use Rattle.claims.specs.Runs.{words, taken, answers}

pub record ClosesExactly (keys : KeyRing) (uri h b q : List ℕ) (ks : List Invocation) : Type 0 where
  -- EXACTLY THEN: *closed* is among the events, at a place and with a total, exactly when all the bytes that the run took are the stream of
  -- an honest show with no claimed end, as many as the place says, whose body has that total, and the answers that it heard are just a yes for
  -- the head and for each block. Calls after the last word take no byte, and no answer of theirs is heard: there may be any.
  pub exactly : (at total : ℕ) → Stands (at, last (closed total)) (events (words keys uri h b q ks))
      ↔ TakesShow (terms_of keys uri) false (taken keys uri h b q ks) (answers keys uri h b q ks) at total
  -- THE BODY: then the blocks handed out, joined, are the body of that show.
  pub whole_body : (at total : ℕ) (t : TakesShow (terms_of keys uri) false (taken keys uri h b q ks) (answers keys uri h b q ks) at total)
      → body_told (events (words keys uri h b q ks)) ≡ body_of t.show.chunks
