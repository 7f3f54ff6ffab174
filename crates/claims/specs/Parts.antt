-- AN HONEST PART OF AN HONEST SHOW COMES OUT WHOLE (request #104: "A kit cut off at minute nine shouldn't start over"), however its stream is cut: it
-- hands out its bytes of the show, each block with the question and the place that it has in the show, and closes with their number. What a part
-- is, is said in crate exactness (`PartOf`). Assumes nothing.
use Rattle.std.specs.Prelude.{Bool, true, List, [], ◌++◌, ◌≡◌, ℕ, length, replicate}
use Rattle.ring.specs.Keys.{ring_of, terms_of}
use Rattle.ring.specs.declared.KeyRing.{KeyRing}
use Rattle.sections.specs.Reading.{last}
use Rattle.sections.specs.Resuming.{events}
use Rattle.stream.specs.Events.{closed}
use Rattle.stream.specs.Head.{head_of}
use Rattle.agreement.specs.Plain.{told_log}
use Rattle.agreement.specs.Run.{Invocation}
use Rattle.exactness.specs.Parts.{PartOf, chain_of, blocks_told, block_events}
use Rattle.exactness.specs.ShowEvents.{show_events}
use Rattle.exactness.specs.Shows.{Sending, stream_of, body_of, Honest, yeses_of}
use Rattle.exactness.specs.Telling.{Stands}
use Rattle.claims.specs.Body.{body_told}
use Rattle.claims.specs.Runs.{words, taken, answers}

module _ (keys : KeyRing) (uri h b q : List ℕ) (ks : List Invocation) where
  pub record PartComesOut (s p : Sending) (t : PartOf (terms_of keys uri) s p) : Type 0 where
    -- the events are those computed from the part, and the blocks handed out, joined, are its bytes
    pub all_events : events (words keys uri h b q ks) ≡ told_log (show_events (ring_of keys) p)
    pub part_body : body_told (events (words keys uri h b q ks)) ≡ body_of p.chunks
    -- which stand in the show's body behind those of the blocks before
    pub in_the_show : body_of t.earlier ++ (body_of p.chunks ++ body_of t.later) ≡ body_of s.chunks
    -- "the last word is *closed*. Its total is the bytes released"
    pub closes : Stands (length (stream_of p), last (closed (length (body_of p.chunks)))) (events (words keys uri h b q ks))
    -- what is asked and told of its blocks is what is asked and told of them in the whole show
    pub same_blocks : blocks_told (show_events (ring_of keys) s)
        ≡ block_events (ring_of keys) (head_of s.head) 0 [] t.earlier
        ++ (blocks_told (show_events (ring_of keys) p)
        ++ block_events (ring_of keys) (head_of s.head) (length (t.earlier ++ p.chunks)) (chain_of [] (t.earlier ++ p.chunks)) t.later)

  abbrev pub HonestPartComesOut : Type 0
  HonestPartComesOut =
      (s p : Sending) (more : List Bool) → Honest (terms_of keys uri) s → (t : PartOf (terms_of keys uri) s p)
      → taken keys uri h b q ks ≡ stream_of p → answers keys uri h b q ks ≡ replicate (yeses_of p) true ++ more
      → PartComesOut s p t
