-- DEMAND 2, as it is claimed. It does what the published rules say: a block comes out exactly when every rule up to it holds and each
-- answer so far was yes, and an honest stream comes out whole. Assumes nothing.
--
-- What keeps the rules is said in crate exactness, from the paper and not from the reading: `ReleasesBlock` (a beginning of the stream
-- with a good head, good blocks and good lines, whose last block is this one), `Honest` (a show, or since request #104 a part of one,
-- as its sender may write it down, with an end that it claims rightly, or none: request #101) and `Expected` (which event is due at which byte).
-- The same theorems about the plain reading alone are `block_exact`, `head_exact`, `exactness` and `show_complete` there.
use Rattle.std.specs.Prelude.{◌≡◌, Bool, true, List, ◌++◌, ◌↔◌, ℕ, replicate}
use Rattle.ring.specs.Keys.{ring_of, terms_of}
use Rattle.ring.specs.declared.KeyRing.{KeyRing}
use Rattle.sections.specs.Reading.{question, message}
use Rattle.sections.specs.Resuming.{events}
use Rattle.stream.specs.Events.{Question, block}
use Rattle.agreement.specs.Plain.{told, told_log}
use Rattle.agreement.specs.Run.{Invocation}
use Rattle.exactness.specs.Releases.{ReleasesBlock}
use Rattle.exactness.specs.ShowEvents.{show_events}
use Rattle.exactness.specs.Shows.{Sending, stream_of, body_of, Honest, yeses_of}
use Rattle.exactness.specs.Telling.{Expected, Stands}
use Rattle.claims.specs.Body.{body_told}
use Rattle.claims.specs.Runs.{words, taken, answers, ended}

module _ (keys : KeyRing) (uri h b q : List ℕ) (ks : List Invocation) where
  -- EXACTLY THEN: a run shows a block, at an offset of the body and with its bytes as they are handed out, at a place of the stream,
  -- exactly when the bytes that it took begin as the rules ask up to that place, with this block as the last, and the answers that
  -- it heard, up to and with the one about this block, are all yes.
  abbrev pub BlockComesOut : Type 0
  BlockComesOut =
      (at o : ℕ) (bytes : List ℕ)
      → Stands (at, message (told (block o bytes))) (events (words keys uri h b q ks))
      ↔ ReleasesBlock (terms_of keys uri) (taken keys uri h b q ks) (answers keys uri h b q ks) at o bytes

  -- EXACTLY THEN IS IT ASKED: a run asks a question, at a place of the stream, with its message, its signature and the number of the key's
  -- record, exactly when that question is due there: about a good head, about a block, and (request #101) about the end of a show.
  abbrev pub AsksExactly : Type 0
  AsksExactly =
      (at : ℕ) (asked : Question)
      → Stands (at, question asked) (events (words keys uri h b q ks))
      ↔ Expected (terms_of keys uri) (taken keys uri h b q ks) (answers keys uri h b q ks) (ended keys uri h b q ks) at (question asked)

  -- AN HONEST SHOW, or an honest part of one, however its stream is cut, once it is taken and each question was answered with yes, the one about a claimed end too: the
  -- events are those computed from the show, up to *complete* where an end is claimed, else up to *closed*, and the blocks handed out, joined,
  -- are its body.
  pub record ComesOutWhole (s : Sending) : Type 0 where
    pub all_events : events (words keys uri h b q ks) ≡ told_log (show_events (ring_of keys) s)
    pub whole_body : body_told (events (words keys uri h b q ks)) ≡ body_of s.chunks

  abbrev pub HonestComesOut : Type 0
  HonestComesOut =
      (s : Sending) (more : List Bool) → Honest (terms_of keys uri) s
      → taken keys uri h b q ks ≡ stream_of s → answers keys uri h b q ks ≡ replicate (yeses_of s) true ++ more
      → ComesOutWhole s
