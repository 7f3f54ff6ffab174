-- DEMAND 3, as it is claimed. Cutting changes nothing: what a caller sees of any list of calls is what paper 01's plain reading gives,
-- which never knows where a piece ended. Assumes nothing.
--
-- `run keys uri h b q ks` is what a caller sees of the calls ks from a fresh reader, lent the buffers h, b and q with any first content,
-- the key ring `keys` and the asked URI `uri`: each call's word with all that it carries, the count taken, the question's message as it lies in
-- the question buffer, and after the call the released block and the value and the count of every field as they are handed out. It is made
-- of the functions that the contracts of the code name (crate agreement, Run). A call that is refused with 2 may be lent anything.
-- `plain_trace` is the same of the plain reading: paper 01, "A list of calls is read so" (crates sections and agreement, Plain), with "that
-- URI as one more fixed input" (request #105).
use Rattle.std.specs.Prelude.{◌≡◌, true, List, ℕ}
use Rattle.ring.specs.Keys.{terms_of}
use Rattle.ring.specs.declared.KeyRing.{KeyRing}
use Rattle.sections.specs.Calls.{over, standing}
use Rattle.sections.specs.Resuming.{Resumes, events, Tracks}
use Rattle.stream.specs.Stream.{plain_reading}
use Rattle.agreement.specs.Plain.{told_log, plain_trace}
use Rattle.agreement.specs.Run.{Invocation, run, plain_calls}
use Rattle.claims.specs.Runs.{words, taken, answers, ended}

pub record CuttingChangesNothing (keys : KeyRing) (uri h b q : List ℕ) (ks : List Invocation) : Type 0 where
  -- EVERY LIST OF CALLS, wrongly timed and ill lent ones and empty pieces among them: all that is seen of each call is what the plain
  -- reading gives.
  pub each_call : run keys uri h b q ks ≡ plain_trace (terms_of keys uri) (plain_calls keys h b q ks)
  -- WHAT WAS TAKEN. The events, each with its place and with what it hands out, are the plain reading of the bytes that were taken, in
  -- one piece, with the answers that were heard.
  pub all_taken : events (words keys uri h b q ks)
      ≡ told_log (plain_reading (terms_of keys uri) (taken keys uri h b q ks) (answers keys uri h b q ks) (ended keys uri h b q ks))
  -- A WHOLE STREAM. Let the pieces go on through a stream S from the first byte not taken, and the end be told only once all is
  -- taken; refused calls may be anything. Then the events are a beginning of the plain reading of all of S with the answers given, and
  -- all of it once a last word has come.
  pub whole_stream : (S : List ℕ) → Resumes S (plain_calls keys h b q ks) (words keys uri h b q ks)
      → Tracks (events (words keys uri h b q ks)) (told_log (plain_reading (terms_of keys uri) S (answers keys uri h b q ks) true))

-- HOWEVER IT IS CUT: two runs over one stream, in whatever buffers, with the same ring, URI and answers, that both came to a last word, have
-- the same events at the same places, and hand out the same blocks and values.
abbrev pub TwoCuttings : Type 0
TwoCuttings =
    (keys : KeyRing) (uri h b q h' b' q' : List ℕ) (S : List ℕ) (ks ls : List Invocation)
    → Resumes S (plain_calls keys h b q ks) (words keys uri h b q ks) → Resumes S (plain_calls keys h' b' q' ls) (words keys uri h' b' q' ls)
    → answers keys uri h b q ks ≡ answers keys uri h' b' q' ls
    → standing (events (words keys uri h b q ks)) ≡ over → standing (events (words keys uri h' b' q' ls)) ≡ over
    → events (words keys uri h b q ks) ≡ events (words keys uri h' b' q' ls)
