-- What the three lent buffers hold after any list of calls. `left_after keys uri h b q ks` is what the calls ks leave in buffers that first held
-- h, b and q, from a fresh reader with the key ring `keys` and the asked URI `uri` (crate buffers, Left); `buffers_after` is what the bytes
-- taken, the answers heard and the end told leave there by paper 01 alone (crate stream, Buffers), which knows no reader, no call and no
-- cutting. Assumes nothing.
use Rattle.std.specs.Prelude.{◌≡◌, List, [], ℕ}
use Rattle.ring.specs.Keys.{terms_of}
use Rattle.ring.specs.declared.KeyRing.{KeyRing}
use Rattle.stream.specs.Buffers.{front, buffers_after, head_bytes}
use Rattle.agreement.specs.Run.{Invocation}
use Rattle.buffers.specs.Left.{buffers, left_after}
use Rattle.claims.specs.Runs.{taken, answers, ended}

pub record OnlyTheStreamIsLeft (keys : KeyRing) (uri h b q : List ℕ) (ks : List Invocation) : Type 0 where
  -- EVERY LIST OF CALLS, wrongly timed and ill lent ones and empty pieces among them: head bytes from the front of the head buffer, each
  -- message from the front of the question buffer, each block and the trailer from the front of the block buffer, in their order; after
  -- a final refusal the pending bytes of the block buffer zero; and every other byte as it was.
  pub all_calls : left_after keys uri h b q ks
      ≡ buffers_after (terms_of keys uri) (taken keys uri h b q ks) (answers keys uri h b q ks) (ended keys uri h b q ks) (buffers h b q)
  -- THE HEAD BYTES, once taken, stay at the front of the head buffer to the end, after a final refusal too, and nothing is written after them.
  pub head_stays : (left_after keys uri h b q ks).head ≡ front (head_bytes (taken keys uri h b q ks)) h
  -- NO BYTE TAKEN: no byte altered.
  pub nothing_taken : taken keys uri h b q ks ≡ [] → left_after keys uri h b q ks ≡ buffers h b q

-- HOWEVER IT IS CUT: two runs in the same buffers that took the same bytes, heard the same answers and were both told the end, or both not,
-- leave the same in every byte.
abbrev pub TwoRunsLeaveTheSame : Type 0
TwoRunsLeaveTheSame =
    (keys : KeyRing) (uri h b q : List ℕ) (ks ls : List Invocation)
    → taken keys uri h b q ks ≡ taken keys uri h b q ls → answers keys uri h b q ks ≡ answers keys uri h b q ls → ended keys uri h b q ks ≡ ended keys uri h b q ls
    → left_after keys uri h b q ks ≡ left_after keys uri h b q ls
