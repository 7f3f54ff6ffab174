-- ON BYTES, the statement: what a list of exported calls shows, and the reader's calls behind it. Assumes nothing.
use Rattle.std.specs.Prelude.{List, [], ◌∷◌, map, ◌≡◌, ℕ, ◌≤◌, length, take}
use Rattle.ring.specs.Keys.{terms_of}
use Rattle.ring.specs.declared.KeyRing.{KeyRing}
use Rattle.stream.specs.Limits.{head_limit, block_limit}
use Rattle.state.specs.Configuration.{Configuration, fresh_reader}
use Rattle.calls.specs.Response as R
use Rattle.fronts.specs.Fronts.{first_parts}
use Rattle.packing.specs.Keys.{keys_in}
use Rattle.packing.specs.Parts.{Placed, placed}
use Rattle.layout.specs.State.{state_size, decoded}
use Rattle.results.specs.Results.{word_of, result_in}
use Rattle.results.specs.Written.{Answer}
use Rattle.reader_export.specs.Export.{short, configuration_in, block_in, value_in, count_in}
use Rattle.agreement.specs.Plain.{plain_trace}
use Rattle.agreement.specs.Run.{Invocation, block_seen, value_seen, count_seen, observed, run_call, plain_calls}
use Rattle.agreement.specs.Run as Run
use Rattle.buffers.specs.Left.{buffers_in, left_after}
use Rattle.byte_claims.specs.ExportedCalls.{Held, ExportedCall, same, other, too_short, kept_after, Calls}

-- ---- what is seen after each

-- the number returned and the result's bytes; the reader with the first parts of its buffers; what `ouinet_reader_block` gives, and so many
-- bytes at the block buffer's front; what `ouinet_reader_value` gives, by a name and the buffer lent for the value; and what
-- `ouinet_reader_value_count` gives, by a name
pub record Seen : Type 0 where
  pub word : ℕ
  pub result : List ℕ
  pub after : Configuration
  pub released : ℕ
  pub block : List ℕ
  pub value : List ℕ → List ℕ → Placed
  pub count : List ℕ → ℕ

abbrev pub held_in : Held → Configuration
held_in x = first_parts (configuration_in x.state x.head x.block x.question)

abbrev pub seen_in : Answer → Held → Seen
seen_in a x =
    record {
      word = a.word;
      result = a.result;
      after = held_in x;
      released = length (block_in x.state x.block);
      block = take (length (block_in x.state x.block)) x.block;
      value = value_in x.state x.head;
      count = count_in x.state x.head;
    }

unfoldable pub shown : Held → List ExportedCall → List Answer → List Seen
shown x [] told = []
shown x (k ∷ ks) [] = []
shown x (k ∷ ks) (a ∷ told) = seen_in a (kept_after x k a) ∷ shown (kept_after x k a) ks told

-- ---- the reader's calls

-- those that reach the reader, as the calls of a run
unfoldable pub invocations : List ExportedCall → List Invocation
invocations [] = []
invocations (same t r ∷ ks) = Run.same r ∷ invocations ks
invocations (other h b q ring uri t r misfit ∷ ks) = Run.other h b q (keys_in ring) uri r misfit ∷ invocations ks
invocations (too_short l r ∷ ks) = invocations ks

-- one after the other, each with the reader and the buffers that the one before left
unfoldable pub made : KeyRing → List ℕ → Configuration → List Invocation → List R.Response
made keys uri d [] = []
made keys uri d (k ∷ ks) = run_call keys uri d k ∷ made keys uri (run_call keys uri d k).after ks

-- what a caller of the reader would see in the exported calls' place: `block_part` and `field_part` hand the two parts out, `field_count` tells
-- the count
abbrev pub seen_of : ℕ → List ℕ → Configuration → Seen
seen_of n t d =
    record {
      word = n;
      result = t;
      after = d;
      released = length (block_seen d);
      block = block_seen d;
      value = λ name v. placed (value_seen d name) v;
      count = count_seen d;
    }

abbrev pub response_seen : List ℕ → R.Response → Seen
response_seen t c = seen_of (word_of c.word) (result_in c.word c.taken c.signature t) c.after

-- from a reader with its buffers; 255 leaves all as it was, and is no call of the reader
unfoldable pub views : Configuration → List ExportedCall → List R.Response → List Seen
views d [] cs = []
views d (same t r ∷ ks) [] = []
views d (same t r ∷ ks) (c ∷ cs) = response_seen t c ∷ views c.after ks cs
views d (other h b q ring uri t r misfit ∷ ks) [] = []
views d (other h b q ring uri t r misfit ∷ ks) (c ∷ cs) = response_seen t c ∷ views c.after ks cs
views d (too_short l r ∷ ks) cs = seen_of short l.result d ∷ views d ks cs

-- What is lent besides, to a call that is refused with 2 for it or answered 255, comes back as it was.
pub record Untouched (h b q : List ℕ) (a : Answer) : Type 0 where
  pub head : a.head ≡ h
  pub block : a.block ≡ b
  pub question : a.question ≡ q

abbrev pub OthersUntouched : List ExportedCall → List Answer → Type 0
OthersUntouched [] told = Unit {0}
OthersUntouched (k ∷ ks) [] = Unit {0}
OthersUntouched (same t r ∷ ks) (a ∷ told) = OthersUntouched ks told
OthersUntouched (other h b q ring uri t r misfit ∷ ks) (a ∷ told) = Untouched h b q a × OthersUntouched ks told
OthersUntouched (too_short l r ∷ ks) (a ∷ told) = Untouched l.head l.block l.question a × ((a.state ≡ l.state) × OthersUntouched ks told)

-- what the caller keeps after all of them
unfoldable pub held_after : Held → List ExportedCall → List Answer → Held
held_after x [] told = x
held_after x (k ∷ ks) [] = x
held_after x (k ∷ ks) (a ∷ told) = held_after (kept_after x k a) ks told

-- One list of the reader's calls stands behind all: the exported calls show it as numbers and bytes; what a caller of the reader sees of it
-- is what the plain reading gives; and what is left in the buffers is what these calls leave (Left). The buffers of the run are the first
-- parts of those lent.
module _ (ring uri : List ℕ) (x : Held) (ks : List ExportedCall) where
  abbrev pub keys : KeyRing
  keys = keys_in ring

  abbrev pub head_part : List ℕ
  head_part = take head_limit x.head

  abbrev pub block_part : List ℕ
  block_part = take block_limit x.block

  abbrev pub question_part : List ℕ
  question_part = take head_limit x.question

  pub record SameCalls (told : List Answer) : Type 0 where
    pub exported : shown x ks told ≡ views (held_in x) ks (made keys uri (held_in x) (invocations ks))
    pub plain : map observed (made keys uri (held_in x) (invocations ks)) ≡ plain_trace (terms_of keys uri) (plain_calls keys head_part block_part question_part (invocations ks))
    pub in_buffers : buffers_in (held_in (held_after x ks told)) ≡ left_after keys uri head_part block_part question_part (invocations ks)
    pub others : OthersUntouched ks told

-- ON BYTES: so it is for every list of exported calls that are answered as their contracts say, from a state that `ouinet_reader_fresh` has
-- written.
abbrev pub HoldsOnBytes : Type 0
HoldsOnBytes =
    (ring uri : List ℕ) (x : Held) (ks : List ExportedCall) (told : List Answer) → state_size ≤ length x.state → decoded x.state ≡ fresh_reader
    → Calls ring uri x ks told → SameCalls ring uri x ks told
