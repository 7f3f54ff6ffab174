-- NOTHING ELSE COMES OUT, said of any list of calls: what is handed out after its last call, and what was asked before. A list of
-- calls up to a call is a list of calls too, so that this is about each call of a run. Assumes nothing.
use Rattle.std.specs.Prelude.{◌≡◌, List, [], ◌∷◌, ◌++◌, ℕ}
use Rattle.ring.specs.Keys.{ring_of, terms_of}
use Rattle.ring.specs.declared.KeyRing.{KeyRing}
use Rattle.sections.specs.Reading.{question, message, Log}
use Rattle.sections.specs.Resuming.{Begins, events}
use Rattle.stream.specs.Events.{Question, block, LastWord}
use Rattle.stream.specs.Head.{head_of}
use Rattle.stream.specs.Lines.{Field}
use Rattle.state.specs.Configuration.{configuration, fresh_reader}
use Rattle.agreement.specs.Observation.{Values, Told, Observation}
use Rattle.agreement.specs.Plain.{told}
use Rattle.agreement.specs.Run.{Invocation, run, block_seen, value_seen, count_seen}
use Rattle.exactness.specs.Releases.{AcceptsHead, ReleasesBlock}
use Rattle.exactness.specs.Telling.{head_asks, block_asks}
use Rattle.claims.specs.Runs.{words, taken, answers}
use Rattle.claims.specs.SignedValues.{SignedValues}

-- before the first call nothing is handed out, whatever the buffers hold
pub record NothingAtFirst (h b q : List ℕ) : Type 0 where
  pub no_block : block_seen (configuration fresh_reader h b q) ≡ []
  pub no_value : (name : List ℕ) → value_seen (configuration fresh_reader h b q) name ≡ []
  pub no_count : (name : List ℕ) → count_seen (configuration fresh_reader h b q) name ≡ 0

-- x is the last of the list
pub record Last {A : Type 0} (x : A) (l : List A) : Type 0 where
  pub earlier : List A
  pub joined : earlier ++ x ∷ [] ≡ l

module _ (keys : KeyRing) (uri h b q : List ℕ) (ks : List Invocation) where
  -- THE BLOCK that is handed out: nothing, or the bytes of the block that is the last event, which the rules and the answers release, of
  -- all that these calls took and heard.
  pub data BlockOut (bytes : List ℕ) : Type 0 where
    no_block : bytes ≡ [] → BlockOut bytes
    a_block : (place offset : ℕ) → ReleasesBlock (terms_of keys uri) (taken keys uri h b q ks) (answers keys uri h b q ks) place offset bytes
        → Last (place, message (told (block offset bytes))) (events (words keys uri h b q ks)) → BlockOut bytes

  -- an accepted head, of which these are the signed values; the message that their lines stand in is that of the question about this
  -- head, which is the first event of all, and the first answer is yes (`accepted.granted`)
  pub record OfAcceptedHead (values : Values) : Type 0 where
    pub place : ℕ
    pub status : ℕ
    pub fields : List Field
    pub accepted : AcceptsHead (terms_of keys uri) (taken keys uri h b q ks) (answers keys uri h b q ks) place status fields
    pub signed : SignedValues (head_of accepted.head) values
    pub asked : Begins ((place, question (head_asks (ring_of keys) (head_of accepted.head))) ∷ []) (events (words keys uri h b q ks))

  -- THE VALUES that are handed out, by name, and their counts: nothing for any name, or the signed values of an accepted head.
  pub data ValuesOut (values : Values) : Type 0 where
    no_value : ((name : List ℕ) → values.value name ≡ []) → ((name : List ℕ) → values.count name ≡ 0) → ValuesOut values
    of_head : OfAcceptedHead values → ValuesOut values

  -- THE QUESTION right before a block, at the same place, is about this block: `block_asks` has the message with the head's id, the
  -- offset and the chained hash of this block, the signature in the line after it, and the record of the head's key; all answers up to
  -- and with the one to it are yes (`releases.granted`)
  pub record AskedBefore (earlier : Log Question Told LastWord) (place offset : ℕ) (bytes : List ℕ) : Type 0 where
    pub releases : ReleasesBlock (terms_of keys uri) (taken keys uri h b q ks) (answers keys uri h b q ks) place offset bytes
    pub before : Log Question Told LastWord
    pub asked : before ++ (place, question (block_asks (ring_of keys) releases.before bytes releases.line)) ∷ [] ≡ earlier

  pub record NothingElse : Type 0 where
    -- o is what is seen of the last of these calls
    pub block_handed : (o : Observation) → Last o (run keys uri h b q ks) → BlockOut o.block
    pub values_handed : (o : Observation) → Last o (run keys uri h b q ks) → ValuesOut o.values
    -- each block among the events, after those that come before it
    pub question_before : (earlier later : Log Question Told LastWord) (place offset : ℕ) (bytes : List ℕ)
        → earlier ++ (place, message (told (block offset bytes))) ∷ later ≡ events (words keys uri h b q ks)
        → AskedBefore earlier place offset bytes
    -- what is seen of these calls is seen of them whatever calls come after
    pub later_calls : (more : List Invocation) → Begins (run keys uri h b q ks) (run keys uri h b q (ks ++ more))
