-- When a run is complete (request #101: "A yes gives a new last word, *complete*, with the total"), and what that means: "Teachers ask whether they
-- have the whole file." Assumes nothing.
use Rattle.std.specs.Prelude.{true, List, [], ◌∷◌, ◌++◌, ◌↔◌, ◌≡◌, ℕ, length, replicate}
use Rattle.octets.specs.Octets.{octets}
use Rattle.sha256.specs.Sha256.{sha256}
use Rattle.ring.specs.Keys.{terms_of}
use Rattle.ring.specs.declared.KeyRing.{KeyRing}
use Rattle.sections.specs.Reading.{question, last, Log}
use Rattle.sections.specs.Resuming.{events}
use Rattle.stream.specs.Ends.{is_digest, digest_bytes, is_data_size}
use Rattle.stream.specs.Events.{Question, LastWord, complete}
use Rattle.stream.specs.Numbers.{decimal_value}
use Rattle.agreement.specs.Observation.{Told}
use Rattle.agreement.specs.Run.{Invocation}
use Rattle.exactness.specs.Shows.{body_of}
use Rattle.exactness.specs.Telling.{Stands}
use Rattle.reaching.specs.Arrival.{questions_in}
use Rattle.closing.specs.Closing.{TakesShow}
use Rattle.claims.specs.Body.{body_told}
use Rattle.claims.specs.Runs.{words, taken, answers}

module _ (keys : KeyRing) (uri h b q : List ℕ) (ks : List Invocation) where
  -- WHAT IT MEANS that a run says *complete*, at a place and with a total: the size and the SHA-256 of the bytes handed out are those that the last
  -- yes was about.
  pub record MeansComplete (at total : ℕ) : Type 0 where
    -- what `Digest` and `X-Ouinet-Data-Size` say
    pub digest : List ℕ
    pub data_size : List ℕ
    pub digest_text : is_digest digest ≡ true
    pub size_text : is_data_size data_size ≡ true
    -- it is true of the blocks handed out, joined, which are as many bytes as the total says
    pub total_handed : length (body_told (events (words keys uri h b q ks))) ≡ total
    pub same_size : decimal_value data_size ≡ length (body_told (events (words keys uri h b q ks)))
    pub same_hash : digest_bytes digest ≡ sha256 (body_told (events (words keys uri h b q ks)))
    -- the first event is the question about the head; the last two are the question about the end, and *complete*
    pub head_at : ℕ
    pub head_question : Question
    pub between : Log Question Told LastWord
    pub end_question : Question
    pub joined : (head_at, question head_question) ∷ (between ++ (at, question end_question) ∷ (at, last (complete total)) ∷ [])
        ≡ events (words keys uri h b q ks)
    -- to each question the answer was yes, and no other answer was heard
    pub all_yes : answers keys uri h b q ks ≡ replicate (questions_in (events (words keys uri h b q ks))) true
    -- the last of them was about a message whose last two lines say so, and about the record of the head's key: "its key as Sig0's"
    pub first_lines : List ℕ
    pub last_lines : first_lines ++ (octets "\ndigest: " ++ (digest ++ (octets "\nx-ouinet-data-size: " ++ data_size))) ≡ end_question.message
    pub same_key : end_question.key_number ≡ head_question.key_number

  pub record CompletesExactly : Type 0 where
    -- EXACTLY THEN: *complete* is among the events, at a place and with a total, exactly when all the bytes that the run took are the stream of
    -- an honest show that claims its end, as many as the place says, whose body has that total, and the answers that it heard are just a yes
    -- for the head, for each block and for the end. Calls after it take no byte, and no answer of theirs is heard: there may be any.
    pub exactly : (at total : ℕ) → Stands (at, last (complete total)) (events (words keys uri h b q ks))
        ↔ TakesShow (terms_of keys uri) true (taken keys uri h b q ks) (answers keys uri h b q ks) at total
    -- THE BODY: then the blocks handed out, joined, are the body of that show.
    pub whole_body : (at total : ℕ) (t : TakesShow (terms_of keys uri) true (taken keys uri h b q ks) (answers keys uri h b q ks) at total)
        → body_told (events (words keys uri h b q ks)) ≡ body_of t.show.chunks
    pub means : (at total : ℕ) → Stands (at, last (complete total)) (events (words keys uri h b q ks)) → MeansComplete at total
