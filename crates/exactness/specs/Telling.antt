-- What is to be told of a stream, and where: which event the last byte of a good beginning decides, and the whole list of
-- events of an honest stream (paper 01, "The plain reading"; request #101 for the end). Written over good beginnings alone. Assumes nothing.
use Rattle.std.specs.Prelude.{Bool, true, false, List, [], ◌∷◌, ◌++◌, ◌≡◌, ℕ, suc, length, replicate}
use Rattle.sections.specs.Reading.{Event, question, message, last, Log}
use Rattle.stream.specs.Blocks.{line_signature, block_message}
use Rattle.stream.specs.Ends.{all_fields, ends_in, end_signature, end_string}
use Rattle.stream.specs.Events.{Question, Release, head_accepted, block, LastWord, closed, complete, refused}
use Rattle.stream.specs.Head.{Head, head_of, status_digits, injection_id, head_signature, signed_of, signing_string, trusted_by}
use Rattle.stream.specs.Numbers.{decimal_value}
use Rattle.stream.specs.Ring.{Ring, number_of}
use Rattle.stream.specs.Terms.{Terms}
use Rattle.exactness.specs.Beginning.{Beginning, opening, onward, written, head_in, announces, body, hash, offset, questions, with_end}
use Rattle.exactness.specs.Good.{GoodHead, Good, GoodTrailer, claims, GoodClaim}
use Rattle.exactness.specs.Refusals.{Refuses, Unfinished}

abbrev pub StreamEvent : Type 0
StreamEvent = Event Question Release LastWord

-- ---- what is asked and told

-- "signing string, Sig0's signature, the record found"
unfoldable pub head_asks : Ring → Head → Question
head_asks ring h = record { message = signing_string h; signature = head_signature h; key_number = number_of (trusted_by ring h) }

-- the status, and the fields whose values are handed out
unfoldable pub head_tells : Head → Release
head_tells h = head_accepted (decimal_value (status_digits h)) (signed_of h)

-- about the block b that comes after w, where l is the line after b: "block message, that signature, the same record"
unfoldable pub block_asks : Ring → Beginning → List ℕ → List ℕ → Question
block_asks ring w b l =
    record {
      message = block_message (injection_id (head_in w)) (offset w) (hash (onward w b l));
      signature = line_signature l;
      key_number = number_of (trusted_by ring (head_in w));
    }

-- about the end, by the fields of the head and of the trailer t: "a question over Sig1", with the head's record
unfoldable pub end_asks : Ring → Head → List ℕ → Question
end_asks ring h t =
    record {
      message = end_string h (ends_in (all_fields h t));
      signature = end_signature (ends_in (all_fields h t));
      key_number = number_of (trusted_by ring h);
    }

-- ---- where each event is decided

-- `Decides terms front yeses e`: the last byte of `front` decides the event e, where `yeses` questions were answered with yes.
-- A question is asked when all before it were answered so; what it asks for is told, at the same byte, on one yes more.
pub data Decides (terms : Terms) : List ℕ → ℕ → StreamEvent → Type 0 where
  head_asked : {h : List ℕ} → GoodHead terms h → Decides terms h 0 (question (head_asks terms.ring (head_of h)))
  head_told : {h : List ℕ} → GoodHead terms h → Decides terms h 1 (message (head_tells (head_of h)))
  block_asked : {w : Beginning} {b l : List ℕ} → Good terms (onward w b l)
      → Decides terms (written (onward w b l)) (questions w) (question (block_asks terms.ring w b l))
  block_told : {w : Beginning} {b l : List ℕ} → Good terms (onward w b l)
      → Decides terms (written (onward w b l)) (suc (questions w)) (message (block (offset w) b))
  -- "none of the three, *closed* as today"
  body_closed : {w : Beginning} {t : List ℕ} → Good terms w → announces w ≡ 0 → GoodTrailer t → claims (head_in w) t ≡ false
      → Decides terms (written w ++ t) (questions w) (last (closed (length (body w))))
  end_asked : {w : Beginning} {t : List ℕ} → Good terms w → announces w ≡ 0 → GoodTrailer t → GoodClaim (head_in w) (body w) t
      → Decides terms (written w ++ t) (questions w) (question (end_asks terms.ring (head_in w) t))
  -- "A yes gives a new last word, *complete*, with the total"
  completed : {w : Beginning} {t : List ℕ} → Good terms w → announces w ≡ 0 → GoodTrailer t → GoodClaim (head_in w) (body w) t
      → Decides terms (written w ++ t) (suc (questions w)) (last (complete (length (body w))))
  rule_broken : {front : List ℕ} {yeses n place : ℕ} → Refuses terms front yeses n place → Decides terms front yeses (last (refused n place))

-- The event e is due at the place `at` of the stream S: a beginning of S of that length decides it, and the answers begin
-- with all the yeses that it needs.
pub record Due (terms : Terms) (S : List ℕ) (answers : List Bool) (at : ℕ) (e : StreamEvent) : Type 0 where
  pub front : List ℕ
  pub rest : List ℕ
  pub stream : front ++ rest ≡ S
  pub place : length front ≡ at
  pub yeses : ℕ
  pub others : List Bool
  pub granted : replicate yeses true ++ others ≡ answers
  pub decides : Decides terms front yeses e

-- All that may be told of a stream: an event that is due; refusal 10 where a question is due and the answer to it is no; and
-- refusal 11, at the place of all the bytes, where the end was told and the stream is unfinished.
pub data Expected (terms : Terms) (S : List ℕ) (answers : List Bool) (told : Bool) : ℕ → StreamEvent → Type 0 where
  on_time : {at : ℕ} {e : StreamEvent} → Due terms S answers at e → Expected terms S answers told at e
  denied : {at : ℕ} {q : Question} (d : Due terms S answers at (question q)) (others : List Bool) → d.others ≡ false ∷ others
      → Expected terms S answers told at (last (refused 10 0))
  broken_off : (yeses : ℕ) (others : List Bool) → replicate yeses true ++ others ≡ answers → Unfinished terms S yeses → told ≡ true
      → Expected terms S answers told (length S) (last (refused 11 0))

-- x stands in the list
pub record Stands {A : Type 0} (x : A) (l : List A) : Type 0 where
  pub before : List A
  pub after : List A
  pub joined : before ++ x ∷ after ≡ l

-- ---- the events of an honest stream

-- question and *head accepted* at the head's last byte; for each block question and *block*, at the last byte of the line after it
unfoldable pub log_of : Ring → Beginning → Log Question Release LastWord
log_of ring (opening h l) = (length h, question (head_asks ring (head_of h))) ∷ (length h, message (head_tells (head_of h))) ∷ []
log_of ring (onward w b l) =
    log_of ring w
    ++ (length (written (onward w b l)), question (block_asks ring w b l))
    ∷ (length (written (onward w b l)), message (block (offset w) b))
    ∷ []

-- at the trailer's last byte, where an end is claimed, the question about it and *complete*, else *closed*: each with the length of the body
abbrev pub end_log : Ring → Beginning → List ℕ → Bool → Log Question Release LastWord
end_log ring w t true =
    (length (written w ++ t), question (end_asks ring (head_in w) t)) ∷ (length (written w ++ t), last (complete (length (body w)))) ∷ []
end_log ring w t false = (length (written w ++ t), last (closed (length (body w)))) ∷ []

-- all of them, up to the last word
abbrev pub whole_log : Ring → Beginning → List ℕ → Log Question Release LastWord
whole_log ring w t = log_of ring w ++ end_log ring w t (claims (head_in w) t)

-- the yeses that they need
abbrev pub whole_yeses : Beginning → List ℕ → ℕ
whole_yeses w t = with_end (claims (head_in w) t) (questions w)

-- the bytes of all blocks that a list of events releases, joined
unfoldable pub released : Log Question Release LastWord → List ℕ
released [] = []
released ((at, question q) ∷ log) = released log
released ((at, message (head_accepted status fields)) ∷ log) = released log
released ((at, message (block o b)) ∷ log) = b ++ released log
released ((at, last l) ∷ log) = released log
