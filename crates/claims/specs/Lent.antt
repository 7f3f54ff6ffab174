-- A list of calls whose feeds are lent the key ring as a table of records (crate lent), what a caller sees of it, and demand 3 for it.
-- Assumes nothing.
use Rattle.std.specs.Prelude.{◌≡◌, Bool, true, false, ◌&&◌, List, [], ◌∷◌, ℕ, ◌≤◌, leb, length}
use Rattle.ring.specs.declared.KeyRecord.{KeyRecord}
use Rattle.sections.specs.Calls.{Request, feed, answer, end}
use Rattle.sections.specs.Calls as S
use Rattle.sections.specs.Resuming.{Resumes, events, bytes_taken, answers_heard, end_heard, Tracks}
use Rattle.stream.specs.Events.{Question, LastWord}
use Rattle.stream.specs.Limits.{ring_limit}
use Rattle.stream.specs.Stream.{plain_reading}
use Rattle.lent.specs.Table.{lent_terms, lent_feed_of, keys_of}
use Rattle.state.specs.Configuration.{Configuration, configuration, fresh_reader}
use Rattle.calls.specs.Response as R
use Rattle.calls.specs.Answer.{answer_of, end_of}
use Rattle.agreement.specs.Loans.{have_room}
use Rattle.agreement.specs.Observation.{Told, Trace, outs}
use Rattle.agreement.specs.Plain.{told_log, plain_trace}
use Rattle.agreement.specs.Run.{called, observed}

-- whether a table will do: "a lent table of 0 to 16 records"
abbrev pub table_fits : List KeyRecord → Request → Bool
table_fits records (feed piece) = leb (length records) ring_limit
table_fits records (answer good) = true
table_fits records end = true

abbrev pub lent_fits : List ℕ → List ℕ → List ℕ → List KeyRecord → Request → Bool
lent_fits h b q records r = have_room h b q && table_fits records r

-- as in the run with the ring by value: a call that is refused with 2 may be lent anything
pub data LentCall : Type 0 where
  same : Request → LentCall
  other : (h b q : List ℕ) (records : List KeyRecord) (uri : List ℕ) (r : Request) → lent_fits h b q records r ≡ false → LentCall

abbrev pub lent_called : List KeyRecord → List ℕ → Configuration → Request → R.Response
lent_called records uri d (feed piece) = lent_feed_of records uri d piece
lent_called records uri d (answer good) = answer_of d good
lent_called records uri d end = end_of d

abbrev pub lent_aside : List KeyRecord → List ℕ → Configuration → Configuration → Request → R.Response
lent_aside records uri d lent r =
    let c = lent_called records uri lent r in
    R.response c.word c.taken c.signature (configuration c.after.reader d.head d.block d.question)

unfoldable pub lent_run_call : List KeyRecord → List ℕ → Configuration → LentCall → R.Response
lent_run_call records uri d (same r) = lent_called records uri d r
lent_run_call records uri d (other h b q records' uri' r misfit) = lent_aside records' uri' d (configuration d.reader h b q) r

unfoldable pub lent_run_from : List KeyRecord → List ℕ → Configuration → List LentCall → Trace
lent_run_from records uri d [] = []
lent_run_from records uri d (k ∷ ks) = observed (lent_run_call records uri d k) ∷ lent_run_from records uri (lent_run_call records uri d k).after ks

-- a list of calls from a fresh reader, lent buffers of any first content
unfoldable pub lent_run : List KeyRecord → List ℕ → List ℕ → List ℕ → List ℕ → List LentCall → Trace
lent_run records uri h b q ks = lent_run_from records uri (configuration fresh_reader h b q) ks

-- ---- the same calls, for the plain reading

abbrev pub plain_lent_call : List KeyRecord → List ℕ → List ℕ → List ℕ → LentCall → S.Call
plain_lent_call records h b q (same r) = S.call (lent_fits h b q records r) r
plain_lent_call records h b q (other h' b' q' records' uri' r misfit) = S.call false r

unfoldable pub plain_lent_calls : List KeyRecord → List ℕ → List ℕ → List ℕ → List LentCall → List S.Call
plain_lent_calls records h b q [] = []
plain_lent_calls records h b q (k ∷ ks) = plain_lent_call records h b q k ∷ plain_lent_calls records h b q ks

-- ---- THE LENT RING: demand 3, once more, with the records that are lent in place of the ring

module _ (records : List KeyRecord) (uri h b q : List ℕ) (ks : List LentCall) where
  -- the words and counts of the calls, the bytes that they took, the answers that they heard, and whether the end was told
  abbrev pub lent_words : List (S.Out Question Told LastWord)
  lent_words = outs (lent_run records uri h b q ks)

  abbrev pub lent_taken : List ℕ
  lent_taken = bytes_taken (plain_lent_calls records h b q ks) lent_words

  abbrev pub lent_answers : List Bool
  lent_answers = answers_heard (plain_lent_calls records h b q ks) lent_words

  abbrev pub lent_ended : Bool
  lent_ended = end_heard (plain_lent_calls records h b q ks) lent_words

  pub record LentRing : Type 0 where
    pub each_call : lent_run records uri h b q ks ≡ plain_trace (lent_terms records uri) (plain_lent_calls records h b q ks)
    pub all_taken : events lent_words ≡ told_log (plain_reading (lent_terms records uri) lent_taken lent_answers lent_ended)
    pub whole_stream : (S : List ℕ) → Resumes S (plain_lent_calls records h b q ks) lent_words
        → Tracks (events lent_words) (told_log (plain_reading (lent_terms records uri) S lent_answers true))

-- Demand 3 for it, with at most 16 records; with more, every feed is refused with 2 (Demand1).
abbrev pub HoldsForLentRing : Type 0
HoldsForLentRing = (records : List KeyRecord) (uri h b q : List ℕ) (ks : List LentCall) → length records ≤ ring_limit → LentRing records uri h b q ks

-- and for every configuration, a forged one too: such a call gives and leaves what the call with the ring by value does
abbrev pub SameByValue : Type 0
SameByValue = (records : List KeyRecord) (uri : List ℕ) (d : Configuration) (r : Request) → lent_called records uri d r ≡ called (keys_of records) uri d r
