-- A list of calls of the reader, from a fresh one, and what a caller sees of each: the functions that the contracts of `feed`,
-- `answer`, `end`, `block_part`, `field_part` and `field_count` name, and nothing else. Assumes nothing.
use Rattle.std.specs.Prelude.{◌≡◌, false, List, [], ◌∷◌, ℕ, leb, length, take}
use Rattle.octets.specs.Choice.{pick}
use Rattle.refusals.specs.declared.Refusal.{Refusal}
use Rattle.ring.specs.declared.KeyRing.{KeyRing}
use Rattle.sections.specs.Reading.{question, message, last}
use Rattle.sections.specs.Calls.{is_of_call, Request, feed, answer, end, Reply, more, event, misused}
use Rattle.sections.specs.Calls as S
use Rattle.stream.specs.Events.{Question, LastWord, closed, complete, refused}
use Rattle.handing.specs.Handing.{handed_value, handed_count}
use Rattle.state.specs.Configuration.{Configuration, configuration, fresh_reader}
use Rattle.state.specs.declared.word.Word.TheVariants as W
use Rattle.state.specs.declared.word.Word as Code
use Rattle.calls.specs.Response as R
use Rattle.reader.specs.Feed.{feed_of}
use Rattle.calls.specs.Answer.{answer_of, end_of}
use Rattle.handing.specs.Released.{block_part}
use Rattle.agreement.specs.Loans.{loan_fits}
use Rattle.agreement.specs.Observation.{Values, Told, head_accepted, block, Observation, Trace}

-- ---- calls

-- A call that is refused with 2 may be lent anything; any other is lent the same buffers as last left, and a feed the same ring and URI.
pub data Invocation : Type 0 where
  same : Request → Invocation
  other : (h b q : List ℕ) (ring : KeyRing) (uri : List ℕ) (r : Request) → loan_fits h b q ring r ≡ false → Invocation

-- ---- the run

-- one call, by the functions that the contracts name
abbrev pub called : KeyRing → List ℕ → Configuration → Request → R.Response
called ring uri d (feed piece) = feed_of ring uri d piece
called ring uri d (answer good) = answer_of d good
called ring uri d end = end_of d

-- the same reader's call with other buffers, which leaves these as they are
abbrev pub aside : KeyRing → List ℕ → Configuration → Configuration → Request → R.Response
aside ring uri d lent r =
    let c = called ring uri lent r in
    R.response c.word c.taken c.signature (configuration c.after.reader d.head d.block d.question)

unfoldable pub run_call : KeyRing → List ℕ → Configuration → Invocation → R.Response
run_call ring uri d (same r) = called ring uri d r
run_call ring uri d (other h b q ring' uri' r misfit) = aside ring' uri' d (configuration d.reader h b q) r

-- ---- what a caller sees

-- a refusal that does not answer a call is final
abbrev pub refusal : Refusal → Reply Question Told LastWord
refusal why = pick (is_of_call why.number) (misused why.number) (event (last (refused why.number why.at)))

-- what `block_part`, `field_part` and `field_count` hand out
abbrev pub block_seen : Configuration → List ℕ
block_seen d = block_part d.block d.reader.released

abbrev pub value_seen : Configuration → List ℕ → List ℕ
value_seen d name = handed_value d.head d.reader.fixed.accepted name

abbrev pub count_seen : Configuration → List ℕ → ℕ
count_seen d name = handed_count d.head d.reader.fixed.accepted name

abbrev pub values_seen : Configuration → Values
values_seen d = record { value = value_seen d; count = count_seen d }

-- the message at the front of the question buffer, of so many bytes; a length past the buffer is no question, and nothing that a
-- reading gives
abbrev pub question_seen : ℕ → ℕ → List ℕ → List ℕ → Reply Question Told LastWord
question_seen n key signature q =
    pick (leb n (length q)) (event (question (record { message = take n q; signature = signature; key_number = key }))) (misused 0)

-- the word, with the signature, and the reader and the buffers after the call
unfoldable pub word_seen : Code.Word → List ℕ → Configuration → Reply Question Told LastWord
word_seen W.More signature d = more
word_seen (W.Question n key) signature d = question_seen n key signature d.question
word_seen (W.Head status) signature d = event (message (head_accepted status (values_seen d)))
word_seen (W.Block offset n) signature d = event (message (block offset.0 n (block_seen d)))
word_seen (W.Closed total) signature d = event (last (closed total))
word_seen (W.Complete total) signature d = event (last (complete total))
word_seen (W.Refused why) signature d = refusal why

unfoldable pub observed : R.Response → Observation
observed c =
    record {
      out = (word_seen c.word c.signature c.after, c.taken);
      block = block_seen c.after;
      values = values_seen c.after;
    }

-- one call after the other, each with the reader and the buffers that the one before left
unfoldable pub run_from : KeyRing → List ℕ → Configuration → List Invocation → Trace
run_from ring uri d [] = []
run_from ring uri d (k ∷ ks) = observed (run_call ring uri d k) ∷ run_from ring uri (run_call ring uri d k).after ks

-- a list of calls from a fresh reader, lent buffers of any first content
unfoldable pub run : KeyRing → List ℕ → List ℕ → List ℕ → List ℕ → List Invocation → Trace
run ring uri h b q ks = run_from ring uri (configuration fresh_reader h b q) ks

-- ---- the same calls, for the plain reading

-- A call asks what it asks; its loan will do or not. The buffers keep their lengths, so the first ones tell; the URI, of whatever length, will
-- always do.
abbrev pub plain_call : KeyRing → List ℕ → List ℕ → List ℕ → Invocation → S.Call
plain_call ring h b q (same r) = S.call (loan_fits h b q ring r) r
plain_call ring h b q (other h' b' q' ring' uri' r misfit) = S.call false r

unfoldable pub plain_calls : KeyRing → List ℕ → List ℕ → List ℕ → List Invocation → List S.Call
plain_calls ring h b q [] = []
plain_calls ring h b q (k ∷ ks) = plain_call ring h b q k ∷ plain_calls ring h b q ks
