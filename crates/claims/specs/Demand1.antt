-- DEMAND 1, as it is claimed. Nothing breaks it: no bytes and no calls in any order, whatever value the state has, a forged one too.
-- Assumes nothing.
--
-- That every public function is safe and ends, for every argument, is what the prover checks of each before it builds anything: none has
-- a `requires`. What each call returns and leaves in the buffers is one equation in its contract. Here is what these equations say of
-- refusals 1 and 2, which answer a call and are no events. `called` is any of the three calls (crate agreement, Run).
use Rattle.std.specs.Prelude.{◌≡◌, Bool, true, false, List, [], ◌∷◌, ℕ, ◌<◌, leb, length}
use Rattle.ring.specs.declared.KeyRecord.{KeyRecord}
use Rattle.ring.specs.declared.KeyRing.{KeyRing}
use Rattle.sections.specs.Calls.{Request, feed}
use Rattle.stream.specs.Limits.{head_limit, block_limit, ring_limit}
use Rattle.state.specs.Configuration.{Configuration, no_signature}
use Rattle.state.specs.declared.word.Word.TheVariants as W
use Rattle.calls.specs.Response.{Response, is_reading, unchanged}
use Rattle.reader.specs.Feed.{feed_of}
use Rattle.agreement.specs.Due.{is_due, is_in_head, is_misuse, is_question, Between}
use Rattle.agreement.specs.Loans.{loan_fits}
use Rattle.agreement.specs.Run.{called, block_seen, value_seen, count_seen}
use Rattle.claims.specs.Lent.{lent_fits, lent_called}

-- REFUSALS 1 AND 2, of a call from the configuration d that asks for r, whose loan will do or not, and that gave c: exactly when they
-- come, and that they change nothing: no byte of a buffer, no part of the reader, and no byte is taken. 2 is tested before 1, and any
-- other call has another word.
pub record ChangesNothing (will_do : Bool) (d : Configuration) (r : Request) (c : Response) : Type 0 where
  pub two : will_do ≡ false → c ≡ unchanged 2 d
  pub one : will_do ≡ true → is_due d.reader.phase r ≡ false → c ≡ unchanged 1 d
  pub neither : will_do ≡ true → is_due d.reader.phase r ≡ true → is_misuse c.word ≡ false

module _ (keys : KeyRing) (uri : List ℕ) (d : Configuration) where
  -- for every reader, buffers, ring, URI and call: the URI will always do
  abbrev pub RefusalsChangeNothing : Request → Type 0
  RefusalsChangeNothing r = ChangesNothing (loan_fits d.head d.block d.question keys r) d r (called keys uri d r)

  -- It never stands still: a feed of a nonempty piece that is not refused by 1 or 2 takes a byte or more, and no more than there are.
  abbrev pub TakesSome : Type 0
  TakesSome =
      (x : ℕ) (xs : List ℕ) → loan_fits d.head d.block d.question keys (feed (x ∷ xs)) ≡ true → is_reading d.reader.phase ≡ true
      → Between 1 (length (x ∷ xs)) (feed_of keys uri d (x ∷ xs)).taken

  -- The ring and the URI are read only when the head is judged. After it, any ring that will do, with any URI, gives the same feed.
  abbrev pub TermsNotRead : Type 0
  TermsNotRead =
      (keys' : KeyRing) (uri' piece : List ℕ) → is_in_head d.reader.phase ≡ false
      → leb keys.count ring_limit ≡ true → leb keys'.count ring_limit ≡ true → feed_of keys uri d piece ≡ feed_of keys' uri' d piece

  -- And before it is whole: a feed that brings no event is the same with any other ring that will do and any other URI.
  abbrev pub TermsNotReadYet : Type 0
  TermsNotReadYet =
      (keys' : KeyRing) (uri' piece : List ℕ) → (feed_of keys uri d piece).word ≡ W.More
      → leb keys'.count ring_limit ≡ true → feed_of keys uri d piece ≡ feed_of keys' uri' d piece

  -- A signature comes with a question alone: with any other word go 64 zeros.
  abbrev pub OnlyQuestionsSigned : Type 0
  OnlyQuestionsSigned = (r : Request) → is_question (called keys uri d r).word ≡ false → (called keys uri d r).signature ≡ no_signature

-- WITH THE RING AS A LENT TABLE, of any number of records: the same; over 16 of them will not do for a feed, and it is refused with 2.
abbrev pub LentRefusalsChangeNothing : List KeyRecord → List ℕ → Configuration → Request → Type 0
LentRefusalsChangeNothing records uri d r = ChangesNothing (lent_fits d.head d.block d.question records r) d r (lent_called records uri d r)

abbrev pub SeventeenRefused : Type 0
SeventeenRefused =
    (records : List KeyRecord) (uri : List ℕ) (d : Configuration) (piece : List ℕ) → ring_limit < length records
    → lent_called records uri d (feed piece) ≡ unchanged 2 d

-- A buffer that is too short will do for no call, whatever the others are.
pub record ShortRefused (keys : KeyRing) (uri : List ℕ) (d : Configuration) (r : Request) : Type 0 where
  pub head : length d.head < head_limit → called keys uri d r ≡ unchanged 2 d
  pub block : length d.block < block_limit → called keys uri d r ≡ unchanged 2 d
  pub question : length d.question < head_limit → called keys uri d r ≡ unchanged 2 d

-- And it hands out nothing, whatever the reader.
abbrev pub ShortBlock : Type 0
ShortBlock = (d : Configuration) → length d.block < block_limit → block_seen d ≡ []

abbrev pub ShortHead : Type 0
ShortHead = (d : Configuration) (name : List ℕ) → length d.head < head_limit → (value_seen d name ≡ []) × (count_seen d name ≡ 0)
