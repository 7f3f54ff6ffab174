-- EXACTNESS (demand 2): what the plain reading tells is just what the rules of the paper say, no more and no less.
-- Assumes nothing.
use mathlib.Core.Bool.{Bool}
use mathlib.Core.List.{List}
use mathlib.Core.Logic.{◌↔◌}
use mathlib.Core.Path.{sym}
use Prim.Native.Nat.{ℕ}
use Rattle.sections.specs.Reading.{message}
use Rattle.sections.specs.Resuming.{Begins}
use Rattle.stream.specs.Events.{Release, head_accepted, block}
use Rattle.stream.specs.Lines.{Field}
use Rattle.stream.specs.Stream.{plain_reading}
use Rattle.stream.specs.Terms.{Terms}
use Rattle.exactness.specs.Beginning.{onward}
use Rattle.exactness.specs.Releases.{AcceptsHead, ReleasesBlock}
use Rattle.exactness.specs.Telling.{StreamEvent, Due, Expected, on_time, Stands, log_of}
use Rattle.exactness.proofs.Backward.{stands_expected}
use Rattle.exactness.proofs.Forward.{reading_good}
use Rattle.exactness.proofs.Released.{due_block, block_due, due_head, head_due}
use Rattle.exactness.proofs.Standing.{expected_stands}

module _ (terms : Terms) where
  -- EVERY EVENT. An event stands in the plain reading of the stream S, at the place `at`, exactly when it is expected there: when
  -- a beginning of S that ends there decides it by the rules and the answers begin with the yeses that it needs; or, of the
  -- refusals, when the answer to a question is no, or the end was told in an unfinished stream.
  pub exactness : (S : List ℕ) (answers : List Bool) (told : Bool) (at : ℕ) (e : StreamEvent)
      → Stands (at, e) (plain_reading terms S answers told) ↔ Expected terms S answers told at e
  exactness S answers told at e = (stands_expected terms S answers told at e, expected_stands terms S answers told at e)

  -- what is handed out is never expected for another reason
  release_due : {S : List ℕ} {answers : List Bool} {told : Bool} {at : ℕ} (e : Release) → Expected terms S answers told at (message e)
      → Due terms S answers at (message e)
  release_due e (on_time d) = d

  -- A BLOCK stands there exactly when the bytes up to its place split as the rules say, with this block as the last, at this
  -- offset, and each answer so far was yes.
  pub block_exact : (S : List ℕ) (answers : List Bool) (told : Bool) (at o : ℕ) (b : List ℕ)
      → Stands (at, message (block o b)) (plain_reading terms S answers told) ↔ ReleasesBlock terms S answers at o b
  block_exact S answers told at o b = (
    λ s. due_block terms S answers at o b (release_due _ ((exactness S answers told at _).0 s)),
    λ r. (exactness S answers told at _).1 (on_time (block_due terms S answers at o b r)),
  )

  -- All that the reading tells up to that block are the events of the good beginning: by turns a question and what a yes to it
  -- gives. So the question before the block, at the same place, is about this block's message and the signature in its line.
  pub block_after_lem : (S : List ℕ) (answers : List Bool) (told : Bool) (at o : ℕ) (b : List ℕ) (r : ReleasesBlock terms S answers at o b)
      → Begins (log_of terms.ring (onward r.before b r.line)) (plain_reading terms S answers told)
  block_after_lem S answers told at o b r =
      rw (← r.stream, ← r.granted)
      record { rest = _; joined = sym (reading_good terms (onward r.before b r.line) r.rest r.others told r.good) }

  -- *Head accepted* stands there exactly when a good head of that status and those signed fields ends there, and the first
  -- answer was yes.
  pub head_exact : (S : List ℕ) (answers : List Bool) (told : Bool) (at status : ℕ) (fields : List Field)
      → Stands (at, message (head_accepted status fields)) (plain_reading terms S answers told) ↔ AcceptsHead terms S answers at status fields
  head_exact S answers told at status fields = (
    λ s. due_head terms S answers at status fields (release_due _ ((exactness S answers told at _).0 s)),
    λ r. (exactness S answers told at _).1 (on_time (head_due terms S answers at status fields r)),
  )
