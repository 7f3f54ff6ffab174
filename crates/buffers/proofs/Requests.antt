-- What a feed, an answer and an end leave. Assumes nothing.
use mathlib.Core.Path.{◌≡◌, refl, sym}
use mathlib.Core.Bool.{Bool, true, false}
use mathlib.Core.List.{List}
use Prim.Native.Nat.{ℕ, ◌≤◌}
use native.Mathlib.Omega.{arith}
use lib.ListN.{length}
use Rattle.octets.specs.Choice.{pick}
use Rattle.sections.specs.Calls.{feed, answer, end}
use Rattle.sections.specs.Machine.{running}
use Rattle.sections.proofs.Marks.{midway, waiting, done, state_of}
use Rattle.sections.proofs.Marking.{respond_to}
use Rattle.refusals.specs.Refusals.{plain}
use Rattle.stream.specs.Buffers.{with_section, with_last_word, pending, effects}
use Rattle.stream.specs.Stream.{Context, rules}
use Rattle.stream.specs.Terms.{Terms}
use Rattle.state.specs.Configuration.{Configuration, refuse}
use Rattle.state.specs.Configuration as D
use Rattle.state.specs.declared.phase.Phase.{Phase}
use Rattle.calls.specs.Response.{given, is_reading, unchanged, recalled}
use Rattle.calls.specs.Answer.{answer_at, head_answer, block_answer, end_answer, releasing}
use Rattle.reader.specs.Feed.{taken_from}
use Rattle.agreement.specs.Plain.{Handed}
use Rattle.agreement.proofs.Stands.{At}
use Rattle.agreement.proofs.Stands as F
use Rattle.agreement.proofs.Gathering.{still}
use Rattle.agreement.proofs.Holds.{Holds, reading_phase, asked_phase, finished_phase, stands_back}
use Rattle.buffers.proofs.Fronts.{within}
use Rattle.buffers.proofs.Leaves.{Reached, Waits, Left, begins, refuses}
use Rattle.buffers.proofs.Pieces.{piece_leaves}

module _ (terms : Terms) (h : Handed) (d : Configuration) where
  -- ---- a feed

  pub feed_leaves : (m : Reached) (piece : List ℕ) → Holds terms d h (state_of m) → Left terms d m
      → Left terms (pick (is_reading d.reader.phase) (taken_from terms (recalled d) piece) (unchanged 1 d)).after (respond_to (rules terms) effects m (feed piece))
  unfolding taken_from respond_to
  feed_leaves (midway c g b) piece k l =
      rw (reading_phase k.stands)
      (piece_leaves terms h.signed piece 0 (recalled d) c g b
      (record { stands = stands_back k.stands; lent = still k.lent _ refl refl refl refl refl; taken = refl }) l.same)
  feed_leaves (waiting c t y b) piece k l = rw (asked_phase k.stands) l
  feed_leaves (done b) piece k l = rw (finished_phase k.stands) l

  -- ---- the end

  -- as many bytes are pending as have come
  counted : (p : Phase) (c : Context) (g : List ℕ) → At terms d p (running c g) → D.pending p ≡ pending c g
  unfolding pending
  counted p c g (F.head early a e) = refl
  counted p c g (F.first_line k sound none a e) = refl
  counted p c g (F.block_data k t sound a e) = sym a.count
  counted p c g (F.data_end u a e) = sym u.bytes.count
  counted p c g (F.next_line u a e) = sym u.bytes.count
  counted p c g (F.trailer k t sound a e) = sym a.count

  -- and lie within the buffer
  roomy : (p : Phase) (c : Context) (g : List ℕ) → At terms d p (running c g) → D.pending p ≤ length d.block
  roomy p c g (F.head early a e) = omega arith
  roomy p c g (F.first_line k sound none a e) = omega arith
  roomy p c g (F.block_data k t sound a e) = within a
  roomy p c g (F.data_end u a e) = within u.bytes
  roomy p c g (F.next_line u a e) = within u.bytes
  roomy p c g (F.trailer k t sound a e) = within a

  pub end_leaves : (m : Reached) → Holds terms d h (state_of m) → Left terms d m
      → Left terms (pick (is_reading d.reader.phase) (given 0 (refuse (plain 11) (D.pending d.reader.phase) (recalled d))) (unchanged 1 d)).after (respond_to (rules terms) effects m end)
  unfolding respond_to rules refuse
  end_leaves (midway c g b) k l =
      rw (reading_phase k.stands)
      (refuses (recalled d) (with_section c g b) l.same (plain 11) (D.pending d.reader.phase) c g (counted d.reader.phase c g k.stands) (roomy d.reader.phase c g k.stands))
  end_leaves (waiting c t y b) k l = rw (asked_phase k.stands) l
  end_leaves (done b) k l = rw (finished_phase k.stands) l

  -- ---- an answer

  pub answer_leaves : (p : Phase) (m : Reached) (good : Bool) → At terms d p (state_of m) → Left terms d m → Waits p m
      → Left terms (answer_at p d good).after (respond_to (rules terms) effects m (answer good))
  unfolding answer_at head_answer block_answer end_answer releasing respond_to rules refuse with_last_word
  answer_leaves p (waiting c t y b) true (F.head_asked a) l w = begins _ b l.same _
  answer_leaves p (waiting c t y b) false (F.head_asked a) l w = refuses d b l.same (plain 10) 0 c t w (omega arith)
  answer_leaves p (waiting c t y b) true (F.block_asked a) l w = begins _ b l.same _
  answer_leaves p (waiting c t y b) false (F.block_asked {size} a) l w = refuses d b l.same (plain 10) size c t w (within a.bytes)
  answer_leaves p (waiting c t y b) true (F.end_asked a) l w = record { same = l.same; waits = tt }
  answer_leaves p (waiting c t y b) false (F.end_asked {have} a) l w = refuses d b l.same (plain 10) have c t w (within a.gathered)
  answer_leaves p (midway c g b) good (F.head early a e) l w = l
  answer_leaves p (midway c g b) good (F.first_line k sound none a e) l w = l
  answer_leaves p (midway c g b) good (F.block_data k t sound a e) l w = l
  answer_leaves p (midway c g b) good (F.data_end u a e) l w = l
  answer_leaves p (midway c g b) good (F.next_line u a e) l w = l
  answer_leaves p (midway c g b) good (F.trailer k t sound a e) l w = l
  answer_leaves p (done b) good F.closed l w = l
  answer_leaves p (done b) good F.complete l w = l
  answer_leaves p (done b) good F.refused l w = l
