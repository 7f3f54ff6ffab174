-- What a byte of the trailer leaves: it is gathered in the block buffer, and the trailer that is whole with it may ask about the end of the show.
-- Assumes nothing.
use mathlib.Core.Path.{◌≡◌, sym, ap}
use mathlib.Core.Bool.{Bool, true, false}
use mathlib.Core.List.{List, [], ◌∷◌, ◌++◌}
use Prim.Native.Nat.{ℕ, zero, suc, ◌+◌, ◌<◌}
use native.Mathlib.Nat.{le_trans}
use native.Mathlib.Omega.{arith}
use borrow.Author.Tests.{ne_eqb, le-leb, lt-leb}
use lib.ListN.{length, set}
use Rattle.octets.specs.Choice.{pick}
use Rattle.ends.specs.Judgement.{end_answered, end_judged, trailer_judged}
use Rattle.ends.specs.Judgement as J
use Rattle.handing.specs.Handing.{accepted_head}
use Rattle.refusals.specs.Refusals.{placed, plain}
use Rattle.sections.specs.Reading.{ask, stop, final}
use Rattle.sections.proofs.Marks.{mark_of, ruling_on, gathered_on, move}
use Rattle.sha256.specs.Midstate.{summed}
use Rattle.sha256.specs.Sha256.{sha256}
use Rattle.stream.specs.Buffers.{Buffers, front, into_block, with_section, with_message, pending, with_last_word, effects}
use Rattle.stream.specs.Ends.{all_fields, is_checked, ends_in, end_fault, end_string}
use Rattle.stream.specs.Events.{closed, complete, refused}
use Rattle.stream.specs.Limits.{head_limit}
use Rattle.stream.specs.Lines.{Field}
use Rattle.stream.specs.Places.{trailer_place}
use Rattle.stream.specs.Stream.{Show, range, Past, is_whole, unless_broken, judge, end_question, judge_end, judge_trailer, rules}
use Rattle.stream.specs.Stream as C
use Rattle.stream.specs.Terms.{Terms}
use Rattle.stream.specs.Trailer.{is_whole_trailer, is_trailer}
use Rattle.state.specs.Configuration.{Configuration, configuration, in_phase, on}
use Rattle.state.specs.declared.phase.Phase.TheVariants as P
use Rattle.trailer_steps.specs.Trailer.{trailer_answered, judged_at, trailer_gathered, push_trailer}
use Rattle.agreement.proofs.Stands.{Gathered, Keeps, Counts, Lent}
use Rattle.agreement.proofs.Gathering.{gather, short}
use Rattle.agreement.proofs.TrailerSteps.{no_place, judgement_is}
use Rattle.buffers.specs.Left.{buffers, buffers_in}
use Rattle.buffers.proofs.Fronts.{within, block_more}
use Rattle.buffers.proofs.Leaves.{Left, after_next, refuses}

module _ (terms : Terms) (fields : List Field) (d : Configuration) (x : ℕ) (lent : Lent d fields) (none : d.reader.released ≡ 0) (b : Buffers)
    (s : Show) (p : Past) (k : Keeps d.reader.fixed d.head s) (c : Counts d.reader.chain p) (have total : ℕ) (g : List ℕ) where
  abbrev text : List ℕ
  text = g ++ x ∷ []

  abbrev l : List ℕ
  l = accepted_head d.head d.reader.fixed.accepted

  abbrev after : Configuration
  after = configuration (in_phase d.reader (P.Trailer (have + 1) total)) d.head (set d.block have x) d.question

  module _ (a : Gathered after.block (have + 1) text) (f : buffers_in after ≡ into_block text b) where
    module _ (fs : List Field) (hash : List ℕ) where
      abbrev message : List ℕ
      message = end_string s.head (ends_in fs)

      -- the message lies at the front of the question buffer, and the trailer is pending
      asked_left : Left terms (after_next (judged_at after (have + 1) total (J.asked s.head (ends_in fs) d.question)))
          (mark_of (ruling_on (rules terms) effects (C.trailer s p total) text (ask (end_question s fs) (final (complete total))) (into_block text b)))
      unfolding trailer_answered J.asked end_question with_message pending
      asked_left =
          let w = ap (λ (t : Buffers). front message t.question) f in
          record { same = λ i. buffers (f i).head (f i).block (w i); waits = sym a.count }

      fault_left : (fault : ℕ)
          → Left terms (after_next (judged_at after (have + 1) total (end_answered (length l) s.head (ends_in fs) fault d.question)))
          (mark_of
          (ruling_on (rules terms) effects (C.trailer s p total) text (unless_broken fault 0 (ask (end_question s fs) (final (complete total)))) (into_block text b)))
      unfolding end_answered trailer_answered pending
      fault_left zero = rw (le-leb (length l) (length d.question) (le_trans k.head.short lent.question)) asked_left
      fault_left (suc n) =
          rw (ne_eqb (suc n) 0 (λ y. omega arith), no_place (suc n))
          (refuses after (into_block text b) f (plain (suc n)) (have + 1) (C.trailer s p total) text (sym a.count) (within a))

      end_left : (t : Bool)
          → Left terms
          (after_next
          (judged_at after (have + 1) total
          (pick t (end_answered (length l) s.head (ends_in fs) (end_fault s.head fs total hash) d.question) (J.closing d.question))))
          (mark_of
          (ruling_on (rules terms) effects (C.trailer s p total) text
          (elim t [
            | true ↦ unless_broken (end_fault s.head fs total hash) 0 (ask (end_question s fs) (final (complete total)))
            | false ↦ stop (closed total)
          ])
          (into_block text b)))
      unfolding trailer_answered with_last_word
      end_left true = fault_left (end_fault s.head fs total hash)
      end_left false = record { same = f; waits = tt }

    judged_left : (t : Bool)
        → Left terms
        (after_next
        (judged_at after (have + 1) total
        (pick t (end_judged (length l) s.head (all_fields s.head text) total (sha256 p.body) d.question) (J.refusing (placed 6 (trailer_place text)) d.question))))
        (mark_of
        (ruling_on (rules terms) effects (C.trailer s p total) text
        (elim t [
          | true ↦ judge_end s total (sha256 p.body) (all_fields s.head text)
          | false ↦ stop (refused 6 (trailer_place text))
        ])
        (into_block text b)))
    unfolding end_judged judge_end trailer_answered pending
    judged_left true = end_left (all_fields s.head text) (sha256 p.body) (is_checked (range s) (all_fields s.head text))
    judged_left false = refuses after (into_block text b) f _ (have + 1) (C.trailer s p total) text (sym a.count) (within a)

    trailer_by : (t : Bool)
        → Left terms (after_next (pick t (judged_at after (have + 1) total (trailer_judged l text total (summed d.reader.chain.body) d.question)) (on after)))
        (mark_of (gathered_on (rules terms) effects t (C.trailer s p total) text b))
    unfolding rules judge judge_trailer with_section
    trailer_by true = rw (judgement_is terms fields d x lent none s p k c have total g) (judged_left (is_trailer text))
    trailer_by false = record { same = f; waits = tt }

  pub trailer_leaves : Gathered d.block have g → is_whole (C.trailer s p total) g ≡ false → buffers_in d ≡ with_section (C.trailer s p total) g b
      → Left terms (after_next (push_trailer d have total x)) (mark_of (move (rules terms) effects (C.trailer s p total) g b x))
  unfolding push_trailer trailer_gathered move rules is_whole with_section
  trailer_leaves a e f =
      let m : have < head_limit = rw a.count at (short (C.trailer s p total) g e) in
      let h : have < length d.block = omega (arith, lent.block) in
      let q = gather d.block g have x a h in
      rw (lt-leb (length d.block) have h, q.bytes)
      (trailer_by q (block_more (buffers_in d) b g have x f a.count h) (is_whole_trailer text))
