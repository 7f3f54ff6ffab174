-- A byte of the trailer, which leads to the end of the show. Assumes nothing.
use mathlib.Core.Path.{◌≡◌, refl}
use mathlib.Core.Bool.{Bool, true, false}
use mathlib.Core.List.{List, [], ◌∷◌, ◌++◌}
use Prim.Native.Nat.{ℕ, zero, suc, ◌+◌, ◌≤◌, ◌<◌}
use native.Mathlib.Nat.{le_trans}
use native.Mathlib.Omega.{arith}
use borrow.Author.Tests.{ne_eqb, le-leb, lt-leb}
use lib.ListN.{length, drop, take, set, length-set}
use lib.Seq.{take-append_seam}
use Rattle.octets.specs.Choice.{pick}
use Rattle.ends.specs.Judgement.{Judgement, end_answered, end_judged, trailer_judged}
use Rattle.ends.specs.Judgement as J
use Rattle.handing.specs.Handing.{accepted_head}
use Rattle.refusals.specs.Refusals.{placed, plain}
use Rattle.sections.specs.Reading.{question, ask, stop, final}
use Rattle.sections.specs.Calls.{event}
use Rattle.sections.specs.Machine.{ruling, gathered, step}
use Rattle.sha256.specs.Midstate.{summed}
use Rattle.sha256.specs.Sha256.{sha256}
use Rattle.sha256.proofs.Parts.{summed_is}
use Rattle.stream.specs.Ends.{all_fields, is_checked, ends_in, end_signature, end_fault, end_string}
use Rattle.stream.specs.Events.{closed, complete, refused, place_of, has_place}
use Rattle.stream.specs.Limits.{head_limit}
use Rattle.stream.specs.Lines.{Field}
use Rattle.stream.specs.Places.{trailer_place}
use Rattle.stream.specs.Stream.{Show, range, Past, is_whole, unless_broken, judge, end_question, judge_end, judge_trailer, rules}
use Rattle.stream.specs.Stream as C
use Rattle.stream.specs.Terms.{Terms}
use Rattle.stream.specs.Trailer.{is_whole_trailer, is_trailer}
use Rattle.stream.proofs.EndString.{short_ends, end_fits}
use Rattle.stream.proofs.Sound.{Sound}
use Rattle.state.specs.Configuration.{Configuration, configuration, in_phase, on, moved}
use Rattle.trailer_steps.specs.Trailer.{trailer_answered, judged_at, trailer_gathered, push_trailer}
use Rattle.state.specs.declared.phase.Phase.{Phase}
use Rattle.state.specs.declared.phase.Phase.TheVariants as P
use Rattle.state.specs.declared.word.Word.TheVariants as W
use Rattle.agreement.specs.Run.{word_seen}
use Rattle.agreement.proofs.Stands.{Gathered, Keeps, Counts, Lent, Follows}
use Rattle.agreement.proofs.Stands as F
use Rattle.agreement.proofs.Gathering.{gather, short, still}
use Rattle.agreement.proofs.NextSteps.{front_length}
use Rattle.agreement.proofs.Refusals.{refuses, end_number}

-- a refusal without a place has the place 0
pub no_place : (n : ℕ) → place_of n 0 ≡ 0
no_place n = by (has_place n)
  where
    by : (t : Bool) → pick {A = ℕ} t 0 0 ≡ 0
    by true = refl
    by false = refl

module _ (terms : Terms) (fields : List Field) (d : Configuration) (x : ℕ) (lent : Lent d fields) (none : d.reader.released ≡ 0)
    (s : Show) (p : Past) (k : Keeps d.reader.fixed d.head s) (c : Counts d.reader.chain p) (have total : ℕ) (g : List ℕ) where
  abbrev text : List ℕ
  text = g ++ x ∷ []

  abbrev l : List ℕ
  l = accepted_head d.head d.reader.fixed.accepted

  abbrev after : Configuration
  after = configuration (in_phase d.reader (P.Trailer (have + 1) total)) d.head (set d.block have x) d.question

  lent_after : (q : Phase) → Lent (moved after q) fields
  lent_after q = still lent _ refl refl (length-set d.block have x) refl refl

  module _ (fs : List Field) (hash : List ℕ) where
    abbrev message : List ℕ
    message = end_string s.head (ends_in fs)

    -- the question has room where its head had
    fits : end_fault s.head fs total hash ≡ 0 → length message ≤ length l
    fits e = rw k.head.says at (end_fits l (ends_in fs) k.head.good (short_ends s.head fs total hash e))

    -- and is seen as the reading's
    seen-is : length message ≤ length d.question → (e : Configuration) → e.question ≡ message ++ drop (length message) d.question
        → word_seen (W.Question (length message) d.reader.fixed.key) (end_signature (ends_in fs)) e ≡ event (question (end_question s fs))
    unfolding word_seen end_question
    seen-is m e q =
        let t : take (length message) e.question ≡ message = rw q (take-append_seam message (drop (length message) d.question)) in
        let n : d.reader.fixed.key ≡ s.key_number = k.key in
        rw (q, front_length message d.question m, le-leb (length message) (length d.question) m)
        (λ i. event (question (record { message = rw q at t i; signature = end_signature (ends_in fs); key_number = n i })))

    asks_follows : end_fault s.head fs total hash ≡ 0 → Gathered (set d.block have x) (have + 1) text
        → Follows terms fields (judged_at after (have + 1) total (J.asked s.head (ends_in fs) d.question)) (ruling (ask (end_question s fs) (final (complete total))))
    unfolding J.asked trailer_answered
    asks_follows e a =
        let m : length message ≤ length d.question = le_trans (fits e) (le_trans k.head.short lent.question) in
        F.says (seen-is m _ refl) refl
        (record {
          stands = F.end_asked (record { bytes = text; gathered = a; taken = none });
          lent = still (lent_after (P.EndAsked (have + 1) total)) _ refl refl refl (front_length message d.question m) refl;
          taken = none;
        })

    fault_follows : (fault : ℕ) → end_fault s.head fs total hash ≡ fault → Gathered (set d.block have x) (have + 1) text
        → Follows terms fields (judged_at after (have + 1) total (end_answered (length l) s.head (ends_in fs) fault d.question))
        (ruling (unless_broken fault 0 (ask (end_question s fs) (final (complete total)))))
    unfolding end_answered trailer_answered
    fault_follows zero e a = rw (le-leb (length l) (length d.question) (le_trans k.head.short lent.question)) (asks_follows e a)
    fault_follows (suc n) e a =
        rw (ne_eqb (suc n) 0 (λ y. omega arith), no_place (suc n))
        (refuses (plain (suc n)) (have + 1) after (end_number s.head fs total hash n e) (lent_after (P.Trailer (have + 1) total)) none)

    end_follows : (t : Bool) → Gathered (set d.block have x) (have + 1) text
        → Follows terms fields
        (judged_at after (have + 1) total
        (pick t (end_answered (length l) s.head (ends_in fs) (end_fault s.head fs total hash) d.question) (J.closing d.question)))
        (ruling (elim t [
          | true ↦ unless_broken (end_fault s.head fs total hash) 0 (ask (end_question s fs) (final (complete total)))
          | false ↦ stop (closed total)
        ]))
    unfolding trailer_answered word_seen
    end_follows true a = fault_follows (end_fault s.head fs total hash) refl a
    end_follows false a = F.says refl refl (record { stands = F.closed; lent = lent_after _; taken = none })

  judged_by : (t : Bool) → Gathered (set d.block have x) (have + 1) text
      → Follows terms fields
      (judged_at after (have + 1) total
      (pick t (end_judged (length l) s.head (all_fields s.head text) total (sha256 p.body) d.question) (J.refusing (placed 6 (trailer_place text)) d.question)))
      (ruling (elim t [
        | true ↦ judge_end s total (sha256 p.body) (all_fields s.head text)
        | false ↦ stop (refused 6 (trailer_place text))
      ]))
  unfolding end_judged judge_end trailer_answered
  judged_by true a = end_follows (all_fields s.head text) (sha256 p.body) (is_checked (range s) (all_fields s.head text)) a
  judged_by false a = refuses _ (have + 1) after (omega arith) (lent_after (P.Trailer (have + 1) total)) none

  pub judgement_is : trailer_judged l text total (summed d.reader.chain.body) d.question
      ≡ pick (is_trailer text) (end_judged (length l) s.head (all_fields s.head text) total (sha256 p.body) d.question) (J.refusing (placed 6 (trailer_place text)) d.question)
  unfolding trailer_judged
  judgement_is = rw (k.head.good, k.head.says, summed_is p.body c.body)

  module _ (sound : Sound (C.trailer s p total)) where
    trailer_by : (t : Bool) → is_whole (C.trailer s p total) text ≡ t → Gathered (set d.block have x) (have + 1) text
        → Follows terms fields
        (pick t (judged_at after (have + 1) total (trailer_judged l text total (summed d.reader.chain.body) d.question)) (on after))
        (gathered (rules terms) t (C.trailer s p total) text)
    unfolding rules judge judge_trailer
    trailer_by true e a = rw judgement_is (judged_by (is_trailer text) a)
    trailer_by false e a = F.on (record { stands = F.trailer k c sound a e; lent = lent_after _; taken = none })

    pub trailer_step : Gathered d.block have g → is_whole (C.trailer s p total) g ≡ false
        → Follows terms fields (push_trailer d have total x) (step (rules terms) (C.trailer s p total) g x)
    unfolding push_trailer trailer_gathered step rules is_whole
    trailer_step a e =
        let m : have < head_limit = rw a.count at (short (C.trailer s p total) g e) in
        let h : have < length d.block = omega (arith, lent.block) in
        let b = gather d.block g have x a h in
        rw (lt-leb (length d.block) have h, b.bytes) (trailer_by (is_whole_trailer text) refl b)
