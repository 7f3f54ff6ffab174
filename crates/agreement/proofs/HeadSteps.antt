-- A byte of the head, which leads to the head's question. Assumes nothing.
use mathlib.Core.Path.{◌≡◌, refl}
use mathlib.Core.Bool.{Bool, true, false}
use mathlib.Core.List.{List, [], ◌∷◌, ◌++◌}
use Prim.Native.Nat.{ℕ, zero, suc, ◌+◌, ◌≤◌, ◌<◌}
use native.Mathlib.Omega.{arith}
use borrow.Author.Tests.{ne_eqb, le-leb, lt-leb}
use lib.Dec.{leb, eqb}
use lib.ListN.{length, drop, set, length-set}
use lib.Seq.{take-append_seam}
use Rattle.octets.specs.Choice.{pick}
use Rattle.sections.specs.Reading.{question}
use Rattle.sections.specs.Calls.{event}
use Rattle.sections.specs.Machine.{ruling, gathered, step}
use Rattle.params.specs.Injection.{padded}
use Rattle.ranges.specs.Extent.{extent_of}
use Rattle.ranges.proofs.Extents.{range_extent}
use Rattle.stream.specs.Head.{head_of, status_digits, range_of, injection_id, block_size, head_signature, signing_string, trusted_by, head_fault, is_whole_head}
use Rattle.stream.specs.Limits.{head_limit, id_limit}
use Rattle.stream.specs.Lines.{Field}
use Rattle.stream.specs.Numbers.{decimal_value}
use Rattle.stream.specs.Places.{head_place}
use Rattle.stream.specs.Ring.{number_of}
use Rattle.stream.specs.Stream.{is_whole, unless_broken, show_of, head_question, accept_head, judge, judge_head, rules}
use Rattle.stream.specs.Stream as C
use Rattle.stream.specs.Terms.{Terms}
use Rattle.sha256.proofs.Parts.{start_holds}
use Rattle.stream.proofs.SigningSize.{signing_fits}
use Rattle.stream.proofs.SoundJudge.{SoundSays, judge_sound}
use Rattle.handing.proofs.ValueLaws.{handed_none}
use Rattle.judging.specs.Judgement.{head_judged, none_asked, judged}
use Rattle.judging.specs.Judgement as J
use Rattle.state.specs.Configuration.{Configuration, configuration, in_phase, on}
use Rattle.state.specs.declared.phase.Phase.TheVariants as P
use Rattle.state.specs.declared.reader.Reader.{Reader}
use Rattle.state.specs.declared.word.Word.TheVariants as W
use Rattle.head_steps.specs.HeadByte.{asking, fixing, head_answered, judged_at, head_gathered, push_head}
use Rattle.agreement.specs.Run.{word_seen}
use Rattle.agreement.proofs.Stands.{Gathered, Fixes, Lent, Follows}
use Rattle.agreement.proofs.Stands as F
use Rattle.agreement.proofs.Gathering.{gather, short, at_most, still}
use Rattle.agreement.proofs.NextSteps.{front_length}
use Rattle.agreement.proofs.Refusals.{refuses, head_number}

module _ (terms : Terms) (fields : List Field) (d : Configuration) (x : ℕ) (lent : Lent d fields) (none : d.reader.released ≡ 0)
    (early : d.reader.fixed.accepted ≡ 0) (have : ℕ) (g : List ℕ) where
  abbrev l : List ℕ
  l = g ++ x ∷ []

  abbrev d' : Configuration
  d' = configuration (in_phase d.reader (P.Head (have + 1))) (set d.head have x) d.block d.question

  -- no head was accepted, so nothing of it is handed out
  lent' : Lent d' fields
  lent' =
      record {
        head = rw (length-set d.head have x) lent.head;
        block = lent.block;
        question = lent.question;
        line = lent.line;
        handed = let e = lent.handed in rw (early, handed_none (set d.head have x)) (rw (early, handed_none d.head) at e);
      }

  abbrev message : List ℕ
  message = signing_string (head_of l)

  seen-is : (e : Configuration) → length message ≤ length d.question → e.question ≡ message ++ drop (length message) d.question
      → word_seen (W.Question (length message) (number_of (trusted_by terms.ring (head_of l)))) (head_signature (head_of l)) e ≡ event (question (head_question terms.ring (head_of l)))
  unfolding word_seen head_question show_of
  seen-is e f q = rw (q, front_length message d.question f, le-leb (length message) (length d.question) f, take-append_seam message (drop (length message) d.question))

  abbrev asks : Reader
  asks =
      asking d'.reader (have + 1)
      (fixing d'.reader.fixed (record {
        status = decimal_value (status_digits (head_of l));
        size = block_size (head_of l);
        extent = extent_of (range_of (head_of l));
        key = number_of (trusted_by terms.ring (head_of l));
        id = padded id_limit (injection_id (head_of l));
        id_length = length (injection_id (head_of l));
        signature = head_signature (head_of l);
        length = length message;
      }))

  kept : Fixes asks.fixed (show_of terms.ring (head_of l))
  unfolding show_of padded
  kept = record { id = take-append_seam (injection_id (head_of l)) _; size = refl; extent = range_extent (range_of (head_of l)); key = refl }

  question_follows : head_fault terms l ≡ 0 → length l ≤ head_limit → length l ≤ length d.question → SoundSays (accept_head terms.ring (head_of l)) → Gathered (set d.head have x) (have + 1) l
      → Follows terms fields (judged_at d' (have + 1) (J.asked (number_of (trusted_by terms.ring (head_of l))) (head_of l) d.question)) (ruling (accept_head terms.ring (head_of l)))
  unfolding head_answered J.asked accept_head
  question_follows e most m h a =
      F.says (seen-is _ (omega (arith, signing_fits terms l e)) refl) refl
      (record {
        stands =
            F.head_asked {l = l}
            (record {
              bytes = a;
              good = e;
              sound = h.1.1;
              short = most;
              keeps = kept;
              status = refl;
              none = record { blocks = refl; hash = refl; body = start_holds };
              taken = none;
            });
        lent = still lent' _ refl refl refl (front_length message d.question (omega (arith, signing_fits terms l e))) refl;
        taken = none;
      })

  answered : (fault : ℕ) → head_fault terms l ≡ fault → SoundSays (unless_broken fault (head_place l) (accept_head terms.ring (head_of l))) → length l ≤ head_limit → length l ≤ length d.question
      → Gathered (set d.head have x) (have + 1) l
      → Follows terms fields
      (judged_at d' (have + 1)
      (pick (eqb fault 0)
      (pick (leb (length l) (length d.question)) (J.asked (number_of (trusted_by terms.ring (head_of l))) (head_of l) d.question) (judged (none_asked 3 l) d.question))
      (judged (none_asked fault l) d.question)))
      (ruling (unless_broken fault (head_place l) (accept_head terms.ring (head_of l))))
  unfolding head_answered
  answered zero e h most m a = rw (le-leb (length l) (length d.question) m) (question_follows e most m h a)
  answered (suc n) e h most m a = rw (ne_eqb (suc n) 0 (λ e. omega arith)) (refuses _ 0 d' (head_number terms l n e) lent' none)

  by : (t : Bool) → is_whole C.head l ≡ t → length l ≤ head_limit → Gathered (set d.head have x) (have + 1) l
      → Follows terms fields (pick t (judged_at d' (have + 1) (head_judged terms l d.question)) (on d')) (gathered (rules terms) t C.head l)
  unfolding rules judge judge_head head_judged
  by true e m a = answered (head_fault terms l) refl (judge_sound terms C.head l tt e m) m (omega (arith, lent.question)) a
  by false e m a = F.on (record { stands = F.head early a e; lent = lent'; taken = none })

  pub head_step : Gathered d.head have g → is_whole C.head g ≡ false → Follows terms fields (push_head terms d have x) (step (rules terms) C.head g x)
  unfolding push_head head_gathered step rules is_whole
  head_step a e =
      let m : have < head_limit = rw a.count at (short C.head g e) in
      let h : have < length d.head = omega (arith, lent.head) in
      let c = gather d.head g have x a h in
      rw (lt-leb (length d.head) have h, c.bytes) (by (is_whole_head l) refl (at_most C.head g x e) c)
