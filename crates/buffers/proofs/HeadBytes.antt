-- What a byte of the head leaves: it is gathered in the head buffer, and a good head writes its question. Assumes nothing.
use mathlib.Core.Path.{◌≡◌, refl, ap}
use mathlib.Core.Bool.{Bool, true, false}
use mathlib.Core.List.{List, [], ◌∷◌, ◌++◌}
use Prim.Native.Nat.{ℕ, zero, suc, ◌+◌, ◌≤◌, ◌<◌}
use native.Mathlib.Omega.{arith}
use borrow.Author.Tests.{ne_eqb, le-leb, lt-leb}
use lib.Dec.{leb, eqb}
use lib.ListN.{length, set}
use Rattle.octets.specs.Choice.{pick}
use Rattle.sections.proofs.Marks.{mark_of, ruling_on, gathered_on, move}
use Rattle.stream.specs.Buffers.{Buffers, front, into_head, with_section, with_message, pending, effects}
use Rattle.stream.specs.Head.{head_of, signing_string, trusted_by, head_fault, is_whole_head}
use Rattle.stream.specs.Limits.{head_limit}
use Rattle.stream.specs.Lines.{Field}
use Rattle.stream.specs.Places.{head_place}
use Rattle.stream.specs.Ring.{number_of}
use Rattle.stream.specs.Stream.{is_whole, unless_broken, head_question, accept_head, judge, judge_head, rules}
use Rattle.stream.specs.Stream as C
use Rattle.stream.specs.Terms.{Terms}
use Rattle.judging.specs.Judgement.{head_judged, none_asked, judged}
use Rattle.judging.specs.Judgement as J
use Rattle.state.specs.Configuration.{Configuration, configuration, in_phase, on}
use Rattle.state.specs.declared.phase.Phase.TheVariants as P
use Rattle.head_steps.specs.HeadByte.{head_answered, judged_at, head_gathered, push_head}
use Rattle.agreement.proofs.Stands.{Gathered, Lent}
use Rattle.agreement.proofs.Gathering.{gather, short, at_most}
use Rattle.buffers.specs.Left.{buffers, buffers_in}
use Rattle.buffers.proofs.Fronts.{head_more}
use Rattle.buffers.proofs.Leaves.{Left, after_next, refuses}

module _ (terms : Terms) (fields : List Field) (d : Configuration) (x : ℕ) (lent : Lent d fields) (b : Buffers) (have : ℕ) (g : List ℕ) where
  abbrev l : List ℕ
  l = g ++ x ∷ []

  abbrev d' : Configuration
  d' = configuration (in_phase d.reader (P.Head (have + 1))) (set d.head have x) d.block d.question

  abbrev message : List ℕ
  message = signing_string (head_of l)

  asked_left : buffers_in d' ≡ into_head l b
      → Left terms (after_next (judged_at d' (have + 1) (J.asked (number_of (trusted_by terms.ring (head_of l))) (head_of l) d.question)))
      (mark_of (ruling_on (rules terms) effects C.head l (accept_head terms.ring (head_of l)) (into_head l b)))
  unfolding head_answered J.asked accept_head head_question with_message pending
  asked_left f =
      let w = ap (λ (t : Buffers). front message t.question) f in
      record { same = λ i. buffers (f i).head (f i).block (w i); waits = refl }

  answered : (fault : ℕ) → length l ≤ length d.question → buffers_in d' ≡ into_head l b
      → Left terms
      (after_next
      (judged_at d' (have + 1)
      (pick (eqb fault 0)
      (pick (leb (length l) (length d.question)) (J.asked (number_of (trusted_by terms.ring (head_of l))) (head_of l) d.question) (judged (none_asked 3 l) d.question))
      (judged (none_asked fault l) d.question))))
      (mark_of (ruling_on (rules terms) effects C.head l (unless_broken fault (head_place l) (accept_head terms.ring (head_of l))) (into_head l b)))
  unfolding head_answered pending
  answered zero m f = rw (le-leb (length l) (length d.question) m) (asked_left f)
  answered (suc n) m f = rw (ne_eqb (suc n) 0 (λ e. omega arith)) (refuses d' (into_head l b) f _ 0 C.head l refl (omega arith))

  by : (t : Bool) → length l ≤ length d.question → buffers_in d' ≡ into_head l b
      → Left terms (after_next (pick t (judged_at d' (have + 1) (head_judged terms l d.question)) (on d')))
      (mark_of (gathered_on (rules terms) effects t C.head l b))
  unfolding rules judge judge_head head_judged with_section
  by true m f = answered (head_fault terms l) m f
  by false m f = record { same = f; waits = tt }

  pub head_leaves : Gathered d.head have g → is_whole C.head g ≡ false → buffers_in d ≡ with_section C.head g b
      → Left terms (after_next (push_head terms d have x)) (mark_of (move (rules terms) effects C.head g b x))
  unfolding push_head head_gathered move rules is_whole with_section
  head_leaves a e f =
      let m : have < head_limit = rw a.count at (short C.head g e) in
      let h : have < length d.head = omega (arith, lent.head) in
      let c = gather d.head g have x a h in
      let n : length l ≤ length d.question = omega (arith, at_most C.head g x e, lent.question) in
      rw (lt-leb (length d.head) have h, c.bytes)
      (by (is_whole_head l) n (head_more (buffers_in d) b g have x f a.count h))
