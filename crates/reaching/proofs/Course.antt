-- The ordinary caller's calls of the machine, one after the other: they go on through the stream, their events are its plain reading,
-- and each of its questions takes an answer; and where the reading closes at the stream's end, all is taken. Assumes nothing.
use mathlib.Core.Path.{◌≡◌, refl, sym, ap}
use mathlib.Core.Bool.{Bool, true}
use mathlib.Core.List.{List, [], ◌∷◌, ◌++◌, append_assoc}
use Prim.Native.Nat.{ℕ, suc, ◌+◌}
use native.Mathlib.Nat.{add-zero}
use native.Mathlib.Omega.{arith}
use lib.ListN.{length, take, length-append}
use lib.Seq.{take-append_seam, drop-append_seam}
use Rattle.sections.specs.Reading.{last, Log, Grant, Rules}
use Rattle.sections.specs.Calls.{feed, answer, end, Call, call, Reply, event, Out}
use Rattle.sections.specs.Machine.{State, running, asked, finished}
use Rattle.sections.specs.Resuming.{Resumes, entry, placed, bytes_taken, answers_heard}
use Rattle.sections.proofs.States.{resume}
use Rattle.sections.proofs.Scans.{scan}
use Rattle.reaching.specs.Arrival.{questions_in, EndsAt, closes, tells, asks}
use Rattle.reaching.proofs.Feeds.{Leaves, says_more, says_message, says_question, says_last, leaves_heard}

module _ {C Q E L : Type 0} (R : Rules C Q E L) where
  -- ---- a log that closes

  -- what is still to come of it in the state s, at the place `at`: after a last word nothing, and all is taken
  abbrev Closes : ℕ → ℕ → State C E L → ℕ → Log Q E L → Type 0
  Closes whole n (running c g) at log = EndsAt whole n log
  Closes whole n (asked y) at log = EndsAt whole n log
  Closes whole n finished at log = at ≡ whole

  -- the answers to come, where so many questions are to come: an open one takes one too
  abbrev due : State C E L → ℕ → ℕ
  due (running c g) n = n
  due (asked y) n = suc n
  due finished n = n

  closing_none : {whole n : ℕ} → EndsAt {Q = Q} {E = E} {L = L} whole n [] → ⊥
  closing_none = elim [ ]

  -- after a word
  closing_on : {whole n : ℕ} (at : ℕ) {w : Reply Q E L} {s : State C E L} (log : Log Q E L) → Leaves w s → EndsAt whole n (entry at w ++ log)
      → (m : ℕ) × Closes whole m s at log
  closing_on {n} at log says_more k = (n, k)
  closing_on {n} at log says_message (tells k) = (n, k)
  closing_on at log says_question (asks {n} k) = (n, k)
  closing_on at log says_last closes = (0, refl)

  questions_on : (at : ℕ) {w : Reply Q E L} {s : State C E L} (log : Log Q E L) → Leaves w s → questions_in (entry at w ++ log) ≡ due s (questions_in log)
  unfolding questions_in
  questions_on at log says_more = refl
  questions_on at log says_message = refl
  questions_on at log says_question = refl
  questions_on at log says_last = refl

  none_left : (at whole : ℕ) (left : List ℕ) → at + length left ≡ whole → at ≡ whole → [] ≡ left
  none_left at whole [] p e = refl
  none_left at whole (b ∷ left) p e = absurd (omega arith)

  -- ---- the calls

  -- The calls ks, which returned os, from the state s, with `left` of the stream not taken and these answers left.
  pub record Course (s : State C E L) (answers : List Bool) (left : List ℕ) (ks : List Call) (os : List (Out Q E L)) : Type 0 where
    pub resumes : Resumes left ks os
    pub reads : (at : ℕ) → placed at os ≡ resume R s at left answers true
    pub took : (at whole n : ℕ) → at + length left ≡ whole → Closes whole n s at (placed at os) → bytes_taken ks os ≡ left
    pub answered : (at : ℕ) → answers_heard ks os ≡ take (due s (questions_in (placed at os))) answers

  -- after a last word
  pub stopped : (answers : List Bool) (left : List ℕ) → Course finished answers left [] []
  unfolding Resumes placed bytes_taken answers_heard questions_in
  stopped answers left =
      record { resumes = tt; reads = λ at. refl; took = λ at whole n p k. none_left at whole left p k; answered = λ at. refl }

  -- a question without an answer
  pub unanswered : (y : Grant C E L) (left : List ℕ) → Course (asked y) [] left [] []
  unfolding Resumes placed answers_heard questions_in
  unanswered y left =
      record { resumes = tt; reads = λ at. refl; took = λ at whole n p k. absurd (closing_none k); answered = λ at. refl }

  -- the end, and then the other calls
  pub end_first : (c : C) (g : List ℕ) (answers : List Bool) {ks : List Call} {os : List (Out Q E L)} → Course finished answers [] ks os
      → Course (running c g) answers [] (call true end ∷ ks) ((event (last R.unfinished), 0) ∷ os)
  unfolding Resumes placed bytes_taken answers_heard scan questions_in
  end_first c g answers {ks} {os} k =
      record {
        resumes = (refl, k.resumes);
        reads = λ at. rw (add-zero at, k.reads at);
        took = λ at whole n q z.
            let (m, i) = closing_on (at + 0) {s = finished} (placed (at + 0) os) says_last z in
            k.took (at + 0) whole m (rw (add-zero at) q) i;
        answered = λ at. k.answered (at + 0);
      }

  -- a feed that takes f, and then the other calls
  pub feed_first : (c : C) (g f r piece rest : List ℕ) (answers : List Bool) {w : Reply Q E L} {s : State C E L} {ks : List Call} {os : List (Out Q E L)}
      → f ++ r ≡ piece → Leaves w s
      → ((at : ℕ) (xs : List Bool) → scan R c g at (piece ++ rest) xs true ≡ entry (at + length f) w ++ resume R s (at + length f) (r ++ rest) xs true)
      → Course s answers (r ++ rest) ks os
      → Course (running c g) answers (piece ++ rest) (call true (feed piece) ∷ ks) ((w, length f) ∷ os)
  unfolding Resumes placed bytes_taken answers_heard
  feed_first c g f r piece rest answers {w} {s} {ks} {os} p x e k =
      let h = leaves_heard x in
      let l : length (piece ++ rest) ≡ length f + length (r ++ rest) = rw (← p, append_assoc f r rest) (length-append f (r ++ rest)) in
      record {
        resumes = rw (h, ← p, append_assoc f r rest, drop-append_seam f (r ++ rest)) (record { rest = rest; joined = append_assoc f r rest }, k.resumes);
        reads = λ at. rw (e at answers, k.reads (at + length f));
        took = λ at whole n q z.
            let (m, y) = closing_on (at + length f) (placed (at + length f) os) x z in
            let i : (at + length f) + length (r ++ rest) ≡ whole = omega (arith, l, q) in
            rw (h, ← p, take-append_seam f r, k.took (at + length f) whole m i y) (sym (append_assoc f r rest));
        answered = λ at. rw (h, questions_on (at + length f) (placed (at + length f) os) x) (k.answered (at + length f));
      }

  -- an answer, which takes no byte, and then the other calls
  pub answer_first : (y : Grant C E L) (a : Bool) (answers : List Bool) (left : List ℕ) {w : Reply Q E L} {s : State C E L} {ks : List Call} {os : List (Out Q E L)}
      → Leaves w s → ((at : ℕ) → resume R (asked y) at left (a ∷ answers) true ≡ entry at w ++ resume R s at left answers true)
      → Course s answers left ks os → Course (asked y) (a ∷ answers) left (call true (answer a) ∷ ks) ((w, 0) ∷ os)
  unfolding Resumes placed bytes_taken answers_heard
  answer_first y a answers left {w} {s} {ks} {os} x e k =
      let h = leaves_heard x in
      record {
        resumes = rw h (tt, k.resumes);
        reads = λ at. rw (add-zero at, e at, k.reads at);
        took = λ at whole n q z.
            let (m, i) = closing_on (at + 0) (placed (at + 0) os) x z in
            rw h (k.took (at + 0) whole m (rw (add-zero at) q) i);
        answered = λ at. rw (h, questions_on (at + 0) (placed (at + 0) os) x) (ap (λ (l : List Bool). a ∷ l) (k.answered (at + 0)));
      }
