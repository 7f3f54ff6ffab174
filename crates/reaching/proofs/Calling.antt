-- For every protocol, stream and answers, and however the stream is cut: the ordinary caller's calls run their course. Assumes nothing.
use mathlib.Core.Path.{◌≡◌, refl}
use mathlib.Core.Bool.{Bool, true, false}
use mathlib.Core.List.{List, [], ◌∷◌, ◌++◌, append_assoc, append-nil}
use Prim.Native.Nat.{ℕ, zero, suc, ◌+◌, ◌*◌, ◌≤◌, ◌<◌}
use native.Mathlib.Omega.{arith}
use lib.ListN.{length, drop, length-append, take-append-drop}
use lib.Seq.{drop-append_seam}
use Rattle.sections.specs.Reading.{Grant, granted, final, Rules}
use Rattle.sections.specs.Calls.{feed, answer, Call, call}
use Rattle.sections.specs.Machine.{State, running, asked, finished, Turn, fed, replied, respond, turn, run_from, run_calls}
use Rattle.sections.specs.Resuming.{Begins, heard}
use Rattle.sections.proofs.Pieces.{feed_takes_one}
use Rattle.sections.proofs.States.{stands}
use Rattle.reaching.specs.Caller.{next_piece, other_lengths, after_word, hand_over, requests_over}
use Rattle.reaching.specs.Driver.{well_lent, turns, calls_over}
use Rattle.reaching.proofs.Feeds.{says_message, says_last, leaves_after, Brought, brought, brought_heard, feeds}
use Rattle.reaching.proofs.Course.{Course, stopped, unanswered, end_first, feed_first, answer_first}

module _ {C Q E L : Type 0} (R : Rules C Q E L) where
  -- ---- how many calls may be needed

  -- two for each length and each byte, one for the end, and one for the answer to an open question
  abbrev work : State C E L → List ℕ → List ℕ → ℕ
  work (running c g) lengths left = 1 + 2 * (length lengths + length left)
  work (asked y) lengths left = 2 + 2 * (length lengths + length left)
  work finished lengths left = 0

  work_most : (s : State C E L) (lengths left : List ℕ) → work s lengths left ≤ 2 + 2 * (length lengths + length left)
  work_most (running c g) lengths left = omega arith
  work_most (asked y) lengths left = omega arith
  work_most finished lengths left = omega arith

  -- the next piece is a beginning of what is left
  piece_begins : (lengths left : List ℕ) → Begins (next_piece lengths left) left
  piece_begins [] left = record { rest = []; joined = append-nil left }
  piece_begins (n ∷ lengths) left = record { rest = drop n left; joined = take-append-drop n left }

  -- a feed uses up a length, or else takes a byte
  feed_uses : (lengths : List ℕ) (c : C) (g : List ℕ) (b : ℕ) (bs : List ℕ) → heard (fed R c g (next_piece lengths (b ∷ bs))).0.0 ≡ true
      → length (other_lengths lengths) < length lengths + (fed R c g (next_piece lengths (b ∷ bs))).0.1
  unfolding respond turn
  feed_uses [] c g b bs h = let e = feed_takes_one R (running c g) true b bs h in omega (arith, e)
  feed_uses (m ∷ lengths) c g b bs h = omega arith

  -- ---- the calls, one after the other

  -- with so many calls allowed, or fewer needed
  abbrev Enough : ℕ → Type 0
  Enough k = (s : State C E L) (lengths : List ℕ) (answers : List Bool) (left : List ℕ) → work s lengths left ≤ k
      → Course R s answers left (well_lent (hand_over (turns R) k s (stands s) lengths answers left))
      (run_from R s (well_lent (hand_over (turns R) k s (stands s) lengths answers left)))

  -- the calls after a turn t, where `left` was left before it
  abbrev calls_after : ℕ → Turn C Q E L → List ℕ → List Bool → List ℕ → List Call
  calls_after k t lengths answers left = well_lent (hand_over (turns R) k t.1 (after_word t.0.0) lengths answers (drop t.0.1 left))

  fed_course : (k : ℕ) → Enough k → (c : C) (g : List ℕ) (used : ℕ) (lengths : List ℕ) (answers : List Bool) (piece rest : List ℕ) (t : Turn C Q E L)
      → Brought R c g piece rest t → length lengths < used + t.0.1 → 2 * (used + length (piece ++ rest)) ≤ k
      → Course R (running c g) answers (piece ++ rest) (call true (feed piece) ∷ calls_after k t lengths answers (piece ++ rest))
      (t.0 ∷ run_from R t.1 (calls_after k t lengths answers (piece ++ rest)))
  fed_course k ih c g used lengths answers piece rest t (brought f r {w} {s} p x law) u m =
      let e : drop (length f) (piece ++ rest) ≡ r ++ rest = rw (← p, append_assoc f r rest) (drop-append_seam f (r ++ rest)) in
      let l : length (piece ++ rest) ≡ length f + length (r ++ rest) = rw (← p, append_assoc f r rest) (length-append f (r ++ rest)) in
      let i : work s lengths (r ++ rest) ≤ k = omega (arith, work_most s lengths (r ++ rest), l) in
      rw (e, leaves_after x) (feed_first R c g f r piece rest answers p x law (ih s lengths answers (r ++ rest) i))

  yes_course : (k : ℕ) → Enough k → (lengths : List ℕ) (answers : List Bool) (left : List ℕ) (y : Grant C E L) → 1 + 2 * (length lengths + length left) ≤ k
      → Course R (asked y) (true ∷ answers) left (call true (answer true) ∷ calls_after k (replied y) lengths answers left)
      ((replied y).0 ∷ run_from R (replied {Q = Q} y).1 (calls_after k (replied y) lengths answers left))
  yes_course k ih lengths answers left (granted e c) m =
      answer_first R (granted e c) true answers left (says_message {g = []}) (λ at. refl) (ih (running c []) lengths answers left m)
  yes_course k ih lengths answers left (final l) m =
      answer_first R (final l) true answers left says_last (λ at. refl) (ih finished lengths answers left (omega arith))

  no_call : Enough 0
  unfolding well_lent hand_over run_from
  no_call (running c g) lengths answers left m = absurd (omega arith)
  no_call (asked y) lengths answers left m = absurd (omega arith)
  no_call finished lengths answers left m = stopped R answers left

  one_call : (k : ℕ) → Enough k → Enough (suc k)
  unfolding well_lent hand_over run_from respond turn
  one_call k ih (running c g) lengths answers [] m = end_first R c g answers (ih finished lengths answers [] (omega arith))
  one_call k ih (running c g) lengths answers (b ∷ bs) m =
      let q = piece_begins lengths (b ∷ bs) in
      let t = feeds R (next_piece lengths (b ∷ bs)) q.rest c g in
      rw q.joined at
      (fed_course k ih c g (length lengths) (other_lengths lengths) answers (next_piece lengths (b ∷ bs)) q.rest
      (fed R c g (next_piece lengths (b ∷ bs))) t (feed_uses lengths c g b bs (brought_heard R t)) (rw q.joined (omega arith)))
  one_call k ih (asked y) lengths [] left m = unanswered R y left
  one_call k ih (asked y) lengths (true ∷ answers) left m = yes_course k ih lengths answers left y (omega arith)
  one_call k ih (asked y) lengths (false ∷ answers) left m =
      answer_first R y false answers left says_last (λ at. refl) (ih finished lengths answers left (omega arith))
  one_call k ih finished lengths answers left m = stopped R answers left

  enough : (k : ℕ) → Enough k
  enough zero = no_call
  enough (suc k) = one_call k (enough k)

  pub caller_course : (start : C) (lengths : List ℕ) (answers : List Bool) (S : List ℕ)
      → Course R (running start []) answers S (calls_over R start lengths answers S) (run_calls R start (calls_over R start lengths answers S))
  unfolding requests_over run_calls
  caller_course start lengths answers S = enough _ (running start []) lengths answers S (omega arith)
