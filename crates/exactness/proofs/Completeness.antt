-- COMPLETENESS (demand 2): an honest stream comes out whole. Assumes nothing.
use mathlib.Core.Bool.{Bool, true, false}
use mathlib.Core.List.{List, [], ◌∷◌, ◌++◌, append_assoc, append-nil}
use mathlib.Core.Path.{◌≡◌, refl, sym, ap, ◌∙◌}
use Prim.Native.Nat.{ℕ, ◌+◌, ◌-◌, ◌≤◌}
use native.Mathlib.Omega.{arith}
use lib.ListN.{replicate, replicate-append-replicate}
use Rattle.sections.specs.Reading.{question, message, last, Log}
use Rattle.sections.specs.Resuming.{Begins}
use Rattle.sections.proofs.Growing.{reading_grows}
use Rattle.stream.specs.Events.{Question, Release, head_accepted, block, LastWord}
use Rattle.stream.specs.Stream.{head, rules, plain_reading}
use Rattle.stream.specs.Terms.{Terms}
use Rattle.exactness.specs.Beginning.{Beginning, opening, onward, written, head_in, announces, body}
use Rattle.exactness.specs.Good.{Good, GoodTrailer, claims, GoodEnd}
use Rattle.exactness.specs.ShowEvents.{show_events}
use Rattle.exactness.specs.Shows.{Sending, body_of, stream_of, Honest, yeses_of, beginning_of}
use Rattle.exactness.specs.Telling.{head_tells, log_of, end_log, whole_log, whole_yeses, released}
use Rattle.exactness.proofs.Forward.{reading_whole}
use Rattle.exactness.proofs.HonestShows.{show_written, show_body, show_yeses, show_good, show_end}
use Rattle.exactness.proofs.ShowLogs.{show_log}

module _ (terms : Terms) where
  -- AN HONEST STREAM, WHOLE. A good beginning that ends in a 0 line, a good trailer and a good end, or none claimed: a head, any number
  -- of blocks, each of N bytes but the last, lines written in any way that the rules allow, with any signatures. With a yes to each
  -- question the reading is the question and *head accepted*, for each block its question and the block, and *closed*, or the question
  -- about the end and *complete*, each at its place, and nothing else. More answers, further bytes and a told end make no difference.
  pub completeness : (w : Beginning) (t r : List ℕ) (answers : List Bool) (told : Bool) → Good terms w → announces w ≡ 0 → GoodTrailer t
      → GoodEnd (head_in w) (body w) t
      → plain_reading terms (written w ++ t ++ r) (replicate (whole_yeses w t) true ++ answers) told ≡ whole_log terms.ring w t
  completeness w t r answers told g z k e = reading_whole terms w t r answers told g z k e

  released_both : (log more : Log Question Release LastWord) → released (log ++ more) ≡ released log ++ released more
  unfolding released
  released_both [] more = refl
  released_both ((at, question q) ∷ log) more = released_both log more
  released_both ((at, message (head_accepted status fields)) ∷ log) more = released_both log more
  released_both ((at, message (block o b)) ∷ log) more = ap (λ (l : List ℕ). b ++ l) (released_both log more) ∙ sym (append_assoc b (released log) (released more))
  released_both ((at, last l) ∷ log) more = released_both log more

  -- the blocks that are released on the way, joined, are the body so far
  pub released_so_far : (w : Beginning) → released (log_of terms.ring w) ≡ body w
  unfolding log_of released body head_tells
  released_so_far (opening h l) = refl
  released_so_far (onward w b l) = released_both (log_of terms.ring w) _ ∙ rw (append-nil b) (ap (λ (x : List ℕ). x ++ b) (released_so_far w))

  end_releases : (w : Beginning) (t : List ℕ) (x : Bool) → released (end_log terms.ring w t x) ≡ []
  unfolding released
  end_releases w t true = refl
  end_releases w t false = refl

  -- THE BODY. The blocks that an honest stream's reading releases, joined, are its body.
  pub released_body : (w : Beginning) (t : List ℕ) → released (whole_log terms.ring w t) ≡ body w
  released_body w t =
      released_both (log_of terms.ring w) _
      ∙ rw (end_releases w t (claims (head_in w) t), append-nil (released (log_of terms.ring w))) (released_so_far w)

  yeses_split : (n m : ℕ) → n ≤ m → replicate n true ++ replicate (m - n) true ≡ replicate m true
  yeses_split n m h =
      let e : n + (m - n) ≡ m = omega arith in
      replicate-append-replicate n (m - n) true ∙ ap (λ (k : ℕ). replicate k true) e

  -- SO FAR. Where an honest stream has come only in part, and only some of its questions were answered, all with yes, the
  -- reading is a beginning of that.
  pub completeness_so_far : (w : Beginning) (t here later : List ℕ) (yeses : ℕ) → Good terms w → announces w ≡ 0 → GoodTrailer t
      → GoodEnd (head_in w) (body w) t → here ++ later ≡ written w ++ t → yeses ≤ whole_yeses w t
      → Begins (plain_reading terms here (replicate yeses true) false) (whole_log terms.ring w t)
  unfolding plain_reading
  completeness_so_far w t here later yeses g z k good s n =
      let e : plain_reading terms (here ++ later) (replicate yeses true ++ replicate (whole_yeses w t - yeses) true) false ≡ whole_log terms.ring w t =
      rw (s, yeses_split yeses (whole_yeses w t) n)
      (rw (append-nil (written w ++ t), append-nil (replicate (whole_yeses w t) true)) at (completeness w t [] [] false g z k good)) in
      rw (← e) (reading_grows (rules terms) head here later (replicate yeses true) (replicate (whole_yeses w t - yeses) true) false)

  -- EVERY HONEST SHOW COMES OUT WHOLE. Write down a good head, any blocks, each of N bytes but the last of 1 to N, or none, at most
  -- 4,294,967,296 bytes in all, with each size in 1 to 8 hex digits of either case and any 64 bytes for each signature, and a good
  -- trailer, where head and trailer claim no end or a good one; or, of a part of a show (request #104), the blocks that its range says, after the
  -- hash before them: with a yes for the head, for each block and for a claimed end the reading is the list of events computed from what is
  -- sent, and nothing else.
  pub show_complete : (s : Sending) (r : List ℕ) (answers : List Bool) (told : Bool) → Honest terms s
      → plain_reading terms (stream_of s ++ r) (replicate (yeses_of s) true ++ answers) told ≡ show_events terms.ring s
  show_complete s r answers told h =
      let g = show_good terms s h in
      rw (← show_written s, ← show_yeses s, ← show_log terms s h)
      (completeness (beginning_of s) s.trailer r answers told g.0 g.1 h.trailer (show_end terms s h))

  -- and the blocks of these events, joined, are the body that was written down.
  pub show_released : (s : Sending) → Honest terms s → released (show_events terms.ring s) ≡ body_of s.chunks
  show_released s h = rw (← show_log terms s h) (released_body (beginning_of s) s.trailer ∙ show_body s)
