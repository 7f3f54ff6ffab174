-- AN HONEST SHOW DOES COME OUT (demands 2 and 3): the theorem that an honest stream comes out whole, once a last word has come,
-- speaks of something. However the stream of an honest show is cut, the ordinary caller, with a yes to each question, hands all of it
-- over and hears *closed*, or *complete* where the show claims an end. Assumes nothing.
use mathlib.Core.Path.{◌≡◌, refl, sym, ap, ◌∙◌}
use mathlib.Core.Bool.{Bool, true, false}
use mathlib.Core.List.{List, [], ◌∷◌, ◌++◌, append_assoc, append-nil}
use Prim.Native.Nat.{ℕ, suc, ◌+◌}
use native.Mathlib.Omega.{arith}
use lib.ListN.{length, take, replicate, length-replicate}
use lib.Seq.{take-append_seam}
use Rattle.sections.specs.Reading.{question, last, Log}
use Rattle.sections.specs.Resuming.{events}
use Rattle.sections.proofs.Invariant.{standing_snoc}
use Rattle.stream.specs.Events.{Question, Release, LastWord}
use Rattle.stream.specs.Stream.{head, rules, plain_reading}
use Rattle.stream.specs.Terms.{Terms}
use Rattle.stream.specs.Head.{head_of}
use Rattle.exactness.specs.Beginning.{Beginning, opening, onward, blocks, questions, with_end}
use Rattle.exactness.specs.ShowEvents.{good_word, end_events, show_events}
use Rattle.exactness.specs.Shows.{Sending, body_of, stream_of, Honest, claims_end, yeses_of, beginning_of}
use Rattle.exactness.specs.Telling.{log_of, end_asks}
use Rattle.exactness.proofs.Completeness.{show_complete}
use Rattle.exactness.proofs.HonestShows.{show_written, show_blocks}
use Rattle.exactness.proofs.ShowLogs.{show_ending, show_log}
use Rattle.reaching.specs.Arrival.{questions_in, Finishes, EndsAt, closes, tells, asks}
use Rattle.reaching.specs.Outcome.{show_calls, show_outs, ComesOut}
use Rattle.reaching.proofs.Finishing.{caller_finishes, caller_takes_all}

first_of : (n : ℕ) (a : Bool) (others : List Bool) → take n (replicate n a ++ others) ≡ replicate n a
first_of n a others = rw (length-replicate {A = Bool} n a) at (take-append_seam (replicate n a) others)

closing_questions : {whole n : ℕ} {log : Log Question Release LastWord} → EndsAt whole n log → questions_in log ≡ n
unfolding questions_in
closing_questions closes = refl
closing_questions (tells k) = closing_questions k
closing_questions (asks k) = ap (λ (m : ℕ). suc m) (closing_questions k)

module _ (terms : Terms) where
  -- ---- the events of a show close at its end

  log_closing : {end n : ℕ} (w : Beginning) (log : Log Question Release LastWord) → EndsAt end n log
      → EndsAt end (questions w + n) (log_of terms.ring w ++ log)
  unfolding log_of blocks
  log_closing {n} (opening h l) log k = let e : 1 + n ≡ suc n = omega arith in rw e (asks (tells k))
  log_closing {n} (onward w b l) log k =
      let e : suc (suc (blocks w)) + n ≡ suc (blocks w) + suc n = omega arith in
      rw (e, append_assoc (log_of terms.ring w)) (log_closing {n = suc n} w _ (asks (tells k)))

  -- the events of a show: those of its beginning, and those of its end
  show_events_lem : (s : Sending) → Honest terms s
      → log_of terms.ring (beginning_of s) ++ end_events terms.ring s (length (stream_of s)) (claims_end s) ≡ show_events terms.ring s
  show_events_lem s h = rw (← show_log terms s h, ← show_written s) (ap (λ (x : Log Question Release LastWord). log_of terms.ring (beginning_of s) ++ x) (sym (show_ending terms s)))

  -- a question about the end, where one is claimed, and the last word
  end_closing : (s : Sending) (at : ℕ) (x : Bool) → EndsAt at (with_end x 0) (end_events terms.ring s at x)
  end_closing s at true = asks closes
  end_closing s at false = closes

  with_end_lem : (x : Bool) (n m : ℕ) → n ≡ m → n + with_end x 0 ≡ with_end x m
  with_end_lem true n m e = omega arith
  with_end_lem false n m e = omega arith

  show_closing : (s : Sending) → Honest terms s → EndsAt (length (stream_of s)) (yeses_of s) (show_events terms.ring s)
  show_closing s h =
      let e = with_end_lem (claims_end s) (questions (beginning_of s)) (suc (length s.chunks)) (ap suc (show_blocks s)) in
      rw (← show_events_lem s h, ← e) (log_closing (beginning_of s) _ (end_closing s (length (stream_of s)) (claims_end s)))

  -- what comes before the last word
  abbrev before_last : Sending → Bool → Log Question Release LastWord
  before_last s true = log_of terms.ring (beginning_of s) ++ (length (stream_of s), question (end_asks terms.ring (head_of s.head) s.trailer)) ∷ []
  before_last s false = log_of terms.ring (beginning_of s)

  last_apart : (s : Sending) (x : Bool)
      → log_of terms.ring (beginning_of s) ++ end_events terms.ring s (length (stream_of s)) x
      ≡ before_last s x ++ (length (stream_of s), last (good_word x (length (body_of s.chunks)))) ∷ []
  last_apart s true = sym (append_assoc (log_of terms.ring (beginning_of s)) _ _)
  last_apart s false = refl

  show_read : (s : Sending) (others : List Bool) → Honest terms s
      → plain_reading terms (stream_of s) (replicate (yeses_of s) true ++ others) true ≡ show_events terms.ring s
  show_read s others h = rw (append-nil (stream_of s)) at (show_complete terms s [] others true h)

  -- EVERY HONEST SHOW IS REACHED, however its stream is cut, and whatever answers would follow.
  pub honest_reached : (s : Sending) (lengths : List ℕ) (others : List Bool) → Honest terms s
      → ComesOut terms s (show_calls terms lengths others s) (show_outs terms lengths others s)
  unfolding plain_reading
  honest_reached s lengths others h =
      let n = yeses_of s in
      let yeses : List Bool = replicate n true in
      let f : Finishes (rules terms) head (stream_of s) (yeses ++ others) (show_calls terms lengths others s) (show_outs terms lengths others s) =
      caller_finishes (rules terms) head lengths (yeses ++ others) (stream_of s) in
      let k : EndsAt (length (stream_of s)) n (plain_reading terms (stream_of s) (yeses ++ others) true) = rw (show_read s others h) (show_closing s h) in
      let word : LastWord = good_word (claims_end s) (length (body_of s.chunks)) in
      let l : events (show_outs terms lengths others s) ≡ before_last s (claims_end s) ++ (length (stream_of s), last word) ∷ [] =
      f.all_events ∙ show_read s others h ∙ sym (show_events_lem s h) ∙ last_apart s (claims_end s) in
      record {
        resumes = f.resumes;
        took = caller_takes_all (rules terms) head lengths (yeses ++ others) (stream_of s) n k;
        yeses = f.answered ∙ rw (closing_questions k) (first_of n true others);
        all_events = f.all_events ∙ show_read s others h;
        before_last = before_last s (claims_end s);
        then_last = l;
        is_over = rw l (standing_snoc (before_last s (claims_end s)) (length (stream_of s)) (last word));
      }
