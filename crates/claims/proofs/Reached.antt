-- RUNS THAT FINISH, proved. Assumes nothing.
use mathlib.Core.Path.{◌≡◌, sym, ap, ◌∙◌}
use mathlib.Core.Bool.{Bool, true}
use mathlib.Core.List.{List, [], ◌++◌, append-nil}
use Prim.Native.Nat.{ℕ}
use lib.Dec.{leb}
use lib.ListN.{replicate}
use Rattle.ring.specs.Keys.{terms_of}
use Rattle.ring.specs.declared.KeyRing.{KeyRing}
use Rattle.sections.specs.Calls.{Request, feed, answer, end}
use Rattle.sections.specs.Machine.{run_calls}
use Rattle.sections.specs.Resuming.{events}
use Rattle.stream.specs.Limits.{ring_limit}
use Rattle.stream.specs.Stream.{head, rules, plain_reading}
use Rattle.agreement.specs.Loans.{have_room, loan_fits}
use Rattle.agreement.specs.Plain.{told_log}
use Rattle.agreement.proofs.Streams.{shown_events}
use Rattle.exactness.specs.Shows.{Sending, stream_of, Honest, yeses_of}
use Rattle.reaching.specs.Driver.{calls_over}
use Rattle.reaching.proofs.SideBySide.{alike_resumes, alike_took, alike_answers, alike_stands}
use Rattle.reaching.proofs.Finishing as Finishing
use Rattle.reaching.proofs.Reaching as Reaching
use Rattle.claims.specs.Ordinary.{ordinary_calls}
use Rattle.claims.specs.Reached.{Reached, ReadToItsEnd, HonestReached, CallerFinishes}
use Rattle.claims.specs.Runs.{words, taken, answers}
use Rattle.claims.proofs.Alongside.{plain_calls_lem, words_alike}
use Rattle.claims.proofs.Demand2.{honest_comes_out}
use Rattle.claims.proofs.Demand3.{demand_3}

module _ (keys : KeyRing) (uri h b q : List ℕ) (room : have_room h b q ≡ true) (few : leb keys.count ring_limit ≡ true) where
  one_fits : (r : Request) → loan_fits h b q keys r ≡ true
  unfolding loan_fits
  one_fits (feed piece) = rw (few, room)
  one_fits (answer good) = rw room
  one_fits end = rw room

  finishes : (lengths : List ℕ) (given : List Bool) (stream : List ℕ)
      → ReadToItsEnd keys uri h b q (ordinary_calls keys uri h b q lengths given stream) stream given
  unfolding plain_reading
  finishes lengths given stream =
      let ks = ordinary_calls keys uri h b q lengths given stream in
      let m = Finishing.caller_finishes (rules (terms_of keys uri)) head lengths given stream in
      let p = plain_calls_lem keys uri h b q one_fits lengths given stream in
      let a = words_alike keys uri h b q one_fits lengths given stream in
      let e : events (words keys uri h b q ks) ≡ told_log (events (run_calls (rules (terms_of keys uri)) head (calls_over (rules (terms_of keys uri)) head lengths given stream))) =
      rw ((demand_3 keys uri h b q ks).each_call, p) (shown_events (terms_of keys uri) _) in
      record {
        resumes = rw p (alike_resumes stream _ a m.resumes);
        all_events = e ∙ ap told_log m.all_events;
        answered = rw p (alike_answers _ a ∙ m.answered);
        is_over = λ i. alike_stands 0 a ∙ m.is_over i;
      }

  reached : (s : Sending) (lengths : List ℕ) (others : List Bool) → Honest (terms_of keys uri) s
      → Reached keys uri h b q (ordinary_calls keys uri h b q lengths (replicate (yeses_of s) true ++ others) (stream_of s)) s
  reached s lengths others g =
      let given = replicate (yeses_of s) true ++ others in
      let ks = ordinary_calls keys uri h b q lengths given (stream_of s) in
      let m = Reaching.honest_reached (terms_of keys uri) s lengths others g in
      let p = plain_calls_lem keys uri h b q one_fits lengths given (stream_of s) in
      let a = words_alike keys uri h b q one_fits lengths given (stream_of s) in
      let t : taken keys uri h b q ks ≡ stream_of s = rw p (alike_took _ a ∙ m.took) in
      let y : answers keys uri h b q ks ≡ replicate (yeses_of s) true = rw p (alike_answers _ a ∙ m.yeses) in
      record {
        resumes = rw p (alike_resumes (stream_of s) _ a m.resumes);
        took = t;
        yeses = y;
        whole = honest_comes_out keys uri h b q ks s [] g t (y ∙ sym (append-nil _));
      }

pub caller_finishes : (keys : KeyRing) (uri h b q : List ℕ) → CallerFinishes keys uri h b q
caller_finishes keys uri h b q room few lengths given stream = finishes keys uri h b q room few lengths given stream

pub honest_reached : (keys : KeyRing) (uri h b q : List ℕ) → HonestReached keys uri h b q
honest_reached keys uri h b q room few s lengths others g = reached keys uri h b q room few s lengths others g
