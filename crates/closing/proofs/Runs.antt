-- A run that comes to a good end took the stream of an honest show and no byte more, and heard just its yeses: after the last word no byte
-- is taken, and no answer is heard without a question. Assumes nothing.
use mathlib.Core.Bool.{Bool, true, false}
use mathlib.Core.List.{List, [], ◌∷◌, ◌++◌, append-nil}
use mathlib.Core.Logic.{◌↔◌}
use mathlib.Core.Path.{◌≡◌, refl, sym, ap, ◌∙◌}
use Prim.Native.Nat.{ℕ, suc, ◌+◌, ◌≤◌}
use native.Mathlib.Omega.{arith}
use lib.ListN.{length, replicate, length-append, length-replicate}
use Rattle.sections.specs.Calls.{Call, Out}
use Rattle.sections.specs.Machine.{run_calls}
use Rattle.sections.specs.Reading.{last}
use Rattle.sections.specs.Resuming.{events, bytes_taken, answers_heard, end_heard}
use Rattle.sections.proofs.Afterwards.{last_place}
use Rattle.sections.proofs.Asked.{questions_in, answers_asked}
use Rattle.sections.proofs.Histories.{run_took}
use Rattle.stream.specs.Blocks.{chained}
use Rattle.stream.specs.Events.{Question, Release, LastWord, closed, complete}
use Rattle.stream.specs.Stream.{head, rules, plain_reading}
use Rattle.stream.specs.Terms.{Terms}
use Rattle.exactness.specs.Beginning.{with_end}
use Rattle.exactness.specs.ShowEvents.{line_end, good_word, end_events, chunk_events, show_events}
use Rattle.exactness.specs.Shows.{Chunk, Sending, chunk_line, hashed, stream_of, claims_end, yeses_of, next_digits}
use Rattle.exactness.specs.Telling.{Stands}
use Rattle.exactness.proofs.Completeness.{show_complete}
use Rattle.closing.specs.Closing.{ShowEndsAt, TakesShow}
use Rattle.closing.proofs.Closing.{ends_exact}

-- what is no longer than a beginning of it is just that
just_front : {A : Type 0} (l m k : List A) → l ++ m ≡ k → length k ≤ length l → k ≡ l
just_front l [] k e h = sym e ∙ append-nil l
just_front l (x ∷ m) k e h = absurd (omega (arith, length-append l (x ∷ m), ap length e))

module _ (terms : Terms) where
  -- a question for the head and one for each block, and one about a claimed end
  one_more_lem : (x : Bool) (n m k : ℕ) → k ≡ suc m → suc m ≡ with_end x n → suc k ≡ with_end x (suc n)
  one_more_lem true n m k f e = ap suc (f ∙ e)
  one_more_lem false n m k f e = ap suc (f ∙ e)

  chunks_asked : (s : Sending) (i : ℕ) (before : List ℕ) (at : ℕ) (cs : List Chunk)
      → suc (questions_in (chunk_events terms.ring s i before at cs)) ≡ with_end (claims_end s) (suc (length cs))
  unfolding questions_in chunk_events
  chunks_asked s i before at [] = by (claims_end s)
    where
      by : (x : Bool) → suc (questions_in (end_events terms.ring s (at + length s.trailer) x)) ≡ with_end x 1
      by true = refl
      by false = refl
  chunks_asked s i before at (c ∷ cs) =
      one_more_lem (claims_end s) (suc (length cs)) _ _ (omega arith) (chunks_asked s (suc i) (chained before c.block) (line_end at c cs s.zeros) cs)

  show_asked : (s : Sending) → questions_in (show_events terms.ring s) ≡ yeses_of s
  unfolding questions_in show_events
  show_asked s =
      let at : ℕ = length s.head + length (chunk_line (next_digits s.chunks s.zeros) (hashed s.before)) in
      sym (omega arith) ∙ chunks_asked s 0 s.before at s.chunks

  -- where the reading comes to a good end, it is that of the show
  show_read : {claimed : Bool} (S : List ℕ) (answers : List Bool) (told : Bool) (at total : ℕ) (c : ShowEndsAt terms claimed S answers at total)
      → plain_reading terms S answers told ≡ show_events terms.ring c.show
  show_read S answers told at total c = rw (← c.stream, ← c.granted) (show_complete terms c.show c.rest c.others told c.honest)

  -- where there are no further bytes and answers
  just_show : {claimed : Bool} (taken : List ℕ) (answers : List Bool) (at total : ℕ) (c : ShowEndsAt terms claimed taken answers at total)
      → length taken ≡ at → length answers ≤ yeses_of c.show → TakesShow terms claimed taken answers at total
  just_show taken answers at total c p n =
      let yes : List Bool = replicate (yeses_of c.show) true in
      record {
        show = c.show;
        honest = c.honest;
        end = c.end;
        stream = just_front (stream_of c.show) c.rest taken c.stream (omega (arith, c.place));
        place = c.place;
        body_length = c.body_length;
        yeses = just_front yes c.others answers c.granted (omega (arith, length-replicate (yeses_of c.show) true));
      }

  module _ (ks : List Call) where
    abbrev pub outs : List (Out Question Release LastWord)
    outs = run_calls (rules terms) head ks

    abbrev pub took : List ℕ
    took = bytes_taken ks outs

    abbrev pub heard : List Bool
    heard = answers_heard ks outs

    pub reads : events outs ≡ plain_reading terms took heard (end_heard ks outs)
    unfolding plain_reading
    reads = run_took (rules terms) head ks

    ends_takes : (claimed : Bool) (at total : ℕ) → Stands (at, last (good_word claimed total)) (events outs) → TakesShow terms claimed took heard at total
    ends_takes claimed at total s =
        let c = (ends_exact terms claimed took heard (end_heard ks outs) at total).0 (rw reads at s) in
        let q : questions_in (events outs) ≡ yeses_of c.show =
        ap questions_in (reads ∙ show_read took heard (end_heard ks outs) at total c) ∙ show_asked c.show in
        just_show took heard at total c (sym (last_place (rules terms) head ks s.before s.after at (good_word claimed total) s.joined))
        (omega (arith, q, answers_asked (rules terms) head ks))

    takes_ends : (claimed : Bool) (at total : ℕ) → TakesShow terms claimed took heard at total → Stands (at, last (good_word claimed total)) (events outs)
    takes_ends claimed at total t =
        rw reads
        ((ends_exact terms claimed took heard (end_heard ks outs) at total).1
        (record {
          show = t.show;
          honest = t.honest;
          end = t.end;
          rest = [];
          stream = append-nil (stream_of t.show) ∙ sym t.stream;
          place = t.place;
          body_length = t.body_length;
          others = [];
          granted = append-nil (replicate (yeses_of t.show) true) ∙ sym t.yeses;
        }))

    -- A RUN CLOSES, however the stream is cut, exactly when all that it took is the stream of an honest show that claims no end, and the
    -- answers that it heard are just a yes for the head and for each block.
    pub run_closes : (at total : ℕ) → Stands (at, last (closed total)) (events outs) ↔ TakesShow terms false took heard at total
    run_closes at total = (ends_takes false at total, takes_ends false at total)

    -- A RUN IS COMPLETE exactly when the show claims an end, with one yes more.
    pub run_completes : (at total : ℕ) → Stands (at, last (complete total)) (events outs) ↔ TakesShow terms true took heard at total
    run_completes at total = (ends_takes true at total, takes_ends true at total)
