-- EVERY RUN OF THE ORDINARY CALLER FINISHES, for every protocol: with answers enough it comes to a last word, whatever the stream and
-- however it is cut. So what is said of runs that came to a last word is said of some over each stream. Assumes nothing.
use mathlib.Core.Path.{◌≡◌}
use mathlib.Core.Bool.{Bool, true, false}
use mathlib.Core.List.{List, [], ◌∷◌, ◌++◌}
use Prim.Native.Nat.{ℕ, suc, ◌≤◌}
use native.Mathlib.Omega.{arith}
use lib.ListN.{length}
use Rattle.sections.specs.Reading.{Event, last, Log, Grant, granted, final, Verdict, go, tell, ask, stop, Rules, answered, reading}
use Rattle.sections.specs.Calls.{over, standing}
use Rattle.sections.specs.Machine.{ruling, gathered, step, run_calls}
use Rattle.sections.specs.Resuming.{events, bytes_taken}
use Rattle.sections.proofs.Invariant.{standing_snoc}
use Rattle.sections.proofs.States.{stepped, scan_step}
use Rattle.sections.proofs.Scans.{scan, reading_scan}
use Rattle.reaching.specs.Arrival.{Finishes, EndsAt}
use Rattle.reaching.specs.Driver.{calls_over}
use Rattle.reaching.proofs.Calling.{caller_course}

later_over : {Q E L : Type 0} (x : ℕ × Event Q E L) (log : Log Q E L) → standing log ≡ over → standing (x ∷ log) ≡ over
unfolding standing
later_over x [] e = cc
later_over x (y ∷ log) e = e

module _ {C Q E L : Type 0} (R : Rules C Q E L) where
  -- ---- a reading that is told the end comes to a last word

  -- it does so from each context with the bytes bs left
  abbrev Ends : List ℕ → Type 0
  Ends bs = (c : C) (g : List ℕ) (at : ℕ) (answers : List Bool) → length bs ≤ length answers → standing (scan R c g at bs answers true) ≡ over

  answered_ends : (bs : List ℕ) → Ends bs → (y : Grant C E L) (at : ℕ) (answers : List Bool) → suc (length bs) ≤ length answers
      → standing (answered R y at answers (λ c xs. scan R c [] at bs xs true)) ≡ over
  answered_ends bs ih y at [] h = absurd (omega arith)
  answered_ends bs ih (granted e c) at (true ∷ answers) h = later_over _ _ (ih c [] at answers (omega arith))
  answered_ends bs ih (final l) at (true ∷ answers) h = standing_snoc [] at (last l)
  answered_ends bs ih y at (false ∷ answers) h = standing_snoc [] at (last R.denied)

  ruled_ends : (bs : List ℕ) → Ends bs → (v : Verdict C Q E L) (at : ℕ) (answers : List Bool) → suc (length bs) ≤ length answers
      → standing (stepped R (ruling v) at bs answers true) ≡ over
  ruled_ends bs ih (go c) at answers h = ih c [] at answers (omega arith)
  ruled_ends bs ih (tell e c) at answers h = later_over _ _ (ih c [] at answers (omega arith))
  ruled_ends bs ih (ask q y) at answers h = later_over _ _ (answered_ends bs ih y at answers h)
  ruled_ends bs ih (stop l) at answers h = standing_snoc [] at (last l)

  scan_ends : (bs : List ℕ) → Ends bs
  unfolding scan step
  scan_ends [] c g at answers h = standing_snoc [] at (last R.unfinished)
  scan_ends (b ∷ bs) c g at answers h = rw (scan_step R c g at b bs answers true) (by (R.whole c (g ++ b ∷ [])) (scan_ends bs))
    where
      by : (x : Bool) → Ends bs → standing (stepped R (gathered R x c (g ++ b ∷ [])) (suc at) bs answers true) ≡ over
      by true ih = ruled_ends bs ih (R.judge c (g ++ b ∷ [])) (suc at) answers (omega (arith, h))
      by false ih = ih c (g ++ b ∷ []) (suc at) answers (omega (arith, h))

  -- ---- the caller

  -- WHATEVER THE STREAM, its answers and its cutting, the caller's pieces go on through it from the first byte not taken, and its events
  -- are all of the plain reading of the stream with these answers, the end told. With an answer for each byte they come to a last word.
  pub caller_finishes : (start : C) (lengths : List ℕ) (answers : List Bool) (S : List ℕ)
      → Finishes R start S answers (calls_over R start lengths answers S) (run_calls R start (calls_over R start lengths answers S))
  caller_finishes start lengths answers S =
      let k = caller_course R start lengths answers S in
      let e : events (run_calls R start (calls_over R start lengths answers S)) ≡ reading R start S answers true =
      rw (reading_scan R start S answers true) (k.reads 0) in
      record {
        resumes = k.resumes;
        all_events = e;
        answered = rw (← e) (k.answered 0);
        is_over = λ h. rw (e, reading_scan R start S answers true) (scan_ends S start [] 0 answers h);
      }

  -- AND TAKES ALL of a stream whose reading has one last word, as its last event and at the place of all the bytes.
  pub caller_takes_all : (start : C) (lengths : List ℕ) (answers : List Bool) (S : List ℕ) (n : ℕ) → EndsAt (length S) n (reading R start S answers true)
      → bytes_taken (calls_over R start lengths answers S) (run_calls R start (calls_over R start lengths answers S)) ≡ S
  caller_takes_all start lengths answers S n c =
      (caller_course R start lengths answers S).took 0 (length S) n (omega arith) (rw (← (caller_finishes start lengths answers S).all_events) at c)
