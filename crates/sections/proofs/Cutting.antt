-- The two halves of demand 3, for every protocol: what a machine that is fed piece by piece says is what the plain
-- reading of the stream says, however the stream is cut. Assumes nothing.
use mathlib.Core.Path.{◌≡◌, refl, sym, ap, ◌∙◌}
use mathlib.Core.Bool.{Bool, true, false}
use mathlib.Core.List.{List, []}
use Prim.Native.Nat.{ℕ}
use Rattle.sections.specs.Reading.{Rules, reading}
use Rattle.sections.specs.Calls.{Call, over, standing, read_calls}
use Rattle.sections.specs.Machine.{running, run_calls}
use Rattle.sections.specs.Resuming.{Resumes, events, answers_heard, end_heard, Tracks}
use Rattle.sections.proofs.Invariant.{at_start}
use Rattle.sections.proofs.Agreement.{turns_agree}
use Rattle.sections.proofs.Onward.{run_tracks}

module _ {C Q E L : Type 0} (R : Rules C Q E L) (start : C) where
  -- THE FIRST HALF. For every list of calls, wrongly timed and ill lent ones and empty pieces among them, each call's
  -- word and the number of bytes that it takes are those that the plain reading gives.
  pub calls_agree : (ks : List Call) → run_calls R start ks ≡ read_calls R start ks
  unfolding run_calls read_calls
  calls_agree ks = turns_agree R start ks (at_start R start)

  -- for both of the next two: in the reading the end is told where the run was told it, and may be told where not
  events_track : (S : List ℕ) (ks : List Call) (t : Bool) → Resumes S ks (run_calls R start ks)
      → (end_heard ks (run_calls R start ks) ≡ true → t ≡ true)
      → Tracks (events (run_calls R start ks)) (reading R start S (answers_heard ks (run_calls R start ks)) t)
  unfolding run_calls
  events_track S ks t c u = run_tracks R start ks S S [] [] false [] (running start []) t (at_start R start) refl tt c u

  -- THE SECOND HALF. Let the pieces go on through a stream S from the first byte not taken, and the end be told only once
  -- all is taken; refused calls may be anything. Then the events, with their places, are a beginning of the plain reading
  -- of the whole stream, its end told, with the answers that were given; and all of it once a last word has come.
  pub stream_agrees : (S : List ℕ) (ks : List Call) → Resumes S ks (run_calls R start ks)
      → Tracks (events (run_calls R start ks)) (reading R start S (answers_heard ks (run_calls R start ks)) true)
  stream_agrees S ks c = events_track S ks true c (λ x. refl)

  -- The same of the reading with the end told only if it was.
  pub stream_agrees_so_far : (S : List ℕ) (ks : List Call) → Resumes S ks (run_calls R start ks)
      → Tracks (events (run_calls R start ks)) (reading R start S (answers_heard ks (run_calls R start ks)) (end_heard ks (run_calls R start ks)))
  stream_agrees_so_far S ks c = events_track S ks (end_heard ks (run_calls R start ks)) c (λ x. x)

  -- HOWEVER THE STREAM IS CUT: two runs over one stream with the same answers, that both came to a last word, have
  -- the same events at the same places.
  pub cuttings_agree : (S : List ℕ) (ks ls : List Call)
      → Resumes S ks (run_calls R start ks) → Resumes S ls (run_calls R start ls)
      → answers_heard ks (run_calls R start ks) ≡ answers_heard ls (run_calls R start ls)
      → standing (events (run_calls R start ks)) ≡ over → standing (events (run_calls R start ls)) ≡ over
      → events (run_calls R start ks) ≡ events (run_calls R start ls)
  cuttings_agree S ks ls c d same x y =
      (stream_agrees S ks c).complete x ∙ ap (λ (a : List Bool). reading R start S a true) same ∙ sym ((stream_agrees S ls d).complete y)
