-- What any list of calls leaves in the three buffers. Assumes nothing.
use mathlib.Core.Path.{◌≡◌, refl, sym, ◌∙◌}
use mathlib.Core.Bool.{Bool, true, false}
use mathlib.Core.List.{List, [], ◌∷◌}
use Prim.Native.Nat.{ℕ}
use lib.Dec.{leb}
use Rattle.octets.specs.Choice.{pick}
use Rattle.ring.specs.Keys.{terms_of}
use Rattle.ring.specs.declared.KeyRing.{KeyRing}
use Rattle.sections.specs.Calls.{Request, feed, answer, end}
use Rattle.sections.specs.Calls as S
use Rattle.sections.specs.Machine.{run_calls}
use Rattle.sections.specs.Resuming.{bytes_taken, answers_heard, end_heard, request}
use Rattle.sections.proofs.Marks.{midway, state_of, left_at}
use Rattle.sections.proofs.Marking.{turn_to, turn_state, mark_after}
use Rattle.sections.proofs.Leavings.{run_leaves}
use Rattle.stream.specs.Buffers.{effects, buffers_after}
use Rattle.stream.specs.Limits.{ring_limit}
use Rattle.stream.specs.Stream.{rules}
use Rattle.stream.specs.Stream as C
use Rattle.stream.specs.Terms.{Terms}
use Rattle.state.specs.Configuration.{Configuration, configuration, fresh_reader}
use Rattle.calls.specs.Response.{Response, is_reading, unchanged, recalled}
use Rattle.calls.specs.Answer.{answer_of, end_of}
use Rattle.reader.specs.Feed.{taken_from, feed_of}
use Rattle.agreement.specs.Loans.{have_room, ring_fits, loan_fits}
use Rattle.agreement.specs.Observation.{outs}
use Rattle.agreement.specs.Plain.{Handed, nothing, handed_after, plain_trace}
use Rattle.agreement.specs.Run.{Invocation, same, other, called, run_call, run, plain_call, plain_calls}
use Rattle.agreement.proofs.Holds.{Holds, roomy}
use Rattle.agreement.proofs.Lists.{misfit_unchanged, aside_unchanged, Beside, fit, idle, turned, call_goes, fresh_beside, run_shown}
use Rattle.agreement.proofs.Streams.{told_outs, outs_run, bytes_told_lem, answers_told, end_told}
use Rattle.buffers.specs.Left.{buffers, buffers_in, left_by, left_from, left_after}
use Rattle.buffers.proofs.Fronts.{none_gathered}
use Rattle.buffers.proofs.Leaves.{Reached, Left}
use Rattle.buffers.proofs.Requests.{feed_leaves, end_leaves, answer_leaves}

-- ---- one call

left_still : {terms : Terms} {m : Reached} (d : Configuration) (c : Response) → c ≡ unchanged 2 d → Left terms d m → Left terms c.after m
left_still d c e l = rw e l

called_leaves : (keys : KeyRing) (uri : List ℕ) (d : Configuration) (h : Handed) (m : Reached) (r : Request) → Holds (terms_of keys uri) d h (state_of m) → Left (terms_of keys uri) d m
    → Left (terms_of keys uri) (called keys uri d r).after (turn_to (rules (terms_of keys uri)) effects m (S.call (ring_fits keys r) r))
unfolding turn_to feed_of answer_of end_of
called_leaves keys uri d h m (feed piece) k l = rw (roomy k.lent) (by (leb keys.count ring_limit))
  where
    by : (t : Bool)
        → Left (terms_of keys uri) (pick t (pick (is_reading d.reader.phase) (taken_from (terms_of keys uri) (recalled d) piece) (unchanged 1 d)) (unchanged 2 d)).after
        (turn_to (rules (terms_of keys uri)) effects m (S.call t (feed piece)))
    by true = feed_leaves (terms_of keys uri) h d m piece k l
    by false = l
called_leaves keys uri d h m (answer good) k l = rw (roomy k.lent) (answer_leaves (terms_of keys uri) h d d.reader.phase m good k.stands l l.waits)
called_leaves keys uri d h m end k l = rw (roomy k.lent) (end_leaves (terms_of keys uri) h d m k l)

module _ (keys : KeyRing) (uri h₀ b₀ q₀ : List ℕ) where
  abbrev marked : Reached → Invocation → Reached
  marked m k = turn_to (rules (terms_of keys uri)) effects m (plain_call keys h₀ b₀ q₀ k)

  call_leaves : (d : Configuration) (h : Handed) (m : Reached) (k : Invocation) → Beside keys uri h₀ b₀ q₀ d h (state_of m) → Left (terms_of keys uri) d m
      → Left (terms_of keys uri) (left_by keys uri d k) (marked m k)
  unfolding left_by run_call turn_to loan_fits
  call_leaves d h m (same r) (fit e v) l = rw e (called_leaves keys uri d h m r v l)
  call_leaves d h m (same r) (idle e v) l = rw e (left_still d _ (misfit_unchanged d.reader d.head d.block d.question keys uri r (rw v.short refl)) l)
  call_leaves d h m (other h' b' q' keys' uri' r z) v l = left_still d _ (aside_unchanged d h' b' q' keys' uri' r z) l

  -- ---- any list of calls

  calls_leave : (ks : List Invocation) (d : Configuration) (h : Handed) (m : Reached) → Beside keys uri h₀ b₀ q₀ d h (state_of m) → Left (terms_of keys uri) d m
      → buffers_in (left_from keys uri d ks) ≡ left_at (rules (terms_of keys uri)) effects (mark_after (rules (terms_of keys uri)) effects m (plain_calls keys h₀ b₀ q₀ ks))
  unfolding left_from mark_after plain_calls left_by
  calls_leave [] d h m v l = l.same
  calls_leave (k ∷ ks) d h m v l =
      let g = (call_goes keys uri h₀ b₀ q₀ d h (state_of m) k v).beside in
      calls_leave ks (left_by keys uri d k) (handed_after h (request (plain_call keys h₀ b₀ q₀ k)) (turned keys uri h₀ b₀ q₀ (state_of m) k).0.0) (marked m k)
      (rw (turn_state (rules (terms_of keys uri)) effects m (plain_call keys h₀ b₀ q₀ k)) at g)
      (call_leaves d h m k v l)

  -- WHAT IS LEFT: the three buffers after any list of calls are what the bytes taken, the answers heard and the end told leave in the first ones
  pub run_left : (ks : List Invocation)
      → left_after keys uri h₀ b₀ q₀ ks
      ≡ buffers_after (terms_of keys uri)
      (bytes_taken (plain_calls keys h₀ b₀ q₀ ks) (outs (run keys uri h₀ b₀ q₀ ks)))
      (answers_heard (plain_calls keys h₀ b₀ q₀ ks) (outs (run keys uri h₀ b₀ q₀ ks)))
      (end_heard (plain_calls keys h₀ b₀ q₀ ks) (outs (run keys uri h₀ b₀ q₀ ks)))
      (buffers h₀ b₀ q₀)
  unfolding left_after buffers_after plain_trace
  run_left ks =
      let terms = terms_of keys uri in
      let first = buffers h₀ b₀ q₀ in
      let cs = plain_calls keys h₀ b₀ q₀ ks in
      let os = run_calls (rules terms) C.head cs in
      let e : outs (run keys uri h₀ b₀ q₀ ks) ≡ told_outs os = rw (run_shown keys uri h₀ b₀ q₀ ks) (outs_run terms cs) in
      rw (e, bytes_told_lem cs os, answers_told cs os, end_told cs os)
      (calls_leave ks (configuration fresh_reader h₀ b₀ q₀) nothing (midway C.head [] first) (fresh_beside keys uri h₀ b₀ q₀ (have_room h₀ b₀ q₀) refl)
      (record { same = sym (none_gathered C.head first); waits = tt })
      ∙ run_leaves (rules terms) effects C.head first cs)
