-- Lists of calls: the reader's run shows what the plain reading shows. Assumes nothing.
use mathlib.Core.Path.{◌≡◌, refl, ap, ◌∙◌}
use mathlib.Core.Bool.{Bool, true, false, ◌&&◌}
use mathlib.Core.List.{List, [], ◌∷◌}
use Prim.Native.Nat.{ℕ}
use borrow.Author.Tests.{leb-true}
use lib.Dec.{leb}
use lib.ListN.{length, length-replicate}
use Rattle.octets.specs.Choice.{pick}
use Rattle.ring.specs.Keys.{terms_of}
use Rattle.ring.specs.declared.KeyRing.{KeyRing}
use Rattle.sections.specs.Calls.{Request, feed, answer, end, misused}
use Rattle.sections.specs.Calls as S
use Rattle.sections.specs.Machine.{running, Turn, turn, run_calls}
use Rattle.sections.specs.Machine as M
use Rattle.sections.specs.Resuming.{request}
use Rattle.sections.proofs.Cutting.{calls_agree}
use Rattle.stream.specs.Events.{Question, Release, LastWord}
use Rattle.stream.specs.Limits.{head_limit, block_limit, line_limit, ring_limit}
use Rattle.stream.specs.Stream.{Context, rules}
use Rattle.stream.specs.Stream as C
use Rattle.stream.proofs.Sound.{not_whole_empty}
use Rattle.stream.proofs.Truth.{left_holds, right_holds}
use Rattle.handing.specs.Handing.{handed_fields}
use Rattle.handing.proofs.ValueLaws.{handed_none}
use Rattle.state.specs.Configuration.{Configuration, configuration, fresh_reader}
use Rattle.state.specs.declared.reader.Reader.{Reader}
use Rattle.calls.specs.Response as R
use Rattle.calls.specs.Response.{are_roomy, unchanged}
use Rattle.reader.specs.Feed.{feed_of}
use Rattle.calls.specs.Answer.{answer_of, end_of}
use Rattle.handing.specs.Released.{block_part}
use Rattle.agreement.specs.Plain.{values_in, Handed, nothing, handed_after, observes, trace_from, plain_trace}
use Rattle.agreement.specs.Run.{Invocation, same, other, called, aside, run_call, word_seen, observed, run_from, run, plain_call, plain_calls}
use Rattle.agreement.proofs.Stands.{Standing}
use Rattle.agreement.proofs.Stands as F
use Rattle.agreement.proofs.Gathering.{none_gathered}
use Rattle.agreement.proofs.Rooms.{loan_same}
use Rattle.agreement.proofs.Holds.{Holds, CallFollows, unchanged_follows, roomy}
use Rattle.agreement.proofs.Calls.{feed_follows, answer_follows, end_follows}
use Rattle.agreement.specs.Loans.{have_room, ring_fits, loan_fits}

-- ---- one call

neither : (t : Bool) → t && true ≡ false → t ≡ false
neither true e = e
neither false e = refl

-- REFUSAL 2: a loan that will not do changes nothing, whatever the reader
pub misfit_unchanged : (r : Reader) (h b q : List ℕ) (keys : KeyRing) (uri : List ℕ) (k : Request) → loan_fits h b q keys k ≡ false
    → called keys uri (configuration r h b q) k ≡ unchanged 2 (configuration r h b q)
unfolding loan_fits feed_of answer_of end_of
misfit_unchanged r h b q keys uri (feed piece) e = rw (loan_same h b q keys (feed piece) ∙ e)
misfit_unchanged r h b q keys uri (answer good) e = rw (neither (are_roomy (length h) (length b) (length q)) (loan_same h b q keys (answer good) ∙ e))
misfit_unchanged r h b q keys uri end e = rw (neither (are_roomy (length h) (length b) (length q)) (loan_same h b q keys end ∙ e))

pub called_follows : (keys : KeyRing) (uri : List ℕ) (d : Configuration) (h : Handed) (s : Standing) (k : Request) → Holds (terms_of keys uri) d h s
    → CallFollows (terms_of keys uri) h k (called keys uri d k) (turn (rules (terms_of keys uri)) s (S.call (ring_fits keys k) k))
unfolding turn feed_of answer_of end_of
called_follows keys uri d h s (feed piece) k = by (leb keys.count ring_limit) refl
  where
    -- by what the loan is, whatever form the call is written in
    by : (t : Bool) → leb keys.count ring_limit ≡ t
        → CallFollows (terms_of keys uri) h (feed piece) (called keys uri d (feed piece)) (turn (rules (terms_of keys uri)) s (S.call (ring_fits keys (feed piece)) (feed piece)))
    by true e = rw (roomy k.lent, e) (feed_follows (terms_of keys uri) h d s piece k)
    by false e = rw (roomy k.lent, e) (unchanged_follows 2 d s refl k)
called_follows keys uri d h s (answer good) k = rw (roomy k.lent) (answer_follows (terms_of keys uri) h d d.reader.phase s good k k.stands)
called_follows keys uri d h s end k = rw (roomy k.lent) (end_follows (terms_of keys uri) h d s k)

-- a call with other buffers, which will not do, leaves ours as they are
pub aside_unchanged : (d : Configuration) (h b q : List ℕ) (keys : KeyRing) (uri : List ℕ) (k : Request) → loan_fits h b q keys k ≡ false
    → aside keys uri d (configuration d.reader h b q) k ≡ unchanged 2 d
aside_unchanged d h b q keys uri k e = rw (misfit_unchanged d.reader h b q keys uri k e)

-- where the buffers are too short, every call is refused with 2 and nothing is handed out
pub record Idle (d : Configuration) (h : Handed) : Type 0 where
  pub short : have_room d.head d.block d.question ≡ false
  pub block : block_part d.block d.reader.released ≡ h.released
  pub handed : handed_fields d.head d.reader.fixed.accepted ≡ h.signed

idle_shown : (d : Configuration) (h : Handed) → Idle d h → observed (unchanged 2 d) ≡ observes h (misused 2, 0)
unfolding observed word_seen
idle_shown d h k = let f = k.handed in λ i. record { out = (misused 2, 0); block = k.block i; values = values_in (f i) }

-- ---- a list of calls, from a first loan of the buffers h₀, b₀ and q₀

module _ (keys : KeyRing) (uri h₀ b₀ q₀ : List ℕ) where
  -- the reader beside the machine
  pub data Beside : Configuration → Handed → Standing → Type 0 where
    fit : {d : Configuration} {h : Handed} {s : Standing} → have_room h₀ b₀ q₀ ≡ true → Holds (terms_of keys uri) d h s → Beside d h s
    idle : {d : Configuration} {h : Handed} {s : Standing} → have_room h₀ b₀ q₀ ≡ false → Idle d h → Beside d h s

  pub record Goes (h : Handed) (r : Request) (c : R.Response) (t : Turn Context Question Release LastWord) : Type 0 where
    pub shown : observed c ≡ observes (handed_after h r t.0.0) t.0
    pub beside : Beside c.after (handed_after h r t.0.0) t.1

  abbrev pub turned : Standing → Invocation → Turn Context Question Release LastWord
  turned s k = turn (rules (terms_of keys uri)) s (plain_call keys h₀ b₀ q₀ k)

  pub call_goes : (d : Configuration) (h : Handed) (s : Standing) (k : Invocation) → Beside d h s
      → Goes h (request (plain_call keys h₀ b₀ q₀ k)) (run_call keys uri d k) (turned s k)
  unfolding turn run_call loan_fits
  call_goes d h s (same k) (fit e v) =
      let c = called_follows keys uri d h s k v in
      rw e (record { shown = c.same; beside = fit e c.holds })
  call_goes d h s (same k) (idle e v) =
      rw (e, misfit_unchanged d.reader d.head d.block d.question keys uri k (rw v.short refl))
      (record { shown = idle_shown d h v; beside = idle e v })
  call_goes d h s (other h' b' q' keys' uri' k m) (fit e v) =
      let c = unchanged_follows {r = k} 2 d s refl v in
      rw (aside_unchanged d h' b' q' keys' uri' k m) (record { shown = c.same; beside = fit e c.holds })
  call_goes d h s (other h' b' q' keys' uri' k m) (idle e v) =
      rw (aside_unchanged d h' b' q' keys' uri' k m) (record { shown = idle_shown d h v; beside = idle e v })

  calls_go : (ks : List Invocation) (d : Configuration) (h : Handed) (s : Standing) → Beside d h s
      → run_from keys uri d ks ≡ trace_from h (plain_calls keys h₀ b₀ q₀ ks) (M.run_from (rules (terms_of keys uri)) s (plain_calls keys h₀ b₀ q₀ ks))
  unfolding run_from M.run_from trace_from plain_calls
  calls_go [] d h s v = refl
  calls_go (k ∷ ks) d h s v =
      let g = call_goes d h s k v in
      λ i. g.shown i ∷ calls_go ks (run_call keys uri d k).after (handed_after h (request (plain_call keys h₀ b₀ q₀ k)) (turned s k).0.0) (turned s k).1 g.beside i

  pub fresh_beside : (t : Bool) → have_room h₀ b₀ q₀ ≡ t → Beside (configuration fresh_reader h₀ b₀ q₀) nothing (running C.head [])
  unfolding fresh_reader have_room block_part
  fresh_beside true e =
      fit e
      (record {
        stands = F.head refl (none_gathered h₀) (not_whole_empty C.head tt);
        lent =
            record {
              head = leb-true head_limit (length h₀) (left_holds _ _ e);
              block = leb-true block_limit (length b₀) (left_holds _ _ (right_holds (leb head_limit (length h₀)) _ e));
              question = leb-true head_limit (length q₀) (right_holds (leb block_limit (length b₀)) _ (right_holds (leb head_limit (length h₀)) _ e));
              line = length-replicate {A = ℕ} line_limit 0;
              handed = handed_none h₀;
            };
        block = refl;
      })
  fresh_beside false e = idle e (record { short = e; block = none (leb block_limit (length b₀)); handed = handed_none h₀ })
    where
      none : (t : Bool) → ◌≡◌ {A = List ℕ} (pick t [] []) []
      none true = refl
      none false = refl

  -- THE RUN: what a caller sees of the reader's calls is what the plain reading shows of them
  pub run_shown : (ks : List Invocation) → run keys uri h₀ b₀ q₀ ks ≡ plain_trace (terms_of keys uri) (plain_calls keys h₀ b₀ q₀ ks)
  unfolding run run_calls plain_trace
  run_shown ks =
      calls_go ks (configuration fresh_reader h₀ b₀ q₀) nothing (running C.head []) (fresh_beside (have_room h₀ b₀ q₀) refl)
      ∙ ap (trace_from nothing (plain_calls keys h₀ b₀ q₀ ks)) (calls_agree (rules (terms_of keys uri)) C.head (plain_calls keys h₀ b₀ q₀ ks))
