-- KEPT FROM BEFORE: the plain reading keeps it, and the calls show the plain reading. Assumes nothing.
use mathlib.Core.Bool.{Bool}
use mathlib.Core.List.{List}
use mathlib.Core.Path.{◌≡◌, ap, ◌∙◌}
use Prim.Native.Nat.{ℕ}
use native.Mathlib.Omega.{arith}
use Rattle.ring.specs.Keys.{terms_of}
use Rattle.ring.specs.declared.KeyRing.{KeyRing}
use Rattle.sections.specs.Calls.{Request}
use Rattle.sections.specs.Reading.{Log}
use Rattle.sections.specs.Resuming.{Begins, events}
use Rattle.stream.specs.Events.{Question, Release, LastWord}
use Rattle.stream.specs.Stream.{plain_reading}
use Rattle.state.specs.Configuration.{Configuration}
use Rattle.agreement.specs.Plain.{told_log}
use Rattle.agreement.specs.Run.{Invocation}
use Rattle.kept.specs.OtherLimits.{paper_limits}
use Rattle.kept.proofs.Limits.{same_under, none_lost}
use Rattle.kept.proofs.OtherShow.{refused_where_not}
use Rattle.kept.proofs.SameEvents.{same_events}
use Rattle.kept.proofs.SameShow.{same_where_asked}
use Rattle.kept.proofs.Unchecked.{same_unclosed, none_lost_unchecked}
use Rattle.kept.proofs.Unclaimed.{same_unclaimed}
use Rattle.kept.proofs.WholeOnly.{same_whole, none_lost_whole}
use Rattle.claims.specs.Kept.{KeptFromBefore, OlderBuffersRefused}
use Rattle.claims.specs.Runs.{words, taken, answers, ended}
use Rattle.claims.proofs.Asking.{begins_told}
use Rattle.claims.proofs.Demand1.{short_refused}
use Rattle.claims.proofs.Demand3.{demand_3}

module _ (keys : KeyRing) (uri h b q : List ℕ) (ks : List Invocation) where
  abbrev stream : List ℕ
  stream = taken keys uri h b q ks

  abbrev given : List Bool
  given = answers keys uri h b q ks

  abbrev told : Bool
  told = ended keys uri h b q ks

  -- what the plain reading of the bytes taken equals is what the calls show
  shown : (log : Log Question Release LastWord) → plain_reading (terms_of keys uri) stream given told ≡ log → events (words keys uri h b q ks) ≡ told_log log
  shown log e = (demand_3 keys uri h b q ks).all_taken ∙ ap told_log e

  -- and what it begins with is what they show first
  begun : (log : Log Question Release LastWord) → Begins log (plain_reading (terms_of keys uri) stream given told) → Begins (told_log log) (events (words keys uri h b q ks))
  begun log s = rw (demand_3 keys uri h b q ks).all_taken (begins_told s)

  pub kept_from_before : KeptFromBefore keys uri h b q ks
  kept_from_before =
      record {
        same_events = λ never. shown _ (same_events (terms_of keys uri) stream given told never);
        same_where_asked = λ e. shown _ (same_where_asked (terms_of keys uri) stream given told e);
        refused_where_not = λ n. shown _ (refused_where_not (terms_of keys uri) stream given told n);
        same_under_paper = λ three six. shown _ (same_under paper_limits (omega arith) (omega arith) (omega arith) (terms_of keys uri) stream given told three six);
        none_lost = begun _ (none_lost paper_limits (omega arith) (omega arith) (omega arith) (terms_of keys uri) stream given told);
        same_unclosed = λ never. shown _ (same_unclosed (terms_of keys uri) stream given told never);
        same_unclaimed = λ w t rest e g z k c. shown _ (rw (← e) (same_unclaimed (terms_of keys uri) w t rest g z k c given told));
        none_lost_unchecked = begun _ (none_lost_unchecked (terms_of keys uri) stream given told);
        same_whole = λ four six. shown _ (same_whole (terms_of keys uri) stream given told four six);
        none_lost_whole = begun _ (none_lost_whole (terms_of keys uri) stream given told);
      }

pub older_buffers_refused : (keys : KeyRing) (uri : List ℕ) (d : Configuration) (r : Request) → OlderBuffersRefused keys uri d r
older_buffers_refused keys uri d r =
    record {
      head = λ e. (short_refused keys uri d r).head (omega (arith, e));
      question = λ e. (short_refused keys uri d r).question (omega (arith, e));
    }
