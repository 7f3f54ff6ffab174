-- What holds between calls, and how a call of the reader follows a turn of the machine. Assumes nothing.
use mathlib.Core.Path.{◌≡◌, refl, ◌∙◌}
use mathlib.Core.Bool.{true, false}
use mathlib.Core.List.{List}
use Prim.Native.Nat.{ℕ, ◌≤◌}
use borrow.Author.Tests.{le-leb}
use lib.ListN.{length, take}
use Rattle.sections.specs.Reading.{Grant}
use Rattle.sections.specs.Calls.{is_of_call, Request, Reply, misused, Out}
use Rattle.sections.specs.Machine.{running, asked, finished, Turn, declined}
use Rattle.stream.specs.Events.{Question, Release, LastWord}
use Rattle.stream.specs.Limits.{head_limit, block_limit}
use Rattle.stream.specs.Lines.{Field}
use Rattle.stream.specs.Stream.{Show, Past, Context}
use Rattle.stream.specs.Terms.{Terms}
use Rattle.handing.specs.Handing.{handed_fields}
use Rattle.state.specs.Configuration.{Configuration}
use Rattle.state.specs.declared.phase.Phase.{Phase}
use Rattle.calls.specs.Response as R
use Rattle.calls.specs.Response.{are_roomy, fits, is_reading, unchanged, recalled}
use Rattle.handing.specs.Released.{block_part}
use Rattle.agreement.specs.Plain.{values_in, told_word, Handed, handed_after, observes}
use Rattle.agreement.specs.Run.{word_seen, observed}
use Rattle.agreement.proofs.Stands.{Lent, Standing, At, Stands, Under}
use Rattle.agreement.proofs.Stands as F

-- the reader and its buffers stand for the state, and hand out what is to be handed out
pub record Holds (terms : Terms) (d : Configuration) (h : Handed) (s : Standing) : Type 0 where
  pub stands : Stands terms d s
  pub lent : Lent d h.signed
  pub block : take d.reader.released d.block ≡ h.released

-- a call shows what the machine's turn says, and both go on side by side
pub record CallFollows (terms : Terms) (h : Handed) (r : Request) (c : R.Response) (t : Turn Context Question Release LastWord) : Type 0 where
  pub same : observed c ≡ observes (handed_after h r t.0.0) t.0
  pub holds : Holds terms c.after (handed_after h r t.0.0) t.1

-- ---- what is shown

pub part_is : (b : List ℕ) (n : ℕ) → block_limit ≤ length b → block_part b n ≡ take n b
unfolding block_part
part_is b n h = rw (le-leb block_limit (length b) h)

pub shown : {terms : Terms} (c : R.Response) (h : Handed) (o : Out Question Release LastWord) (s : Standing) → Holds terms c.after h s
    → word_seen c.word c.signature c.after ≡ told_word o.0 → c.taken ≡ o.1 → observed c ≡ observes h o
unfolding observed
shown c h o s k w n =
    let b : block_part c.after.block c.after.reader.released ≡ h.released = part_is _ _ k.lent.block ∙ k.block in
    let f : handed_fields c.after.head c.after.reader.fixed.accepted ≡ h.signed = k.lent.handed in
    λ i. record { out = (w i, n i); block = b i; values = values_in (f i) }

pub follows : {terms : Terms} {h : Handed} {r : Request} (c : R.Response) (w : Reply Question Release LastWord) (n : ℕ) (s : Standing)
    → Holds terms c.after (handed_after h r w) s → word_seen c.word c.signature c.after ≡ told_word w → c.taken ≡ n
    → CallFollows terms h r c ((w, n), s)
follows {h} {r} c w n s k e m = record { same = shown c (handed_after h r w) (w, n) s k e m; holds = k }

-- ---- refusals that change nothing

pub unchanged_follows : {terms : Terms} {h : Handed} {r : Request} (n : ℕ) (d : Configuration) (s : Standing) → is_of_call n ≡ true → Holds terms d h s
    → CallFollows terms h r (unchanged n d) (declined n s)
unfolding word_seen
unchanged_follows n d s m k = follows (unchanged n d) (misused n) 0 s k (rw m) refl

-- ---- phases

-- with no block handed out the block under way stays
under_back : {d : Configuration} {s : Show} {p : Past} {size : ℕ} {b : List ℕ} → Under d s p size b → Under (recalled d) s p size b
under_back u = record { keeps = u.keeps; counts = u.counts; sound = u.sound; bytes = u.bytes }

module _ {terms : Terms} {d : Configuration} where
  pub reading_phase : {p : Phase} {c : Context} {g : List ℕ} → At terms d p (running c g) → is_reading p ≡ true
  reading_phase (F.head early a e) = refl
  reading_phase (F.first_line k sound none a e) = refl
  reading_phase (F.block_data k c sound a e) = refl
  reading_phase (F.data_end u a e) = refl
  reading_phase (F.next_line u a e) = refl
  reading_phase (F.trailer k c sound a e) = refl

  pub asked_phase : {p : Phase} {y : Grant Context Release LastWord} → At terms d p (asked y) → is_reading p ≡ false
  asked_phase (F.head_asked a) = refl
  asked_phase (F.block_asked a) = refl
  asked_phase (F.end_asked a) = refl

  pub finished_phase : {p : Phase} → At terms d p finished → is_reading p ≡ false
  finished_phase F.closed = refl
  finished_phase F.complete = refl
  finished_phase F.refused = refl

  -- and stands where it stood
  pub stands_back : {p : Phase} {c : Context} {g : List ℕ} → At terms d p (running c g) → At terms (recalled d) p (running c g)
  stands_back (F.head early a e) = F.head early a e
  stands_back (F.first_line k sound none a e) = F.first_line k sound none a e
  stands_back (F.block_data k c sound a e) = F.block_data k c sound a e
  stands_back (F.data_end u a e) = F.data_end (under_back u) a e
  stands_back (F.next_line u a e) = F.next_line (under_back u) a e
  stands_back (F.trailer k c sound a e) = F.trailer k c sound a e

-- ---- loans

pub roomy : {d : Configuration} {fields : List Field} → Lent d fields → fits d ≡ true
unfolding are_roomy
roomy {d} l = rw (le-leb head_limit (length d.head) l.head, le-leb block_limit (length d.block) l.block, le-leb head_limit (length d.question) l.question)
