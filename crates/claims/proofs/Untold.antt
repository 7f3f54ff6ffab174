-- From what is told back to the reading: an event of a told log is told of an event of the log, at the same place and after the same
-- ones. Assumes nothing.
use mathlib.Core.Path.{◌≡◌, refl, sym, ap, ◌∙◌}
use mathlib.Core.Bool.{Bool, true, false, true≢false}
use mathlib.Core.List.{List, [], ◌∷◌, ◌++◌, cons-ne-nil, head-eq_of_cons-eq, tail-eq_of_cons-eq}
use Prim.Native.Nat.{ℕ}
use Rattle.sections.specs.Reading.{Event, question, message, last, Log}
use Rattle.stream.specs.Events.{Question, Release, head_accepted, block, LastWord}
use Rattle.stream.specs.Lines.{Field}
use Rattle.agreement.specs.Observation.{Values, Told}
use Rattle.agreement.specs.Observation as S
use Rattle.agreement.specs.Plain.{values_in, told_event, told_log}
use Rattle.agreement.proofs.Streams.{log_append}
use Rattle.exactness.specs.AskedFor.{is_last}
use Rattle.exactness.specs.Telling.{StreamEvent, Stands}

abbrev pub ToldEvent : Type 0
ToldEvent = Event Question Told LastWord

-- the told log has e at the place, after `earlier`
pub record Untold (earlier : Log Question Told LastWord) (place : ℕ) (e : ToldEvent) (log : Log Question Release LastWord) : Type 0 where
  pub before : Log Question Release LastWord
  pub it : StreamEvent
  pub after : Log Question Release LastWord
  pub joined : before ++ (place, it) ∷ after ≡ log
  pub same_before : told_log before ≡ earlier
  pub same_event : told_event it ≡ e

pub untold : (earlier later : Log Question Told LastWord) (place : ℕ) (e : ToldEvent) (log : Log Question Release LastWord)
    → earlier ++ (place, e) ∷ later ≡ told_log log → Untold earlier place e log
unfolding told_log
untold [] later place e [] x = absurd (cons-ne-nil _ _ x)
untold (z ∷ zs) later place e [] x = absurd (cons-ne-nil _ _ x)
untold [] later place e ((n, y) ∷ log) x =
    let f : ◌≡◌ {A = ℕ × ToldEvent} (place, e) (n, told_event y) = head-eq_of_cons-eq x in
    let p : place ≡ n = ap (λ (t : ℕ × ToldEvent). t.0) f in
    record { before = []; it = y; after = log; joined = λ i. (p i, y) ∷ log; same_before = refl; same_event = sym (ap (λ (t : ℕ × ToldEvent). t.1) f) }
untold (z ∷ zs) later place e (y ∷ log) x =
    let u = untold zs later place e log (tail-eq_of_cons-eq x) in
    let f : ◌≡◌ {A = ℕ × ToldEvent} (y.0, told_event y.1) z = sym (head-eq_of_cons-eq x) in
    let s = u.same_before in
    record {
      before = y ∷ u.before;
      it = u.it;
      after = u.after;
      joined = ap (λ (m : Log Question Release LastWord). y ∷ m) u.joined;
      same_before = λ i. f i ∷ s i;
      same_event = u.same_event;
    }

-- and the other way: an event of the log is told where it stands
pub stands_told : (place : ℕ) (e : StreamEvent) (log : Log Question Release LastWord) → Stands (place, e) log
    → Stands (place, told_event e) (told_log log)
unfolding told_log
stands_told place e log s =
    record {
      before = told_log s.before;
      after = told_log s.after;
      joined = sym (log_append s.before ((place, e) ∷ s.after)) ∙ ap told_log s.joined;
    }

-- an event that what is told determines
pub stands_untold : (place : ℕ) (e : StreamEvent) (log : Log Question Release LastWord) → ((x : StreamEvent) → told_event x ≡ told_event e → x ≡ e)
    → Stands (place, told_event e) (told_log log) → Stands (place, e) log
stands_untold place e log only s =
    let u = untold s.before s.after place (told_event e) log s.joined in
    let f = only u.it u.same_event in
    record { before = u.before; after = u.after; joined = ap (λ (x : StreamEvent). u.before ++ (place, x) ∷ u.after) (sym f) ∙ u.joined }

-- ---- an accepted head

abbrev is_head : ToldEvent → Bool
is_head (question q) = false
is_head (message (S.head_accepted status values)) = true
is_head (message (S.block o n b)) = false
is_head (last l) = false

abbrev status_in : ToldEvent → ℕ
status_in (question q) = 0
status_in (message (S.head_accepted status values)) = status
status_in (message (S.block o n b)) = 0
status_in (last l) = 0

abbrev values_or : Values → ToldEvent → Values
values_or v (question q) = v
values_or v (message (S.head_accepted status values)) = values
values_or v (message (S.block o n b)) = v
values_or v (last l) = v

pub record HeadUntold (e : StreamEvent) (status : ℕ) (values : Values) : Type 0 where
  pub fields : List Field
  pub head : e ≡ message (head_accepted status fields)
  pub told : values_in fields ≡ values

pub head_from_lem : (e : StreamEvent) (status : ℕ) (values : Values) → told_event e ≡ message (S.head_accepted status values)
    → HeadUntold e status values
head_from_lem (question q) status values x = absurd (true≢false (sym (ap is_head x)))
head_from_lem (message (head_accepted s fields)) status values x =
    let p : s ≡ status = ap status_in x in
    record { fields = fields; head = λ i. message (head_accepted (p i) fields); told = ap (values_or values) x }
head_from_lem (message (block o b)) status values x = absurd (true≢false (sym (ap is_head x)))
head_from_lem (last l) status values x = absurd (true≢false (sym (ap is_head x)))

-- ---- a last word

-- what is told of an event is a last word where the event is
pub last_told : (e : StreamEvent) → is_last (told_event e) ≡ is_last e
last_told (question q) = refl
last_told (message e) = refl
last_told (last l) = refl

abbrev last_or : LastWord → ToldEvent → LastWord
last_or l (question q) = l
last_or l (message e) = l
last_or l (last m) = m

pub last_from_lem : (e : StreamEvent) (l : LastWord) → told_event e ≡ last l → e ≡ last l
last_from_lem (question q) l x = absurd (true≢false (sym (ap is_last x)))
last_from_lem (message e) l x = absurd (true≢false (sym (ap is_last x)))
last_from_lem (last m) l x = ap last (ap (last_or l) x)

-- ---- a question

abbrev is_question : ToldEvent → Bool
is_question (question q) = true
is_question (message e) = false
is_question (last l) = false

abbrev question_or : Question → ToldEvent → Question
question_or q (question r) = r
question_or q (message e) = q
question_or q (last l) = q

pub question_from : (e : StreamEvent) (q : Question) → told_event e ≡ question q → e ≡ question q
question_from (question r) q x = ap question (ap (question_or q) x)
question_from (message e) q x = absurd (true≢false (sym (ap is_question x)))
question_from (last l) q x = absurd (true≢false (sym (ap is_question x)))
