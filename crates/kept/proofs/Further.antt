-- Two readings of one stream whose sections are read the same, but for some that the one ends with: up to that last word they are one reading.
-- Assumes nothing.
use mathlib.Core.Bool.{Bool, true, false}
use mathlib.Core.List.{List, [], ◌∷◌, ◌++◌}
use mathlib.Core.Path.{◌≡◌, refl, sym, ap, ◌∙◌}
use Prim.Native.Nat.{ℕ, zero, suc, ◌+◌, ◌-◌}
use native.Mathlib.Omega.{arith}
use lib.ListN.{length, take, drop, length-append, take-append-drop}
use lib.Seq.{take-append_seam}
use Rattle.sections.specs.Reading.{Log, Event, last, go, tell, ask, stop, Grant, granted, final, Rules, uncut, cut_at, cut, answered, judged, ran_out, sections, reading_at, reading}
use Rattle.sections.specs.Resuming.{Begins}
use Rattle.stream.specs.Events.{Question, Release, LastWord}
use Rattle.stream.specs.Stream.{Context, Says}
use Rattle.kept.proofs.Leads.{Leads, Anywhere, leads_anywhere}

abbrev pub StreamLog : Type 0
StreamLog = Log Question Release LastWord

abbrev pub StreamRules : Type 0
StreamRules = Rules Context Question Release LastWord

-- the second log is the first; or the first ends in such a last word, and the second begins with all before it
pub data Further (lifted : LastWord → Bool) (one other : StreamLog) : Type 0 where
  same : other ≡ one → Further lifted one other
  onward : (before : StreamLog) (at : ℕ) (word : LastWord) → lifted word ≡ true → one ≡ before ++ (at, last word) ∷ [] → Begins before other
      → Further lifted one other

-- the next section, of the bytes bs: there is none by either rules, or both cut it off and judge it the same, or the first end with it so
pub data Alike (lifted : LastWord → Bool) (R S : StreamRules) (c : Context) (bs : List ℕ) : Type 0 where
  neither : cut (R.whole c) bs ≡ uncut → cut (S.whole c) bs ≡ uncut → Alike lifted R S c bs
  alike : (f r : List ℕ) → cut (R.whole c) bs ≡ cut_at f r → cut (S.whole c) bs ≡ cut_at f r → S.judge c f ≡ R.judge c f → Alike lifted R S c bs
  stops : (f r : List ℕ) (word : LastWord) → cut (R.whole c) bs ≡ cut_at f r → R.judge c f ≡ stop word → lifted word ≡ true → Alike lifted R S c bs

module _ (lifted : LastWord → Bool) where
  pushed : (x : ℕ × Event Question Release LastWord) (one other : StreamLog) → Further lifted one other → Further lifted (x ∷ one) (x ∷ other)
  pushed x one other (same e) = same (ap (λ (l : StreamLog). x ∷ l) e)
  pushed x one other (onward before at word t e b) =
      onward (x ∷ before) at word t (ap (λ (l : StreamLog). x ∷ l) e) (record { rest = b.rest; joined = ap (λ (l : StreamLog). x ∷ l) b.joined })

-- every section of a context that the fact `holds` is true of; the first context is such a one, and they lead to no other
module _ (lifted : LastWord → Bool) (R S : StreamRules) (denied : S.denied ≡ R.denied) (unfinished : S.unfinished ≡ R.unfinished)
    (holds : Context → Type 0) (leads : (c : Context) → holds c → (f : List ℕ) → Leads holds (R.judge c f))
    (each : (c : Context) → holds c → (bs : List ℕ) → Alike lifted R S c bs) where
  abbrev Next : Type 0
  Next = Context → List Bool → StreamLog

  abbrev NextFurther : Next → Next → Type 0
  NextFurther next next' = (c : Context) → holds c → (answers : List Bool) → Further lifted (next c answers) (next' c answers)

  answered_further : (q : Question) (y : Grant Context Release LastWord) (at : ℕ) (answers : List Bool) (next next' : Next) → Leads holds (ask q y)
      → NextFurther next next' → Further lifted (answered R y at answers next) (answered S y at answers next')
  answered_further q y at [] next next' k h = same refl
  answered_further q (granted e c) at (true ∷ answers) next next' k h = pushed lifted _ _ _ (h c k answers)
  answered_further q (final l) at (true ∷ answers) next next' k h = same refl
  answered_further q y at (false ∷ answers) next next' k h = same (rw denied)

  judged_further : (v : Says) (at : ℕ) (answers : List Bool) (next next' : Next) → Leads holds v → NextFurther next next'
      → Further lifted (judged R v at answers next) (judged S v at answers next')
  judged_further (go c) at answers next next' k h = h c k answers
  judged_further (tell e c) at answers next next' k h = pushed lifted _ _ _ (h c k answers)
  judged_further (ask q y) at answers next next' k h = pushed lifted _ _ _ (answered_further q y at answers next next' k h)
  judged_further (stop l) at answers next next' k h = same refl

  ran_out_lem : (at : ℕ) (told : Bool) → Further lifted (ran_out R at told) (ran_out S at told)
  ran_out_lem at true = same (rw unfinished)
  ran_out_lem at false = same refl

  -- at most k sections
  abbrev FurtherIn : ℕ → Type 0
  FurtherIn k =
      (c : Context) → holds c → (at : ℕ) (bs : List ℕ) (answers : List Bool) (told : Bool)
      → Further lifted (sections R k c at bs answers told) (sections S k c at bs answers told)

  section_further : (k : ℕ) → FurtherIn k → (c : Context) → holds c → (at : ℕ) (bs : List ℕ) (answers : List Bool) (told : Bool) → Alike lifted R S c bs
      → Further lifted (sections R (suc k) c at bs answers told) (sections S (suc k) c at bs answers told)
  unfolding sections
  section_further k rest c h at bs answers told (neither e d) = rw (e, d) (ran_out_lem (at + length bs) told)
  section_further k rest c h at bs answers told (alike f r e d j) =
      rw (e, d, j)
      (judged_further (R.judge c f) (at + length f) answers _ _ (leads c h f) (λ c' h' answers'. rest c' h' (at + length f) r answers' told))
  section_further k rest c h at bs answers told (stops f r word e j t) =
      onward [] (at + length f) word t (rw (e, j)) (record { rest = _; joined = refl })

  sections_further : (k : ℕ) → FurtherIn k
  unfolding sections
  sections_further zero c h at bs answers told = ran_out_lem (at + length bs) told
  sections_further (suc k) c h at bs answers told = section_further k (sections_further k) c h at bs answers told (each c h bs)

  pub reading_within : (c : Context) → holds c → (stream : List ℕ) (answers : List Bool) (told : Bool)
      → Further lifted (reading R c stream answers told) (reading S c stream answers told)
  unfolding reading reading_at
  reading_within c h stream answers told = sections_further (length stream) c h 0 stream answers told

-- every section there is
pub reading_further : (lifted : LastWord → Bool) (R S : StreamRules) → S.denied ≡ R.denied → S.unfinished ≡ R.unfinished
    → ((c : Context) (bs : List ℕ) → Alike lifted R S c bs) → (c : Context) (stream : List ℕ) (answers : List Bool) (told : Bool)
    → Further lifted (reading R c stream answers told) (reading S c stream answers told)
reading_further lifted R S denied unfinished each c stream answers told =
    reading_within lifted R S denied unfinished Anywhere (λ c' h f. leads_anywhere (R.judge c' f)) (λ c' h bs. each c' bs) c tt stream answers told

-- ---- all but the last event

all_but_last : (before : StreamLog) (x : ℕ × Event Question Release LastWord) → take (length (before ++ x ∷ []) - 1) (before ++ x ∷ []) ≡ before
all_but_last before x =
    let n : length (before ++ x ∷ []) - 1 ≡ length before = omega (arith, length-append before (x ∷ [])) in
    rw n (take-append_seam before (x ∷ []))

pub begins_with : (lifted : LastWord → Bool) (before now : StreamLog) → Further lifted before now → Begins (take (length before - 1) before) now
begins_with lifted before now (same e) = record { rest = drop (length before - 1) before; joined = take-append-drop (length before - 1) before ∙ sym e }
begins_with lifted before now (onward front at word t e b) = rw (e, all_but_last front (at, last word)) b
