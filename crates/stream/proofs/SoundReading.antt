-- Every event of every reading keeps the limits: a block has 1 to 65,536 bytes and lies within the first 4,294,967,296 of the body,
-- a total is at most that, and a message is no longer than a head may be. Assumes nothing.
use mathlib.Core.Bool.{Bool, true, false, true≢false}
use mathlib.Core.List.{List, [], ◌∷◌}
use mathlib.Core.Path.{◌≡◌, refl, sym, ◌∙◌}
use Prim.Native.Nat.{ℕ, zero, suc, ◌+◌, ◌≤◌}
use native.Mathlib.Omega.{arith}
use borrow.Author.Tests.{leb-true, leb-false}
use lib.Dec.{leb}
use lib.ListN.{length, take, length-append}
use lib.Seq.{length-take-le}
use Rattle.sections.specs.Reading.{Event, question, message, last, Log, go, tell, ask, stop, Grant, granted, final, Cut, uncut, cut_at, cut, answered, judged, ran_out, one_section, sections, reading_at, reading}
use Rattle.sections.proofs.Cuts.{IsCut, cut_is}
use Rattle.stream.specs.Events.{Question, Release, LastWord}
use Rattle.stream.specs.Stream.{Context, head, is_whole, Says, judge, rules, plain_reading}
use Rattle.stream.specs.Terms.{Terms}
use Rattle.stream.proofs.Sound.{limit_of, whole_at_limit, Sound, limit_some}
use Rattle.stream.proofs.SoundJudge.{SoundRelease, SoundLast, SoundQuestion, SoundGrant, SoundSays, judge_sound}

abbrev pub SoundEvent : Event Question Release LastWord → Type 0
SoundEvent (question q) = SoundQuestion q
SoundEvent (message e) = SoundRelease e
SoundEvent (last l) = SoundLast l

abbrev pub SoundLog : Log Question Release LastWord → Type 0
SoundLog [] = Unit {0}
SoundLog (x ∷ log) = SoundEvent x.1 × SoundLog log

-- a section that is cut off is no longer than its limit
section_fits : (c : Context) (l f r : List ℕ) → Sound c → IsCut (is_whole c) l (cut_at f r) → length f ≤ limit_of c
section_fits c l f r k (e, some, whole, none) = by (leb (length f) (limit_of c)) refl
  where
    by : (t : Bool) → leb (length f) (limit_of c) ≡ t → length f ≤ limit_of c
    by true h = leb-true (length f) (limit_of c) h
    by false h =
        let m : limit_of c ≤ length l = rw (← e, length-append f r) (omega (arith, leb-false (length f) (limit_of c) h)) in
        let n : length (take (limit_of c) l) ≡ limit_of c = length-take-le (limit_of c) l m in
        let w = whole_at_limit c (take (limit_of c) l) (omega arith) in
        absurd (true≢false (sym w ∙ none (limit_of c) (limit_some c k) (leb-false (length f) (limit_of c) h)))

module _ (terms : Terms) where
  abbrev Next : Type 0
  Next = Context → List Bool → Log Question Release LastWord

  answered_sound : (y : Grant Context Release LastWord) (at : ℕ) (answers : List Bool) (next : Next) → SoundGrant y
      → ((c : Context) (answers' : List Bool) → Sound c → SoundLog (next c answers')) → SoundLog (answered (rules terms) y at answers next)
  unfolding rules
  answered_sound y at [] next s ih = tt
  answered_sound (granted e c) at (true ∷ answers) next s ih = (s.0, ih c answers s.1)
  answered_sound (final l) at (true ∷ answers) next s ih = (s, tt)
  answered_sound y at (false ∷ answers) next s ih = (tt, tt)

  judged_sound : (v : Says) (at : ℕ) (answers : List Bool) (next : Next) → SoundSays v
      → ((c : Context) (answers' : List Bool) → Sound c → SoundLog (next c answers')) → SoundLog (judged (rules terms) v at answers next)
  judged_sound (go c) at answers next s ih = ih c answers s
  judged_sound (tell e c) at answers next s ih = (s.0, ih c answers s.1)
  judged_sound (ask q y) at answers next s ih = (s.0, answered_sound y at answers next s.1 ih)
  judged_sound (stop l) at answers next s ih = (s, tt)

  ran_out_lem : (at : ℕ) (told : Bool) → SoundLog (ran_out (rules terms) at told)
  unfolding rules
  ran_out_lem at true = (tt, tt)
  ran_out_lem at false = tt

  sections_sound : (k : ℕ) (c : Context) (at : ℕ) (bs : List ℕ) (answers : List Bool) (told : Bool) → Sound c
      → SoundLog (sections (rules terms) k c at bs answers told)
  unfolding sections rules
  sections_sound zero c at bs answers told s = ran_out_lem (at + length bs) told
  sections_sound (suc k) c at bs answers told s =
      by (cut (is_whole c) bs) (cut_is (is_whole c) bs) (λ c' at' r answers' s'. sections_sound k c' at' r answers' told s')
    where
      by : (m : Cut) → IsCut (is_whole c) bs m
          → ((c' : Context) (at' : ℕ) (r : List ℕ) (answers' : List Bool) → Sound c' → SoundLog (sections (rules terms) k c' at' r answers' told))
          → SoundLog (one_section (rules terms) c at bs answers told m (λ c' at' r answers'. sections (rules terms) k c' at' r answers' told))
      by uncut i ih = ran_out_lem (at + length bs) told
      by (cut_at f r) i ih =
          judged_sound (judge terms c f) (at + length f) answers _ (judge_sound terms c f s i.2 (section_fits c bs f r s i))
          (λ c' answers' s'. ih c' (at + length f) r answers' s')

  pub reading_sound : (bs : List ℕ) (answers : List Bool) (told : Bool) → SoundLog (plain_reading terms bs answers told)
  unfolding plain_reading reading reading_at
  reading_sound bs answers told = sections_sound (length bs) head 0 bs answers told tt
