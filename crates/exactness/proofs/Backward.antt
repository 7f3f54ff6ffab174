-- Every event of a plain reading is expected at its place. Assumes nothing.
use mathlib.Core.Bool.{Bool, true, false}
use mathlib.Core.List.{List, [], ◌∷◌, ◌++◌, append_assoc}
use mathlib.Core.Path.{◌≡◌, refl, ◌∙◌}
use Prim.Native.Nat.{ℕ, zero, suc, ◌+◌, ◌≤◌, ◌<◌}
use native.Mathlib.Omega.{arith}
use lib.ListN.{length, replicate, length-append}
use Rattle.sections.specs.Reading.{question, Log, go, tell, ask, stop, Grant, granted, final, Cut, uncut, cut_at, cut, answered, judged, ran_out, one_section, reading_at, reading}
use Rattle.sections.proofs.Cuts.{IsCut, NoneBelow, cut_is}
use Rattle.sections.proofs.Scans.{section_read}
use Rattle.stream.specs.Events.{Question, Release, LastWord}
use Rattle.stream.specs.Stream.{Context, head, is_whole, Says, judge, rules, plain_reading}
use Rattle.stream.specs.Terms.{Terms}
use Rattle.exactness.specs.Telling.{StreamEvent, Decides, Due, Expected, on_time, denied, broken_off, Stands}
use Rattle.exactness.proofs.Ends.{none_front}
use Rattle.exactness.proofs.Forward.{one_yes}
use Rattle.exactness.proofs.Judged.{judge_due, none_unfinished}
use Rattle.exactness.proofs.Reached.{Reached, at_head, SaysDue}

module _ (terms : Terms) (S : List ℕ) (all : List Bool) (told : Bool) where
  abbrev pub AllExpected : Log Question Release LastWord → Type 0
  AllExpected [] = Unit {0}
  AllExpected (x ∷ log) = Expected terms S all told x.0 x.1 × AllExpected log

  abbrev due_here : {e : StreamEvent} (front rest : List ℕ) (yeses : ℕ) (others : List Bool) → front ++ rest ≡ S → replicate yeses true ++ others ≡ all
      → Decides terms front yeses e → Due terms S all (length front) e
  due_here front rest yeses others s a d =
      record { front = front; rest = rest; stream = s; place = refl; yeses = yeses; others = others; granted = a; decides = d }

  -- the reading goes on after the bytes `front`, all of it expected
  abbrev Next : Type 0
  Next = Context → List Bool → Log Question Release LastWord

  abbrev GoesOn : List ℕ → Next → Type 0
  GoesOn front next = (c : Context) (yeses : ℕ) (answers : List Bool) → Reached terms front yeses c → replicate yeses true ++ answers ≡ all
      → AllExpected (next c answers)

  answered_expected : (front r : List ℕ) (yeses : ℕ) (q : Question) (y : Grant Context Release LastWord) (answers : List Bool) (next : Next)
      → SaysDue terms front yeses (ask q y) → front ++ r ≡ S → replicate yeses true ++ answers ≡ all → GoesOn front next
      → Expected terms S all told (length front) (question q) × AllExpected (answered (rules terms) y (length front) answers next)
  unfolding rules
  answered_expected front r yeses q (final l) [] next d s a on = (on_time (due_here front r yeses [] s a d.0), tt)
  answered_expected front r yeses q (final l) (true ∷ answers) next d s a on =
      let b : replicate (suc yeses) true ++ answers ≡ all = one_yes yeses answers ∙ a in
      (on_time (due_here front r yeses (true ∷ answers) s a d.0), (on_time (due_here front r (suc yeses) answers s b d.1), tt))
  answered_expected front r yeses q (final l) (false ∷ answers) next d s a on =
      let k = due_here front r yeses (false ∷ answers) s a d.0 in
      (on_time k, (denied k answers refl, tt))
  answered_expected front r yeses q (granted e c) [] next d s a on = (on_time (due_here front r yeses [] s a d.0), tt)
  answered_expected front r yeses q (granted e c) (true ∷ answers) next d s a on =
      let b : replicate (suc yeses) true ++ answers ≡ all = one_yes yeses answers ∙ a in (
        on_time (due_here front r yeses (true ∷ answers) s a d.0),
        (on_time (due_here front r (suc yeses) answers s b d.1), on c (suc yeses) answers d.2 b),
      )
  answered_expected front r yeses q (granted e c) (false ∷ answers) next d s a on =
      let k = due_here front r yeses (false ∷ answers) s a d.0 in
      (on_time k, (denied k answers refl, tt))

  judged_expected : (front r : List ℕ) (yeses : ℕ) (v : Says) (answers : List Bool) (next : Next)
      → SaysDue terms front yeses v → front ++ r ≡ S → replicate yeses true ++ answers ≡ all → GoesOn front next
      → AllExpected (judged (rules terms) v (length front) answers next)
  judged_expected front r yeses (go c) answers next d s a on = on c yeses answers d a
  judged_expected front r yeses (tell e c) answers next d s a on = absurd d
  judged_expected front r yeses (ask q y) answers next d s a on = answered_expected front r yeses q y answers next d s a on
  judged_expected front r yeses (stop l) answers next d s a on = (on_time (due_here front r yeses answers s a d), tt)

  -- the bytes ran out
  out_expected : (c : Context) (front bs : List ℕ) (yeses : ℕ) (answers : List Bool) (t : Bool) → told ≡ t → Reached terms front yeses c
      → front ++ bs ≡ S → replicate yeses true ++ answers ≡ all → NoneBelow (is_whole c) bs (suc (length bs))
      → AllExpected (ran_out (rules terms) (length front + length bs) t)
  unfolding rules
  out_expected c front bs yeses answers false e h s a n = tt
  out_expected c front bs yeses answers true e h s a n =
      rw (← length-append front bs, s) (broken_off yeses answers a (rw s at (none_unfinished terms front yeses c bs h n)) e, tt)

  -- from a context on, where less is left after each section
  abbrev FromHere : List ℕ → Type 0
  FromHere bs = (c : Context) (front : List ℕ) (yeses : ℕ) (answers : List Bool) → Reached terms front yeses c → front ++ bs ≡ S
      → replicate yeses true ++ answers ≡ all → AllExpected (reading_at (rules terms) c (length front) bs answers told)

  one_expected : (bs : List ℕ) → ((r : List ℕ) → length r < length bs → FromHere r) → FromHere bs
  unfolding rules
  one_expected bs ih c front yeses answers h s a =
      rw (section_read (rules terms) c (length front) bs answers told) (by (cut (is_whole c) bs) (cut_is (is_whole c) bs))
    where
      by : (m : Cut) → IsCut (is_whole c) bs m
          → AllExpected (one_section (rules terms) c (length front) bs answers told m (λ c' at' r answers'. reading_at (rules terms) c' at' r answers' told))
      by uncut i = out_expected c front bs yeses answers told refl h s a i
      by (cut_at f r) i =
          let t : front ++ f ++ r ≡ S = rw (append_assoc front f r, i.0) s in
          let l : length r < length bs = rw (← i.0, length-append f r) (omega (arith, i.1)) in
          rw (← length-append front f)
          (judged_expected (front ++ f) r yeses (judge terms c f) answers _
          (judge_due terms front yeses c f h i.2 (none_front (is_whole c) f r bs i.0 i.3))
          t a (λ c' yeses' answers' h' a'. ih r l c' (front ++ f) yeses' answers' h' t a'))

  all_expected : (k : ℕ) (bs : List ℕ) → length bs ≤ k → FromHere bs
  all_expected zero bs l = one_expected bs (λ r m. absurd (omega arith))
  all_expected (suc k) bs l = one_expected bs (λ r m. all_expected k r (omega arith))

  pub reading_expected : AllExpected (plain_reading terms S all told)
  unfolding plain_reading reading
  reading_expected = all_expected (length S) S (omega arith) head [] 0 all at_head refl refl

  -- from the list to its members
  member_expected : (before after : Log Question Release LastWord) (at : ℕ) (e : StreamEvent) → AllExpected (before ++ (at, e) ∷ after)
      → Expected terms S all told at e
  member_expected [] after at e d = d.0
  member_expected (x ∷ before) after at e d = member_expected before after at e d.1

  pub stands_expected : (at : ℕ) (e : StreamEvent) → Stands (at, e) (plain_reading terms S all told) → Expected terms S all told at e
  stands_expected at e s = member_expected s.before s.after at e (rw s.joined reading_expected)
