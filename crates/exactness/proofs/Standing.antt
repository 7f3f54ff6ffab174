-- Every event that is expected stands in the plain reading. Assumes nothing.
use mathlib.Core.Bool.{Bool, true, false}
use mathlib.Core.List.{List, [], ◌∷◌, ◌++◌, append_assoc}
use mathlib.Core.Path.{sym, ◌∙◌}
use Prim.Native.Nat.{ℕ}
use lib.ListN.{length, replicate}
use Rattle.sections.specs.Reading.{question, message, last, reading}
use Rattle.stream.specs.Events.{refused}
use Rattle.stream.specs.Head.{head_of}
use Rattle.stream.specs.Stream.{rules, plain_reading}
use Rattle.stream.specs.Terms.{Terms}
use Rattle.exactness.specs.Beginning.{onward, written, head_in, questions}
use Rattle.exactness.specs.Telling.{StreamEvent, head_asks, block_asks, end_asks, Decides, head_asked, head_told, block_asked, block_told, body_closed, end_asked, completed, rule_broken, Due, Expected, on_time, denied, broken_off, Stands, log_of}
use Rattle.exactness.proofs.Forward.{one_yes, reading_asked, reading_closed, reading_claimed}
use Rattle.exactness.proofs.Refused.{refuses_stands}
use Rattle.exactness.proofs.Steps.{head_step}
use Rattle.exactness.proofs.Unfinished.{unfinished_stands}

module _ (terms : Terms) where
  decides_stands : (front rest : List ℕ) (yeses : ℕ) (others : List Bool) (told : Bool) (e : StreamEvent) → Decides terms front yeses e
      → Stands (length front, e) (plain_reading terms (front ++ rest) (replicate yeses true ++ others) told)
  unfolding plain_reading reading
  decides_stands front rest yeses others told e (head_asked {h = h} g) =
      record { before = []; after = _; joined = sym (head_step terms h rest others told g) }
  decides_stands front rest yeses others told e (head_told {h = h} g) =
      record {
        before = (length h, question (head_asks terms.ring (head_of h))) ∷ [];
        after = _;
        joined = sym (head_step terms h rest (true ∷ others) told g);
      }
  decides_stands front rest yeses others told e (block_asked {w = w} {b = b} {l = l} g) =
      record { before = log_of terms.ring w; after = _; joined = sym (reading_asked terms w b l rest others told g) }
  decides_stands front rest yeses others told e (block_told {w = w} {b = b} {l = l} g) =
      rw (one_yes (questions w) others)
      record {
        before = log_of terms.ring w ++ (length (written (onward w b l)), question (block_asks terms.ring w b l)) ∷ [];
        after = _;
        joined = append_assoc (log_of terms.ring w) _ _ ∙ sym (reading_asked terms w b l rest (true ∷ others) told g);
      }
  decides_stands front rest yeses others told e (body_closed {w = w} {t = t} g z k c) =
      record { before = log_of terms.ring w; after = []; joined = sym (reading_closed terms w t rest others told g z k c) }
  decides_stands front rest yeses others told e (end_asked {w = w} {t = t} g z k c) =
      record { before = log_of terms.ring w; after = _; joined = sym (reading_claimed terms w t rest others told g z k c) }
  decides_stands front rest yeses others told e (completed {w = w} {t = t} g z k c) =
      rw (one_yes (questions w) others)
      record {
        before = log_of terms.ring w ++ (length (written w ++ t), question (end_asks terms.ring (head_in w) t)) ∷ [];
        after = [];
        joined = append_assoc (log_of terms.ring w) _ _ ∙ sym (reading_claimed terms w t rest (true ∷ others) told g z k c);
      }
  decides_stands front rest yeses others told e (rule_broken r) = refuses_stands terms front rest yeses others told _ _ r

  due_stands : (S : List ℕ) (answers : List Bool) (told : Bool) (at : ℕ) (e : StreamEvent) → Due terms S answers at e
      → Stands (at, e) (plain_reading terms S answers told)
  due_stands S answers told at e d =
      rw (← d.stream, ← d.place, ← d.granted) (decides_stands d.front d.rest d.yeses d.others told e d.decides)

  -- where a question is decided, a no gives refusal 10
  abbrev Denies : List ℕ → ℕ → StreamEvent → Type 0
  Denies front yeses (question q) = (rest : List ℕ) (others : List Bool) (told : Bool)
      → Stands (length front, last (refused 10 0)) (plain_reading terms (front ++ rest) (replicate yeses true ++ (false ∷ others)) told)
  Denies front yeses (message e) = Unit {0}
  Denies front yeses (last l) = Unit {0}

  no_stands : (front : List ℕ) (yeses : ℕ) (e : StreamEvent) → Decides terms front yeses e → Denies front yeses e
  unfolding plain_reading reading rules
  no_stands front yeses e (head_asked {h = h} g) = λ rest others told.
      record {
        before = (length h, question (head_asks terms.ring (head_of h))) ∷ [];
        after = [];
        joined = sym (head_step terms h rest (false ∷ others) told g);
      }
  no_stands front yeses e (head_told g) = tt
  no_stands front yeses e (block_asked {w = w} {b = b} {l = l} g) = λ rest others told.
      record {
        before = log_of terms.ring w ++ (length (written (onward w b l)), question (block_asks terms.ring w b l)) ∷ [];
        after = [];
        joined = append_assoc (log_of terms.ring w) _ _ ∙ sym (reading_asked terms w b l rest (false ∷ others) told g);
      }
  no_stands front yeses e (block_told g) = tt
  no_stands front yeses e (body_closed g z k c) = tt
  no_stands front yeses e (end_asked {w = w} {t = t} g z k c) = λ rest others told.
      record {
        before = log_of terms.ring w ++ (length (written w ++ t), question (end_asks terms.ring (head_in w) t)) ∷ [];
        after = [];
        joined = append_assoc (log_of terms.ring w) _ _ ∙ sym (reading_claimed terms w t rest (false ∷ others) told g z k c);
      }
  no_stands front yeses e (completed g z k c) = tt
  no_stands front yeses e (rule_broken r) = tt

  pub expected_stands : (S : List ℕ) (answers : List Bool) (told : Bool) (at : ℕ) (e : StreamEvent) → Expected terms S answers told at e
      → Stands (at, e) (plain_reading terms S answers told)
  expected_stands S answers told at e (on_time d) = due_stands S answers told at e d
  expected_stands S answers told at e (denied {q = q} d others o) =
      rw (← d.stream, ← d.place, ← d.granted, o) (no_stands d.front d.yeses (question q) d.decides d.rest others told)
  expected_stands S answers told at e (broken_off yeses others a u t) = rw (t, ← a) (unfinished_stands terms S yeses others u)
