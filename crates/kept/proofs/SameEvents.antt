-- THE EVENTS ARE KEPT: what the older rules do not refuse with 3 is read as before. Assumes nothing.
use mathlib.Core.Bool.{Bool, true, false}
use mathlib.Core.List.{List, []}
use mathlib.Core.Path.{◌≡◌, refl}
use Prim.Native.Nat.{ℕ, zero, suc, ◌+◌}
use lib.ListN.{length}
use Rattle.sections.specs.Reading.{last, cut_at, cut}
use Rattle.stream.specs.Events.{refused}
use Rattle.stream.specs.Fields.{is_doubled, names_of}
use Rattle.stream.specs.Head.{Head, head_of, is_whole_head, head_fault, listed_names, signed_of, signing_string}
use Rattle.stream.specs.Places.{head_place}
use Rattle.stream.specs.Signatures.{are_fields, listed_fields}
use Rattle.stream.specs.Stream.{unless_broken, head_question, accept_head, judge_head}
use Rattle.stream.specs.Terms.{Terms}
use Rattle.exactness.specs.Telling.{Stands}
use Rattle.kept.specs.Kept.{SameEvents}
use Rattle.kept.specs.Older.{older_fault, older_signed, older_string, older_question, older_accept, older_head, older_reading}
use Rattle.kept.specs.OtherHeads.{judge_with}
use Rattle.kept.proofs.Later.{reading_same, from_head_lem}
use Rattle.kept.proofs.OlderFault.{not_doubled, same_fault, fields_there}
use Rattle.kept.proofs.OneValue.{single_fields_lem}

-- a head of listed fields that has no name twice asks and gives what it did
accept_same : (terms : Terms) (h : Head) → is_doubled (names_of h.fields) ≡ false → are_fields h.fields (listed_fields (listed_names h)) ≡ true
    → accept_head terms.ring h ≡ older_accept terms.ring h
unfolding accept_head head_question signing_string signed_of older_accept older_question older_string older_signed
accept_same terms h single there =
    let (handed, signed) = single_fields_lem h.fields (listed_fields (listed_names h)) single there in
    rw (handed, signed)

-- a head that the older rules do not refuse with 3 is judged as it was
head_same : (terms : Terms) (l : List ℕ) → (older_fault terms l ≡ 3 → ⊥) → judge_head terms l ≡ older_head terms l
unfolding judge_head older_head
head_same terms l h = rw (← same_fault terms l (not_doubled terms l h)) (by (head_fault terms l) refl)
  where
    by : (n : ℕ) → head_fault terms l ≡ n
        → unless_broken n (head_place l) (accept_head terms.ring (head_of l)) ≡ unless_broken n (head_place l) (older_accept terms.ring (head_of l))
    by zero e = accept_same terms (head_of l) (not_doubled terms l h) (fields_there terms l e)
    by (suc n) e = refl

-- a head that the older rules refuse with 3 ends the reading so
head_refused : (terms : Terms) (l r : List ℕ) (stream : List ℕ) (answers : List Bool) (told : Bool)
    → cut is_whole_head stream ≡ cut_at l r → older_fault terms l ≡ 3
    → Stands (0 + length l, last (refused 3 (head_place l))) (older_reading terms stream answers told)
unfolding older_reading older_head judge_with
head_refused terms l r stream answers told e three =
    record { before = []; after = []; joined = rw (from_head_lem (older_head terms) stream answers told, e, older_head, three) }

pub same_events : SameEvents
unfolding older_reading
same_events terms stream answers told never =
    reading_same terms (older_head terms) stream answers told
    (λ l r e. head_same terms l (λ three. never _ _ (head_refused terms l r stream answers told e three)))
