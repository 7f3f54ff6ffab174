-- Laws on what is told: a told event comes from just one event, and the blocks that are told, joined, are those released.
-- Assumes nothing.
use mathlib.Core.Path.{◌≡◌, refl, sym, ap}
use mathlib.Core.Bool.{Bool, true, false, true≢false}
use mathlib.Core.List.{List, [], ◌∷◌, ◌++◌}
use Prim.Native.Nat.{ℕ}
use Rattle.sections.specs.Reading.{Event, question, message, last, Log}
use Rattle.stream.specs.Events.{Question, Release, head_accepted, block, LastWord}
use Rattle.agreement.specs.Observation.{Told}
use Rattle.agreement.specs.Observation as S
use Rattle.agreement.specs.Plain.{told, told_event, told_log}
use Rattle.exactness.specs.Telling.{Stands, released}
use Rattle.claims.specs.Body.{bytes_told, body_told}
use Rattle.claims.proofs.Untold.{stands_told, stands_untold}

-- ---- a block

abbrev is_block : Event Question Told LastWord → Bool
is_block (question q) = false
is_block (message (S.head_accepted status value)) = false
is_block (message (S.block o n b)) = true
is_block (last l) = false

abbrev offset_in : Event Question Told LastWord → ℕ
offset_in (question q) = 0
offset_in (message (S.head_accepted status value)) = 0
offset_in (message (S.block o n b)) = o
offset_in (last l) = 0

pub block_from : (e : Event Question Release LastWord) (o : ℕ) (b : List ℕ) → told_event e ≡ message (told (block o b)) → e ≡ message (block o b)
block_from (question q) o b x = absurd (true≢false (sym (ap is_block x)))
block_from (message (head_accepted status fields)) o b x = absurd (true≢false (sym (ap is_block x)))
block_from (message (block o' b')) o b x =
    let p : o' ≡ o = ap offset_in x in
    let r : b' ≡ b = ap bytes_told x in
    λ i. message (block (p i) (r i))
block_from (last l) o b x = absurd (true≢false (sym (ap is_block x)))

-- ---- where it stands

module _ (at o : ℕ) (b : List ℕ) where
  pub block_told : (log : Log Question Release LastWord) → Stands (at, message (block o b)) log → Stands (at, message (told (block o b))) (told_log log)
  block_told log s = stands_told at (message (block o b)) log s

  pub told_block : (log : Log Question Release LastWord) → Stands (at, message (told (block o b))) (told_log log) → Stands (at, message (block o b)) log
  told_block log s = stands_untold at (message (block o b)) log (λ x e. block_from x o b e) s

pub body_told_lem : (log : Log Question Release LastWord) → body_told (told_log log) ≡ released log
unfolding body_told told_log released
body_told_lem [] = refl
body_told_lem ((at, question q) ∷ log) = body_told_lem log
body_told_lem ((at, message (head_accepted status fields)) ∷ log) = body_told_lem log
body_told_lem ((at, message (block o b)) ∷ log) = ap (λ (l : List ℕ). b ++ l) (body_told_lem log)
body_told_lem ((at, last l) ∷ log) = body_told_lem log
