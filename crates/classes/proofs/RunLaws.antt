-- Runs at a place of a text: how far a run goes from there, and what it leaves. Assumes nothing.
use mathlib.Core.Path.{◌≡◌, refl, sym, ap, ◌∙◌}
use mathlib.Core.Bool.{Bool, true, false, cond}
use mathlib.Core.List.{List, [], ◌∷◌}
use Prim.Native.Nat.{ℕ, suc, min, ◌+◌, ◌-◌, ◌≤◌, ◌<◌}
use native.Mathlib.Numerals.{add-one}
use native.Mathlib.Omega.{arith}
use lib.ListN.{length, get_or, take, drop, drop_of_length-le, length-drop}
use lib.Seq.{drop-cons}
use Rattle.std.specs.List.{prefix_len}
use Rattle.std.proofs.lemmas.List.{drop_min}
use Rattle.std.proofs.lemmas.List.Folds.{length-prefix_len}
use Rattle.std.proofs.lemmas.Slice.{between_to_end}
use Rattle.octets.specs.Choice.{pick}
use Rattle.stream.specs.Template.{run, past}

-- ---- a run by its first byte

pub run_cons : (p : ℕ → Bool) (b : ℕ) (l : List ℕ) (t : Bool) → p b ≡ t → run p (b ∷ l) ≡ pick t (b ∷ run p l) []
unfolding run
run_cons p b l true e = rw (e, run)
run_cons p b l false e = rw (e, run)

-- ---- a run from place i, by what stands there

module _ (p : ℕ → Bool) (s : List ℕ) (i : ℕ) where
  pub run_on : i < length s → p (get_or s i 0) ≡ true → length (run p (drop i s)) ≡ suc (length (run p (drop (i + 1) s)))
  unfolding run
  run_on h e = rw (add-one i, drop-cons s i 0, e, run)

  pub run_off : i < length s → p (get_or s i 0) ≡ false → length (run p (drop i s)) ≡ 0
  unfolding run
  run_off h e = rw (drop-cons s i 0, e, run)

  pub run_out : length s ≤ i → length (run p (drop i s)) ≡ 0
  unfolding run
  run_out h = rw drop_of_length-le

-- ---- a run and what comes after it are the text, cut at the run's length

pub run_take : (p : ℕ → Bool) (l : List ℕ) → run p l ≡ take (length (run p l)) l
unfolding run
run_take p [] = refl
run_take p (b ∷ l) = go (p b) (run_take p l)
  where
    go : (t : Bool) → run p l ≡ take (length (run p l)) l → elim t [ true ↦ b ∷ run p l | false ↦ [] ] ≡ take (length {A = ℕ} (elim t [ true ↦ b ∷ run p l | false ↦ [] ])) (b ∷ l)
    go true h = ap (λ (r : List ℕ). b ∷ r) h
    go false h = refl

pub past_drop : (p : ℕ → Bool) (l : List ℕ) → past p l ≡ drop (length (run p l)) l
unfolding run past
past_drop p [] = refl
past_drop p (b ∷ l) = go (p b) (past_drop p l)
  where
    go : (t : Bool) → past p l ≡ drop (length (run p l)) l → elim t [ true ↦ past p l | false ↦ b ∷ l ] ≡ drop (length {A = ℕ} (elim t [ true ↦ b ∷ run p l | false ↦ [] ])) (b ∷ l)
    go true h = h
    go false h = refl

-- as std counts it
run_prefix : (p : ℕ → Bool) (l : List ℕ) → length (run p l) ≡ prefix_len p l
unfolding run
run_prefix p [] = refl
run_prefix p (b ∷ l) = go (p b) (run_prefix p l)
  where
    go : (t : Bool) → length (run p l) ≡ prefix_len p l → length {A = ℕ} (elim t [ true ↦ b ∷ run p l | false ↦ [] ]) ≡ cond t (1 + prefix_len p l) 0
    go true h = omega (arith, h)
    go false h = refl

pub run_count : (p : ℕ → Bool) (l : List ℕ) → length (take (prefix_len p l) l) ≡ length (run p l)
run_count p l = length-prefix_len p l ∙ sym (run_prefix p l)

-- the text from a place on, or from its end where the place is past that
pub rest_from : (s : List ℕ) (i k : ℕ) → k ≡ min i (length s) → take (length s - k) (drop k s) ≡ drop i s
rest_from s i k e = between_to_end s k (length s) (omega arith) ∙ rw e (drop_min i s)

pub run_le : (p : ℕ → Bool) (l : List ℕ) → length (run p l) ≤ length l
unfolding run
run_le p [] = omega arith
run_le p (b ∷ l) = go (p b) (run_le p l)
  where
    go : (t : Bool) → length (run p l) ≤ length l → length {A = ℕ} (elim t [ true ↦ b ∷ run p l | false ↦ [] ]) ≤ suc (length l)
    go true h = omega arith
    go false h = omega arith

-- e is where the run from i ends
pub run_within : (p : ℕ → Bool) (s : List ℕ) (i e : ℕ) → e ≡ i + length (run p (drop i s)) → i ≤ length s → (i ≤ e) × (e ≤ length s)
run_within p s i e f h = (omega arith, omega (arith, run_le p (drop i s), length-drop i s))
