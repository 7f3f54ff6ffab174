-- What a template finds in a text is no longer than the text: its fixed texts and the runs that it keeps, together. Assumes nothing.
use mathlib.Core.Bool.{Bool, true, false, false≢true}
use mathlib.Core.List.{List, [], ◌∷◌, ◌++◌}
use mathlib.Core.Path.{◌≡◌, refl, ap}
use Prim.Native.Nat.{ℕ, suc, ◌+◌, ◌≤◌}
use native.Mathlib.Omega.{arith}
use lib.ListN.{length, take, drop, length-take, length-drop}
use Rattle.stream.specs.Bytes.{is_blank}
use Rattle.stream.specs.Template.{Part, text, bytes, gap, Scanned, parts, unlike, keep, run, past, starts_with, scan, is_like, kept}
use Rattle.stream.proofs.Truth.{same_equal}

-- the sum over a list
abbrev pub total : {A : Type 0} → (A → ℕ) → List A → ℕ
total f [] = 0
total f (x ∷ xs) = f x + total f xs

-- a run and what comes after it are the text
pub run_past : (p : ℕ → Bool) (l : List ℕ) → length (run p l) + length (past p l) ≡ length l
unfolding run past
run_past p [] = refl
run_past p (b ∷ l) = by (p b) (run_past p l)
  where
    by : (t : Bool) → length (run p l) + length (past p l) ≡ length l
        → length {A = ℕ} (elim t [ true ↦ b ∷ run p l | false ↦ [] ]) + length {A = ℕ} (elim t [ true ↦ past p l | false ↦ b ∷ l ]) ≡ suc (length l)
    by true ih = omega arith
    by false ih = omega arith

-- the bytes of a template's fixed texts
abbrev pub part_size : Part → ℕ
part_size (text t) = length t
part_size (bytes p) = 0
part_size gap = 0

-- the bytes of the runs that were kept
abbrev pub kept_size : Scanned → ℕ
kept_size (parts ls) = total length ls
kept_size unlike = 0

keep_like : (l : List ℕ) (s : Scanned) → is_like (keep l s) ≡ true → is_like s ≡ true
keep_like l (parts ls) h = refl
keep_like l unlike h = h

keep_size : (l : List ℕ) (s : Scanned) → kept_size (keep l s) ≤ length l + kept_size s
keep_size l (parts ls) = omega arith
keep_size l unlike = omega arith

starts_size : (t l : List ℕ) → starts_with t l ≡ true → length t ≤ length l
unfolding starts_with
starts_size t l h = omega (arith, ap length (same_equal t (take (length t) l) h), length-take (length t) l)

-- what `scan_fits` says of a template ps, a text l and the outcome s
abbrev Fits : List Part → List ℕ → Scanned → Type 0
Fits ps l s = is_like s ≡ true → total part_size ps + kept_size s ≤ length l

pub scan_fits : (ps : List Part) (l : List ℕ) → is_like (scan ps l) ≡ true → total part_size ps + kept_size (scan ps l) ≤ length l
unfolding scan
scan_fits [] [] h = omega arith
scan_fits [] (b ∷ l) h = absurd (false≢true h)
scan_fits (text t ∷ ps) l h = by (starts_with t l) refl (scan_fits ps (drop (length t) l)) h
  where
    by : (x : Bool) → starts_with t l ≡ x → Fits ps (drop (length t) l) (scan ps (drop (length t) l))
        → Fits (text t ∷ ps) l (elim x [ true ↦ scan ps (drop (length t) l) | false ↦ unlike ])
    by true e ih k = omega (arith, ih k, starts_size t l e, length-drop (length t) l)
    by false e ih k = absurd (false≢true k)
scan_fits (bytes p ∷ ps) l h =
    let s : Scanned = scan ps (past p l) in
    omega (arith, scan_fits ps (past p l) (keep_like (run p l) s h), keep_size (run p l) s, run_past p l)
scan_fits (gap ∷ ps) l h = omega (arith, scan_fits ps (past is_blank l) h, run_past is_blank l)

-- the first, the second and the fourth run are among those that were kept
pub three_kept : (s : Scanned) → length (kept 0 s) + length (kept 1 s) + length (kept 3 s) ≤ kept_size s
three_kept (parts []) = omega arith
three_kept (parts (a ∷ [])) = omega arith
three_kept (parts (a ∷ b ∷ [])) = omega arith
three_kept (parts (a ∷ b ∷ c ∷ [])) = omega arith
three_kept (parts (a ∷ b ∷ c ∷ d ∷ ls)) = omega arith
three_kept unlike = omega arith

-- the sum over two lists
pub total_append : {A : Type 0} (f : A → ℕ) (xs ys : List A) → total f (xs ++ ys) ≡ total f xs + total f ys
total_append f [] ys = omega arith
total_append f (x ∷ xs) ys = omega (arith, total_append f xs ys)
