-- The numbers of a word as they stand in a result's bytes. Assumes nothing.
use mathlib.Core.List.{List, [], ◌∷◌, ◌++◌, append_assoc, append-nil}
use mathlib.Core.Path.{◌≡◌, refl, ap, ap₂, ◌∙◌}
use native.Mathlib.Omega.{arith}
use borrow.Author.Tests.{le-leb}
use Prim.Native.Nat.{ℕ, zero, suc, ◌+◌, ◌/◌, ◌^◌, ◌≤◌, ◌<◌}
use lib.ListN.{length, drop, set, get_or}
use lib.Seq.{sets, sets-eq, get_or-set_other}
use Rattle.packing.specs.Parts.{little_endian, all_bytes, part, up_to, number_at, number}
use Rattle.packing.proofs.PartLaws.{At, past, concat, part_there, number_there, long_all, long_bytes, sets_append}
use Rattle.results.specs.Results.{result_size, word_of, first_in, second_in, result_bytes, result_in}
use Rattle.state.specs.declared.word.Word.{Word}

-- ---- bytes that are written after a place leave those before it

get_before : (s l : List ℕ) (at i : ℕ) → i < at → get_or (sets l at s) i 0 ≡ get_or l i 0
get_before [] l at i h = refl
get_before (x ∷ s) l at i h = get_before s (set l at x) (suc at) i (omega arith) ∙ get_or-set_other l at i x 0 (λ e. omega arith)

part_before : (k : ℕ) (s l : List ℕ) (at n : ℕ) → n + k ≤ at → part (sets l at s) n k ≡ part l n k
unfolding up_to
part_before zero s l at n h = refl
part_before (suc k) s l at n h =
    ap₂ (λ (p : List ℕ) (x : ℕ). p ++ (x ∷ [])) (part_before k s l at n (omega arith)) (get_before s l at (n + k) (omega arith))

number_before : (s l : List ℕ) (at n : ℕ) → n + 8 ≤ at → number_at (sets l at s) n ≡ number_at l n
unfolding number_at
number_before s l at n h = ap number (part_before 8 s l at n h)

-- a number as bytes is never read as a larger one
number_most : (k n : ℕ) → number (little_endian k n) ≤ n
unfolding number little_endian
number_most zero n = omega arith
number_most (suc k) n = let e = number_most k (n / 256) in omega (arith, e)

-- ---- the result

module _ (w : Word) (taken : ℕ) (signature t : List ℕ) (room : result_size ≤ length t) where
  abbrev numbers : List ℕ
  numbers = all_bytes (word_of w ∷ taken ∷ first_in w ∷ second_in w ∷ [])

  long_numbers : length numbers ≡ 32
  long_numbers = long_all (word_of w ∷ taken ∷ first_in w ∷ second_in w ∷ [])

  number_in : (n : ℕ) → n + 8 ≤ 32 → number_at (result_in w taken signature t) n ≡ number_at (sets t 0 numbers) n
  unfolding result_in result_bytes
  number_in n h =
      rw (le-leb result_size (length t) room, sets_append t numbers signature 0)
      (number_before signature (sets t 0 numbers) (0 + length numbers) n (omega (arith, long_numbers)))

  in_parts : At (sets t 0 numbers) 0 (little_endian 8 (word_of w) ∷ little_endian 8 taken ∷ little_endian 8 (first_in w) ∷ little_endian 8 (second_in w) ∷ drop (0 + length numbers) t ∷ [])
  unfolding all_bytes concat
  in_parts = record { there = sets-eq numbers t 0 (omega (arith, long_numbers)) ∙ (simp (append_assoc, append-nil)) }

  pub first_in_lem : first_in w < 2 ^ 64 → number_at (result_in w taken signature t) 16 ≡ first_in w
  first_in_lem h =
      let a₁ = past in_parts 8 (long_bytes 8 _) in
      let a₂ = past a₁ 8 (long_bytes 8 _) in
      number_in 16 (omega arith) ∙ number_there (first_in w) a₂ h

  pub second_in_lem : second_in w < 2 ^ 64 → number_at (result_in w taken signature t) 24 ≡ second_in w
  second_in_lem h =
      let a₁ = past in_parts 8 (long_bytes 8 _) in
      let a₂ = past a₁ 8 (long_bytes 8 _) in
      let a₃ = past a₂ 8 (long_bytes 8 _) in
      number_in 24 (omega arith) ∙ number_there (second_in w) a₃ h

  taken_there : number_at (sets t 0 numbers) 8 ≤ taken
  unfolding number_at
  taken_there = rw (part_there (past in_parts 8 (long_bytes 8 _)) 8 (long_bytes 8 taken)) (number_most 8 taken)

  pub taken_in : number_at (result_in w taken signature t) 8 ≤ taken
  taken_in = rw (number_in 8 (omega arith)) taken_there
