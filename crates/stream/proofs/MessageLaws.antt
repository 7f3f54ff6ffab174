-- How long a block message is: at most 140 bytes. Assumes nothing.
use mathlib.Core.Bool.{Bool, true, false}
use mathlib.Core.List.{List, [], ◌∷◌, ◌++◌}
use mathlib.Core.Path.{◌≡◌, refl}
use Prim.Native.Nat.{ℕ, zero, suc, ◌+◌, ◌/◌, ◌%◌, ◌^◌, ◌≤◌, ◌<◌}
use native.Mathlib.Omega.{arith}
use native.Mathlib.Nat.{div-lt_iff_lt-mul, pow-suc}
use lib.Dec.{ltb}
use lib.ListN.{length, length-append}
use borrow.Author.Tests.{ltb-false}
use Rattle.hash.proofs.DigestLaws.{length_sha512}
use Rattle.stream.specs.Blocks.{chained, block_message}
use Rattle.stream.specs.Limits.{id_limit, body_limit}
use Rattle.stream.specs.Numbers.{decimal_within, decimal}

-- a number below 10 ^ d has at most d digits
within_length : (most d n : ℕ) → n < 10 ^ suc d → length (decimal_within most n) ≤ suc d
unfolding decimal_within
within_length zero d n h = omega arith
within_length (suc most) d n h = by (ltb n 10) refl d h (λ e h'. within_length most e (n / 10) h')
  where
    digits : Bool → List ℕ
    digits t = elim t [ true ↦ (48 + n) ∷ [] | false ↦ decimal_within most (n / 10) ++ ((48 + n % 10) ∷ []) ]

    by : (t : Bool) → ltb n 10 ≡ t → (d : ℕ) → n < 10 ^ suc d → ((e : ℕ) → n / 10 < 10 ^ suc e → length (decimal_within most (n / 10)) ≤ suc e)
        → length (digits t) ≤ suc d
    by true e d h ih = omega arith
    by false e zero h ih = absurd (omega (arith, ltb-false n 10 e))
    by false e (suc d) h ih =
        let k : n / 10 < 10 ^ suc d = (div-lt_iff_lt-mul {k = 10} {x = n} {y = 10 ^ suc d} (omega arith)).1 (rw pow-suc at h) in
        rw length-append (omega (arith, ih d k))

-- an offset within the body's limit has at most ten digits
pub offset_length : (n : ℕ) → n ≤ body_limit → length (decimal n) ≤ 10
unfolding decimal
offset_length n h = within_length (suc n) 9 n (omega arith)

-- 64 bytes of id, a zero, ten digits, a zero, 64 bytes of hash
pub message_length : (id : List ℕ) (offset : ℕ) (before b : List ℕ) → length id ≤ id_limit → offset ≤ body_limit
    → length (block_message id offset (chained before b)) ≤ 140
unfolding block_message chained
message_length id offset before b h k =
    simp length-append (omega (arith, offset_length offset k, length_sha512 (before ++ b)))
