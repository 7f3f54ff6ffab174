-- The bytes of a part answer begin with a block (request #104: "a divisible by N"). Assumes nothing.
use mathlib.Core.Bool.{Bool, true, false, ◌&&◌, ◌||◌, not}
use mathlib.Core.Path.{◌≡◌, refl}
use Prim.Native.Nat.{ℕ, zero, suc, ◌*◌, ◌/◌, ◌%◌, ◌≤◌}
use native.Mathlib.Nat.{zero-mod, zero-mul, div-add-mod'}
use native.Mathlib.Omega.{arith}
use borrow.Author.Tests.{eqb-true, eq-eqb}
use lib.Dec.{eqb}
use Rattle.octets.specs.Choice.{pick}
use Rattle.stream.specs.Fields.{count_of}
use Rattle.stream.specs.Head.{Head, is_partial, content_range, range_of, block_size, is_ranged}
use Rattle.stream.specs.Range.{Range, whole, part, first_byte, content_range_name, range_said, is_multiple_of, is_aligned, is_content_range}
use Rattle.stream.proofs.Truth.{left_holds, right_holds}

-- 0 is divisible, whatever N is
pub aligned_first : (N : ℕ) (r : Range) → is_aligned N r ≡ true → is_multiple_of N (first_byte r) ≡ true
unfolding is_aligned first_byte
aligned_first N whole h = eq-eqb (0 % N) 0 (zero-mod N)
aligned_first N (part a b t) h =
    let m : is_multiple_of N a && (eqb (suc b) t || is_multiple_of N (suc b)) ≡ true = search (right_holds) depth 6 in
    left_holds (is_multiple_of N a) (eqb (suc b) t || is_multiple_of N (suc b)) m

-- a head without fault says so
pub ranged_aligned : (h : Head) → is_ranged h ≡ true → is_aligned (block_size h) (range_of h) ≡ true
unfolding is_ranged range_of is_content_range is_aligned
ranged_aligned h = by (is_partial h)
  where
    by : (x : Bool) → not x || (eqb (count_of content_range_name h.fields) 1 && is_content_range (block_size h) (content_range h)) ≡ true
        → is_aligned (block_size h) (pick x (range_said (content_range h)) whole) ≡ true
    by true k = search (right_holds) depth 8
    by false k = refl

-- so the blocks before it have just its bytes
pub whole_blocks : (N a : ℕ) → is_multiple_of N a ≡ true → a / N * N ≡ a
whole_blocks N a e = omega (arith, eqb-true (a % N) 0 e, div-add-mod' a N)

-- and there is one where a is above 0
pub some_block : (N a : ℕ) → is_multiple_of N a ≡ true → 1 ≤ a → 1 ≤ a / N
some_block N a e h = by (a / N) (whole_blocks N a e)
  where
    by : (q : ℕ) → q * N ≡ a → 1 ≤ q
    by zero k = absurd (omega (arith, zero-mul N))
    by (suc q) k = omega arith
