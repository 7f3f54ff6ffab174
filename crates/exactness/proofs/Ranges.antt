-- What the range of a good head says (request #104): before its first byte come whole blocks, and it ends within the body's limit; and which chunks
-- are in it. Assumes nothing.
use mathlib.Core.Bool.{true, ◌||◌}
use mathlib.Core.List.{List}
use mathlib.Core.Path.{◌≡◌, refl}
use Prim.Native.Nat.{ℕ, zero, suc, ◌+◌, ◌*◌, ◌/◌, ◌≤◌}
use native.Mathlib.Omega.{arith}
use borrow.Author.Tests.{leb-true, le-leb, ltb-true}
use lib.Dec.{leb, ltb}
use Rattle.stream.specs.Head.{head_of, range_of, block_size, text_rules}
use Rattle.stream.specs.Limits.{body_limit}
use Rattle.stream.specs.Range.{Range, whole, part, first_byte, is_within, is_aligned}
use Rattle.stream.specs.Terms.{Terms}
use Rattle.stream.proofs.Aligned.{aligned_first, ranged_aligned, whole_blocks}
use Rattle.stream.proofs.Truth.{left_holds, right_holds}
use Rattle.exactness.specs.Good.{GoodHead, InRange, of_all, of_part}

-- ---- a chunk in a range

pub within_range : (r : Range) (sofar n : ℕ) → InRange r sofar n → is_within r sofar n ≡ true
unfolding is_within
within_range r sofar n of_all = refl
within_range r sofar n (of_part {b = b} past all) = rw (le-leb (sofar + n) (suc b) past) (by n all)
  where
    by : (m : ℕ) → (m ≡ 0 → sofar ≡ suc b) → (leb 1 m || leb (suc b) sofar) ≡ true
    by zero all = le-leb (suc b) sofar (omega (arith, all refl))
    by (suc m) all = rw (le-leb 1 (suc m) (omega arith))

pub range_within : (r : Range) (sofar n : ℕ) → is_within r sofar n ≡ true → InRange r sofar n
unfolding is_within
range_within whole sofar n h = of_all
range_within (part a b t) sofar n h =
    let past = leb-true (sofar + n) (suc b) (left_holds (leb (sofar + n) (suc b)) _ h) in
    of_part past (by n past (right_holds (leb (sofar + n) (suc b)) _ h))
  where
    by : (m : ℕ) → sofar + m ≤ suc b → (leb 1 m || leb (suc b) sofar) ≡ true → m ≡ 0 → sofar ≡ suc b
    by zero past k e = omega (arith, leb-true (suc b) sofar k)
    by (suc m) past k e = absurd (omega arith)

-- ---- the range of a good head

pub head_aligned : {terms : Terms} {l : List ℕ} → GoodHead terms l → is_aligned (block_size (head_of l)) (range_of (head_of l)) ≡ true
unfolding text_rules
head_aligned {l = l} g = ranged_aligned (head_of l) g.text.1.1.1.1.1.1.1.1.0

-- "a divisible by N"
pub starts_with_block : (N : ℕ) (r : Range) → is_aligned N r ≡ true → first_byte r / N * N ≡ first_byte r
starts_with_block N r k = whole_blocks N (first_byte r) (aligned_first N r k)

-- "a at most b"
pub begins_before : (N a b t : ℕ) → is_aligned N (part a b t) ≡ true → a ≤ b
unfolding is_aligned
begins_before N a b t k = leb-true a b (left_holds (leb a b) _ k)

-- "b below t, t within the body limit"
pub ends_within_lem : (N a b t : ℕ) → is_aligned N (part a b t) ≡ true → suc b ≤ body_limit
unfolding is_aligned
ends_within_lem N a b t k =
    let below : ltb b t ≡ true = search (left_holds, right_holds) depth 10 in
    let limit : leb t body_limit ≡ true = search (left_holds, right_holds) depth 10 in
    omega (arith, ltb-true b t below, leb-true t body_limit limit)
