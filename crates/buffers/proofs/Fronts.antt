-- Laws on the front of a buffer: a byte more is gathered there, a message is written, what is pending is cleared. Assumes nothing.
use mathlib.Core.Path.{◌≡◌, refl, ap}
use mathlib.Core.List.{List, [], ◌∷◌, ◌++◌}
use Prim.Native.Nat.{ℕ, ◌+◌, ◌-◌, ◌≤◌, ◌<◌, min}
use native.Mathlib.Omega.{arith}
use lib.ListN.{length, set, replicate, length-append, length-drop, length-take, length-replicate}
use Rattle.hash.proofs.ByteLaws.{fill_turn}
use Rattle.stream.specs.Buffers.{Buffers, front, into_head, into_block, with_section}
use Rattle.stream.specs.Stream.{Context, head, first_line, block_data, data_end, next_line, trailer}
use Rattle.state.specs.Configuration.{cleared}
use Rattle.agreement.proofs.Stands.{Gathered}
use Rattle.buffers.specs.Left.{buffers}

-- what is gathered lies within its buffer
pub within : {buffer : List ℕ} {n : ℕ} {g : List ℕ} → Gathered buffer n g → n ≤ length buffer
within {buffer} {n} a = rw (← a.count, ← a.bytes, length-take) (omega arith)

-- where g lies at the front, a byte more
front_more : (l buffer g : List ℕ) (n x : ℕ) → l ≡ front g buffer → length g ≡ n → n < length l → set l n x ≡ front (g ++ x ∷ []) buffer
front_more l buffer g n x e c h =
    let m : length (front g buffer) ≡ length g + (length buffer - length g) = rw (length-append, length-drop) refl in
    let k : n < n + (length buffer - n) = rw (e, m, c) at h in
    rw (e, c, length-append g (x ∷ []), c) (fill_turn g buffer n x c (omega (arith, k)))

pub head_more : (d b : Buffers) (g : List ℕ) (n x : ℕ) → d ≡ into_head g b → length g ≡ n → n < length d.head
    → buffers (set d.head n x) d.block d.question ≡ into_head (g ++ x ∷ []) b
head_more d b g n x e c h =
    let m = front_more d.head b.head g n x (ap (λ (t : Buffers). t.head) e) c h in
    λ i. buffers (m i) (e i).block (e i).question

pub block_more : (d b : Buffers) (g : List ℕ) (n x : ℕ) → d ≡ into_block g b → length g ≡ n → n < length d.block
    → buffers d.head (set d.block n x) d.question ≡ into_block (g ++ x ∷ []) b
block_more d b g n x e c h =
    let m = front_more d.block b.block g n x (ap (λ (t : Buffers). t.block) e) c h in
    λ i. buffers (e i).head (m i) (e i).question

-- a section that is not begun changes nothing
pub none_gathered : (c : Context) (b : Buffers) → with_section c [] b ≡ b
unfolding with_section
none_gathered head b = refl
none_gathered (first_line s) b = refl
none_gathered (block_data s p n) b = refl
none_gathered (data_end s p d) b = refl
none_gathered (next_line s p d) b = refl
none_gathered (trailer s p total) b = refl

pub cleared_front : (n : ℕ) (l : List ℕ) → n ≤ length l → cleared n l ≡ front (replicate n 0) l
unfolding cleared
cleared_front n l h =
    let m : min n (length l) ≡ n = omega arith in
    rw (m, length-replicate {A = ℕ} n 0) refl
