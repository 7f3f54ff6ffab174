-- Texts written one after another: two are as one, and what stands at the front of a buffer. Assumes nothing.
use mathlib.Core.Bool.{Bool, true, false}
use mathlib.Core.List.{List, [], ◌++◌, append_assoc}
use mathlib.Core.Path.{◌≡◌, refl, sym, ap, ap₂, ◌∙◌}
use Prim.Native.Nat.{ℕ, ◌+◌, ◌≤◌, ◌<◌}
use native.Mathlib.Nat.{add-zero, zero-add}
use native.Mathlib.Numerals.{add-one}
use native.Mathlib.Omega.{arith}
use borrow.Author.Tests.{leb-true, leb-false}
use lib.Dec.{leb}
use lib.ListN.{length, take, drop, set, get_or, length-append, length-take, length-drop}
use lib.Seq.{paste, paste-zero, paste-suc, take-paste, drop-paste, take-length, take-append-le, take-append-add, drop-drop}
use Rattle.places.specs.Writing.{Placed, placed, room, wrote}

-- a turn of a loop that writes s over d
pub put_turn : (d b s : List ℕ) (at i x : ℕ) → b ≡ paste d at s i → at + i < length d → i < length s → x ≡ get_or s i 0 → set b (at + i) x ≡ paste d at s (i + 1)
put_turn d b s at i x e h k f = rw (e, f, add-one) (paste-suc d at s i 0 h k)

pub put_end : (d b s : List ℕ) (at i : ℕ) → b ≡ paste d at s i → i ≡ room d at s → placed (at + i) b ≡ wrote d at s
unfolding wrote
put_end d b s at i e f = rw (e, f)

-- nothing is written
module _ (d : List ℕ) (at : ℕ) where
  wrote_none : (l : List ℕ) → room d at l ≡ 0 → placed at d ≡ wrote d at l
  unfolding wrote
  wrote_none l e = rw (e, add-zero at) (ap (placed at) (paste-zero d at l ∙ rw (add-zero at)))

  pub wrote_nil : placed at d ≡ wrote d at []
  wrote_nil = wrote_none [] (omega arith)

-- at the front of a buffer that has room
pub wrote_front : (d l : List ℕ) → length l ≤ length d → wrote d 0 l ≡ placed (length l) (l ++ drop (length l) d)
unfolding wrote
wrote_front d l h =
    let r : room d 0 l ≡ length l = omega arith in
    rw (r, zero-add, take-length l)

-- m bytes of t over those after s, which stands over d
module _ (d : List ℕ) (at : ℕ) (s t : List ℕ) (m : ℕ) (h : at + length s ≤ length d) where
  abbrev first : List ℕ
  first = paste d at s (length s)

  front : take (at + length s) first ≡ take at d ++ s
  front = take-paste d at s (length s) (omega arith) (omega arith) ∙ rw (take-length s)

  behind : drop (at + length s + m) first ≡ drop (at + (length s + m)) d
  behind =
      let e : at + length s + m ≡ at + (length s + m) = omega arith in
      sym (drop-drop m (at + length s) first)
      ∙ ap (drop m) (drop-paste d at s (length s) (omega arith) (omega arith))
      ∙ drop-drop m (at + length s) d ∙ ap (λ (k : ℕ). drop k d) e

  paste_both : paste first (at + length s) t m ≡ paste d at (s ++ t) (length s + m)
  paste_both = rw (front, behind, take-append-add s t m) (ap (λ (x : List ℕ). x ++ drop (at + (length s + m)) d) (append_assoc (take at d) s (take m t)))

-- what a call answered: the next place, and the buffer
module _ (d : List ℕ) (at : ℕ) (s : List ℕ) (n : ℕ) (b : List ℕ) (e : placed n b ≡ wrote d at s) where
  pub next_is : n ≡ at + room d at s
  unfolding wrote
  next_is = ap (λ (p : Placed). p.next) e

  pub bytes_are : b ≡ paste d at s (room d at s)
  unfolding wrote
  bytes_are = ap (λ (p : Placed). p.bytes) e

  pub same_size : length b ≡ length d
  same_size =
      let r = room d at s in
      omega (
        arith,
        ap length bytes_are,
        length-append (take at d ++ take r s) (drop (at + r) d),
        length-append (take at d) (take r s),
        length-take at d,
        length-take r s,
        length-drop (at + r) d,
      )

  -- t after it: s fits, or it leaves no room
  module _ (t : List ℕ) where
    fits : at + length s ≤ length d → wrote b n t ≡ wrote d at (s ++ t)
    unfolding wrote
    fits h =
        let f : n ≡ at + length s = omega (arith, next_is) in
        let r : room d at s ≡ length s = omega arith in
        let g : b ≡ paste d at s (length s) = bytes_are ∙ ap (paste d at s) r in
        let k : room d at (s ++ t) ≡ length s + room b n t = omega (arith, length-append s t, same_size) in
        ap₂ placed (omega arith) (rw (k, f, g) (paste_both d at s t _ h))

    full : length d < at + length s → wrote b n t ≡ wrote d at (s ++ t)
    unfolding wrote
    full h =
        let k : room d at (s ++ t) ≡ room d at s = omega (arith, length-append s t) in
        let z : room b n t ≡ 0 = omega (arith, same_size, next_is) in
        sym (wrote_none b n t z) ∙ e ∙ rw (k, take-append-le (room d at s) s t (omega arith))

    pub wrote_more : wrote b n t ≡ wrote d at (s ++ t)
    wrote_more = go (leb (at + length s) (length d)) refl
      where
        go : (x : Bool) → leb (at + length s) (length d) ≡ x → wrote b n t ≡ wrote d at (s ++ t)
        go true k = fits (leb-true (at + length s) (length d) k)
        go false k = full (leb-false (at + length s) (length d) k)
