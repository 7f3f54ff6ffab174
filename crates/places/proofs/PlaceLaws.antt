-- Parts of a text by their places: cut at the text's end, and parts of parts. Assumes nothing.
use mathlib.Core.Path.{◌≡◌, refl, sym, ◌∙◌}
use mathlib.Core.Bool.{Bool, true, false}
use mathlib.Core.List.{List, []}
use Prim.Native.Nat.{ℕ, ◌+◌, ◌-◌, ◌≤◌, ◌<◌, min}
use native.Mathlib.Omega.{arith}
use borrow.Author.Tests.{leb-true, leb-false}
use lib.Dec.{leb}
use lib.ListN.{length, take, drop, length-take, length-drop}
use lib.Seq.{take_all, take-take, drop-drop}
use Rattle.std.proofs.lemmas.List.{drop-take}
use Rattle.places.specs.Place.{part_of}

-- as the code cuts it: the end is no further than the text's
module _ (text : List ℕ) (start end : ℕ) where
  pub part_cut : part_of text start end ≡ part_of text start (min end (length text))
  unfolding part_of
  part_cut = go (leb end (length text)) refl
    where
      go : (t : Bool) → leb end (length text) ≡ t → take (end - start) (drop start text) ≡ take (min end (length text) - start) (drop start text)
      go true k =
          let e : min end (length text) ≡ end = omega (arith, leb-true end (length text) k) in
          rw e
      go false k =
          let h : length text < end = leb-false end (length text) k in
          take_all (end - start) (drop start text) (omega (arith, length-drop start text)) ∙ sym (take_all (min end (length text) - start) (drop start text) (omega (arith, length-drop start text)))

  pub part_none : min end (length text) ≤ start → part_of text start end ≡ []
  unfolding part_of
  part_none h =
      let e : min end (length text) - start ≡ 0 = omega arith in
      part_cut ∙ rw e

  pub part_length : end ≤ length text → length (part_of text start end) ≡ end - start
  unfolding part_of
  part_length h = omega (arith, length-take (end - start) (drop start text), length-drop start text)

-- a part of what comes after place k
pub part_shift : (text : List ℕ) (k a b : ℕ) → part_of text (k + a) (k + b) ≡ part_of (drop k text) a b
unfolding part_of
part_shift text k a b =
    let e : k + b - (k + a) ≡ b - a = omega arith in
    rw (e, ← drop-drop a k text)

-- a part of a text's front
pub part_front : (l : List ℕ) (n start end : ℕ) → start ≤ end → end ≤ n → part_of (take n l) start end ≡ part_of l start end
unfolding part_of
part_front l n start end h k =
    let e : n ≡ start + (n - start) = omega arith in
    rw e (rw (drop-take start (n - start) l) (take-take (end - start) (n - start) (drop start l) (omega arith)))

-- a part of the part from a up to b
pub part_moved : (l : List ℕ) (a b start end : ℕ) → start ≤ end → end ≤ b - a → part_of (part_of l a b) start end ≡ part_of l (a + start) (a + end)
unfolding part_of
part_moved l a b start end h k = part_front (drop a l) (b - a) start end h k ∙ sym (part_shift l a start end)
