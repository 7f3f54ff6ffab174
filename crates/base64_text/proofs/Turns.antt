-- A turn of the loop over a text's groups: what its group says of the whole text. Assumes nothing.
use mathlib.Core.Bool.{false}
use mathlib.Core.List.{List}
use mathlib.Core.Path.{◌≡◌, sym, ap, ap₂, ◌∙◌}
use Prim.Native.Nat.{ℕ, ◌+◌, ◌-◌, ◌%◌, ◌≤◌, ◌<◌}
use native.Mathlib.Omega.{arith}
use lib.Dec.{eqb}
use lib.ListN.{length, get_or, drop, length-drop}
use lib.Seq.{drop-drop}
use Rattle.base64_text.specs.Base64.{first4, joined_letters, is_base64}
use Rattle.base64_text.specs.Groups.{standing_of, group_of}
use Rattle.base64_text.specs.Places.{bytes_before, bytes_left, standing_from, viable_length, checked}
use Rattle.places.specs.declared.Checked.{Checked}
use Rattle.base64_text.specs.declared.Group.{Group}
use Rattle.base64_text.proofs.Groups.{first4_from}
use Rattle.base64_text.proofs.Texts.{apart, stands_to, stands_past, stands_ended, fails_in, holds_on, long_enough}

-- ---- the group at place i of a text

-- Group g was read there, with so many bytes left.
pub record ReadAt (t : List ℕ) (left i : ℕ) (g : Group) : Type 0 where
  pub bits : g.bits ≡ joined_letters (get_or t i 0) (get_or t (i + 1) 0) (get_or t (i + 2) 0) (get_or t (i + 3) 0)
  pub standing : g.standing ≡ first4 (standing_of left) (drop i t)

pub read_at : (t : List ℕ) (left i a b c d : ℕ) {g : Group} → a ≡ get_or t i 0 → b ≡ get_or t (i + 1) 0 → c ≡ get_or t (i + 2) 0 → d ≡ get_or t (i + 3) 0
    → g ≡ group_of left a b c d → ReadAt t left i g
unfolding group_of
read_at t left i a b c d ea eb ec ed eg =
    record {
      bits = ap (λ (h : Group). h.bits) eg ∙ rw (ea, eb, ec, ed);
      standing = ap (λ (h : Group). h.standing) eg ∙ rw (ea, eb, ec, ed) (sym (first4_from (standing_of left) t i));
    }

-- n bytes in all, of which o come before the group
module _ (t : List ℕ) (n o i : ℕ) {g : Group} (read : ReadAt t (n - o) i g) (whole : i % 4 ≡ 0) (at : o ≡ bytes_before i) (due : o < n)
    (text : is_base64 n t ≡ is_base64 (n - o) (drop i t)) (place : viable_length n t ≡ i + standing_from n i (drop i t)) where
  abbrev left : ℕ
  left = bytes_left n i

  left_is : n - o ≡ left
  left_is = omega arith

  standing_here : g.standing ≡ first4 (standing_of left) (drop i t)
  standing_here = read.standing ∙ ap (λ (k : ℕ). first4 (standing_of k) (drop i t)) left_is

  text_here : is_base64 n t ≡ is_base64 left (drop i t)
  text_here = text ∙ ap (λ (k : ℕ). is_base64 k (drop i t)) left_is

  pub stops_here : g.standing < 4 → ◌≡◌ {A = Checked} (record { good = false; at = i + g.standing }) (checked n t)
  stops_here h =
      let k : first4 (standing_of left) (drop i t) < 4 = omega (arith, standing_here) in
      let f : is_base64 n t ≡ false = text_here ∙ fails_in n i whole (omega arith) (drop i t) k in
      let p : viable_length n t ≡ i + g.standing = place ∙ ap (λ (x : ℕ). i + x) (stands_to n i whole (omega arith) (drop i t) k ∙ sym standing_here) in
      rw (f, p)

  pub goes_on : 4 ≤ g.standing
      → (is_base64 n t ≡ is_base64 (n - (o + 3)) (drop (i + 4) t)) × (viable_length n t ≡ i + 4 + standing_from n (i + 4) (drop (i + 4) t)) × (i + 4 ≤ length t)
  goes_on h =
      let k : 4 ≤ first4 (standing_of left) (drop i t) = omega (arith, standing_here) in
      let e : left - 3 ≡ n - (o + 3) = omega arith in
      let s = stands_past n i whole (omega arith) (drop i t) k ∙ ap (λ (r : List ℕ). 4 + standing_from n (i + 4) r) (drop-drop 4 i t) in
      let l = long_enough n i whole (omega arith) (drop i t) k in (
        text_here ∙ holds_on n i whole (omega arith) (drop i t) k ∙ ap₂ is_base64 e (drop-drop 4 i t),
        omega (arith, place, s),
        omega (arith, l, length-drop i t),
      )

-- ---- after the last group

module _ (t : List ℕ) (n o i : ℕ) (at : o ≡ bytes_before i) (done : n ≤ o) (within : i ≤ length t)
    (text : is_base64 n t ≡ is_base64 (n - o) (drop i t)) (place : viable_length n t ≡ i + standing_from n i (drop i t)) where
  pub ends_here : ◌≡◌ {A = Checked} (record { good = eqb (length t) i; at = i }) (checked n t)
  unfolding is_base64
  ends_here =
      let z : n - o ≡ 0 = omega arith in
      let e : is_base64 n t ≡ eqb (length t) i = text ∙ rw (z, length-drop) (sym (apart (length t) i within)) in
      let p : viable_length n t ≡ i = omega (arith, place, stands_ended n i (drop i t) (omega arith)) in
      rw (e, p)
