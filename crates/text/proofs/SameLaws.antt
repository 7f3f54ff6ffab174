-- Byte strings compared: what stands at a place of a text, and two names side by side. Assumes nothing.
use mathlib.Core.Path.{◌≡◌, refl, sym, ap, ◌∙◌}
use mathlib.Core.Bool.{Bool, true, false, ◌&&◌}
use mathlib.Core.List.{List, [], ◌∷◌, ◌++◌}
use Prim.Native.Nat.{ℕ, suc, ◌+◌, ◌≤◌, ◌<◌}
use native.Mathlib.Numerals.{add-one}
use native.Mathlib.Omega.{arith}
use borrow.Author.Tests.{eqb-true, eqb-false, eq-eqb, ne_eqb}
use lib.Dec.{eqb}
use lib.ListN.{length, get_or, take, drop, drop_of_length-le, length-drop, length-take, length-map}
use lib.Seq.{drop-cons}
use Rattle.std.specs.Cmp.Lexicographic.{pointwise}
use Rattle.stream.specs.Bytes.{same, lower, lowered, same_name}
use Rattle.stream.specs.Template.{starts_with}
use Rattle.stream.proofs.Truth.{same_equal}

-- ---- tests joined

both_assoc : (a b c : Bool) → a && (b && c) ≡ (a && b) && c
both_assoc true b c = refl
both_assoc false b c = refl

pub both_false : (a : Bool) → a && false ≡ false
both_false true = refl
both_false false = refl

pub both_true : (a : Bool) → a && true ≡ a
both_true true = refl
both_true false = refl

pub eqb_sym : (a b : ℕ) → eqb a b ≡ eqb b a
eqb_sym a b = go (eqb a b) refl
  where
    go : (t : Bool) → eqb a b ≡ t → eqb a b ≡ eqb b a
    go true e = e ∙ sym (eq-eqb b a (sym (eqb-true a b e)))
    go false e = e ∙ sym (ne_eqb b a (λ q. eqb-false a b e (sym q)))

-- ---- the same bytes

pub same_sym : (a b : List ℕ) → same a b ≡ same b a
unfolding same
same_sym [] [] = refl
same_sym [] (y ∷ ys) = refl
same_sym (x ∷ xs) [] = refl
same_sym (x ∷ xs) (y ∷ ys) = rw (eqb_sym x y, same_sym xs ys)

-- as `==` on slices has it
pub same_is : (a b : List ℕ) → pointwise eqb a b ≡ same a b
unfolding same
same_is [] [] = refl
same_is [] (y ∷ ys) = refl
same_is (x ∷ xs) [] = refl
same_is (x ∷ xs) (y ∷ ys) = ap (λ (t : Bool). eqb x y && t) (same_is xs ys)

-- of another length, and so not the same
pub same_length : (a b : List ℕ) → (length a ≡ length b → ⊥) → same a b ≡ false
unfolding same
same_length [] [] h = absurd (h refl)
same_length [] (y ∷ ys) h = refl
same_length (x ∷ xs) [] h = refl
same_length (x ∷ xs) (y ∷ ys) h = rw (same_length xs ys (λ e. h (ap suc e))) (both_false (eqb x y))

-- ---- a text at a place of another

-- a text that is longer than what it should start does not
pub starts_longer : (t l : List ℕ) → length l < length t → starts_with t l ≡ false
unfolding starts_with
starts_longer t l h = same_length t (take (length t) l) (λ e. omega (arith, length-take (length t) l))

-- what starts with t has t in front, and room for it
pub starts_is : (t l : List ℕ) → starts_with t l ≡ true → take (length t) l ≡ t
unfolding starts_with
starts_is t l e = sym (same_equal t (take (length t) l) e)

pub starts_within : (t s : List ℕ) (i : ℕ) → starts_with t (drop i s) ≡ true → i ≤ length s → i + length t ≤ length s
starts_within t s i e h =
    let f = ap length (starts_is t (drop i s) e) in
    omega (arith, f, length-take (length t) (drop i s), length-drop i s)

-- ---- two names side by side

pub names_length : (a b : List ℕ) → (length a ≡ length b → ⊥) → same_name a b ≡ false
unfolding same_name lowered
names_length a b h = same_length _ _ (λ e. h (sym (length-map a lower) ∙ e ∙ length-map b lower))

-- a turn: x and y are the bytes at i in lower case, and `so_far` is whether all before them are the same
module _ (a b : List ℕ) (i x y : ℕ) (h : i < length a) (j : i < length b) (f : x ≡ lower (get_or a i 0)) (g : y ≡ lower (get_or b i 0)) where
  pub names_turn : (so_far : Bool) → so_far && same_name (drop i a) (drop i b) ≡ (so_far && eqb x y) && same_name (drop (i + 1) a) (drop (i + 1) b)
  unfolding same_name lowered same
  names_turn so_far = rw (f, g, add-one i, drop-cons a i 0, drop-cons b i 0) (both_assoc so_far _ _)

pub names_out : (a b : List ℕ) (i : ℕ) → length a ≤ i → length b ≤ i → (so_far : Bool) → so_far && same_name (drop i a) (drop i b) ≡ so_far
unfolding same_name lowered same
names_out a b i h j so_far = rw (drop_of_length-le a, drop_of_length-le b) (both_true so_far)

-- ---- one text after another

pub starts_append : (t u l : List ℕ) → starts_with (t ++ u) l ≡ starts_with t l && starts_with u (drop (length t) l)
unfolding starts_with same
starts_append [] u l = refl
starts_append (x ∷ t) u [] = refl
starts_append (x ∷ t) u (y ∷ l) = ap (λ (b : Bool). eqb x y && b) (starts_append t u l) ∙ both_assoc (eqb x y) (starts_with t l) (starts_with u (drop (length t) l))
