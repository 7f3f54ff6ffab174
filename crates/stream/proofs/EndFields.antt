-- Fields after fields, looked up by name: those of a head, and those of the trailer after it. Assumes nothing.
use borrow.Author.Tests.{le-leb, ne_eqb}
use mathlib.Core.Bool.{Bool, true, false, ◌&&◌, ◌||◌, false≢true}
use mathlib.Core.List.{List, [], ◌∷◌, ◌++◌}
use mathlib.Core.Path.{◌≡◌, refl, sym, ap, ◌∙◌}
use Prim.Native.Nat.{ℕ, zero, suc, ◌+◌}
use native.Mathlib.Nat.{zero-add}
use native.Mathlib.Omega.{arith}
use lib.Dec.{eqb, leb}
use lib.ListN.{length, length-append}
use Rattle.stream.specs.Bytes.{same_name}
use Rattle.stream.specs.Ends.{is_once}
use Rattle.stream.specs.Fields.{among, names_of, has_field, value_of, values_of, count_of}
use Rattle.stream.specs.Lines.{Field}

module _ (n : List ℕ) where
  pub values_joined : (fs gs : List Field) → values_of n (fs ++ gs) ≡ values_of n fs ++ values_of n gs
  unfolding values_of
  values_joined [] gs = refl
  values_joined (f ∷ fs) gs = by (same_name n f.name) (values_joined fs gs)
    where
      by : (t : Bool) → values_of n (fs ++ gs) ≡ values_of n fs ++ values_of n gs
          → elim t [ true ↦ f.value ∷ values_of n (fs ++ gs) | false ↦ values_of n (fs ++ gs) ]
          ≡ elim t [ true ↦ f.value ∷ values_of n fs | false ↦ values_of n fs ] ++ values_of n gs
      by true ih = ap (λ (vs : List (List ℕ)). f.value ∷ vs) ih
      by false ih = ih

  pub count_joined : (fs gs : List Field) → count_of n (fs ++ gs) ≡ count_of n fs + count_of n gs
  count_joined fs gs = ap length (values_joined fs gs) ∙ length-append (values_of n fs) (values_of n gs)

  -- the first of them is the head's, if it has one
  pub value_first : (fs gs : List Field) → has_field n fs ≡ true → value_of n (fs ++ gs) ≡ value_of n fs
  unfolding has_field among names_of value_of
  value_first [] gs h = absurd (false≢true h)
  value_first (f ∷ fs) gs h = by (same_name n f.name) h (value_first fs gs)
    where
      by : (t : Bool) → t || among n (names_of fs) ≡ true → (has_field n fs ≡ true → value_of n (fs ++ gs) ≡ value_of n fs)
          → ◌≡◌ {A = List ℕ} (elim t [ true ↦ f.value | false ↦ value_of n (fs ++ gs) ]) (elim t [ true ↦ f.value | false ↦ value_of n fs ])
      by true k ih = refl
      by false k ih = ih k

  pub value_after : (fs gs : List Field) → has_field n fs ≡ false → value_of n (fs ++ gs) ≡ value_of n gs
  unfolding has_field among names_of value_of
  value_after [] gs h = refl
  value_after (f ∷ fs) gs h = by (same_name n f.name) h (value_after fs gs)
    where
      by : (t : Bool) → t || among n (names_of fs) ≡ false → (has_field n fs ≡ false → value_of n (fs ++ gs) ≡ value_of n gs)
          → elim t [ true ↦ f.value | false ↦ value_of n (fs ++ gs) ] ≡ value_of n gs
      by true k ih = absurd (false≢true (sym k))
      by false k ih = ih k

  -- there is one where they are not none
  pub has_count : (fs : List Field) → has_field n fs ≡ leb 1 (count_of n fs)
  unfolding has_field among names_of values_of
  has_count [] = refl
  has_count (f ∷ fs) = by (same_name n f.name) (has_count fs)
    where
      by : (t : Bool) → has_field n fs ≡ leb 1 (count_of n fs)
          → t || among n (names_of fs) ≡ leb 1 (length {A = List ℕ} (elim t [ true ↦ f.value ∷ values_of n fs | false ↦ values_of n fs ]))
      by true ih = sym (le-leb 1 (suc (count_of n fs)) (omega arith))
      by false ih = ih

  some_sum : (a b : ℕ) → leb 1 (a + b) ≡ leb 1 a || leb 1 b
  some_sum zero zero = refl
  some_sum zero (suc b) = le-leb 1 (0 + suc b) (omega arith) ∙ sym (le-leb 1 (suc b) (omega arith))
  some_sum (suc a) b = le-leb 1 (suc a + b) (omega arith) ∙ sym (ap (λ (t : Bool). t || leb 1 b) (le-leb 1 (suc a) (omega arith)))

  -- in either
  pub has_joined : (fs gs : List Field) → has_field n (fs ++ gs) ≡ has_field n fs || leb 1 (count_of n gs)
  has_joined fs gs =
      has_count (fs ++ gs) ∙ ap (leb 1) (count_joined fs gs) ∙ some_sum (count_of n fs) (count_of n gs)
      ∙ ap (λ (t : Bool). t || leb 1 (count_of n gs)) (sym (has_count fs))

-- one in all is in one or in the other
one_sum : (a b : ℕ) → eqb (a + b) 1 ≡ (eqb a 1 && eqb b 0) || (eqb a 0 && eqb b 1)
one_sum zero zero = refl
one_sum zero (suc b) = ap (λ (k : ℕ). eqb k 1) (zero-add (suc b))
one_sum (suc zero) zero = refl
one_sum (suc zero) (suc b) = rw (ne_eqb (1 + suc b) 1 (λ e. omega arith), ne_eqb (suc b) 0 (λ e. omega arith))
one_sum (suc (suc a)) b =
    rw (ne_eqb (suc (suc a) + b) 1 (λ e. omega arith), ne_eqb (suc (suc a)) 1 (λ e. omega arith), ne_eqb (suc (suc a)) 0 (λ e. omega arith))

pub once_joined : (n : List ℕ) (fs gs : List Field)
    → (eqb (count_of n fs) 1 && eqb (count_of n gs) 0) || (eqb (count_of n fs) 0 && eqb (count_of n gs) 1) ≡ is_once n (fs ++ gs)
once_joined n fs gs = sym (ap (λ (k : ℕ). eqb k 1) (count_joined n fs gs) ∙ one_sum (count_of n fs) (count_of n gs))
