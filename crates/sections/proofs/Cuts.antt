-- What `cut` cuts off is the shortest beginning of one byte or more for which the test holds. Assumes nothing.
use mathlib.Core.Path.{◌≡◌, refl, ap}
use mathlib.Core.Bool.{Bool, true, false}
use mathlib.Core.List.{List, [], ◌∷◌, ◌++◌}
use Prim.Native.Nat.{ℕ, zero, suc, ◌<◌}
use native.Mathlib.Nat.{not-suc-le-zero}
use native.Mathlib.Omega.{arith}
use lib.ListN.{length, take}
use Rattle.sections.specs.Reading.{Cut, uncut, cut_at, push, cut}

-- p holds of no beginning of n bytes, for n from 1 and below m
abbrev pub NoneBelow : (List ℕ → Bool) → List ℕ → ℕ → Type 0
NoneBelow p l m = (n : ℕ) → 0 < n → n < m → p (take n l) ≡ false

-- what a cut of l by p must be
abbrev pub IsCut : (List ℕ → Bool) → List ℕ → Cut → Type 0
IsCut p l uncut = NoneBelow p l (suc (length l))
IsCut p l (cut_at f r) = (f ++ r ≡ l) × (0 < length f) × (p f ≡ true) × NoneBelow p l (length f)

none_push : (p : List ℕ → Bool) (b : ℕ) (l : List ℕ) (m : ℕ) → p (b ∷ []) ≡ false → NoneBelow (λ t. p (b ∷ t)) l m → NoneBelow p (b ∷ l) (suc m)
none_push p b l m e h zero x y = absurd (not-suc-le-zero x)
none_push p b l m e h (suc zero) x y = e
none_push p b l m e h (suc (suc n)) x y = h (suc n) (omega arith) (omega arith)

push_cut : (p : List ℕ → Bool) (b : ℕ) (l : List ℕ) (k : Cut) → p (b ∷ []) ≡ false → IsCut (λ t. p (b ∷ t)) l k → IsCut p (b ∷ l) (push b k)
push_cut p b l uncut e h = none_push p b l (suc (length l)) e h
push_cut p b l (cut_at f r) e h = (ap (λ (t : List ℕ). b ∷ t) h.0, omega arith, h.2, none_push p b l (length f) e h.3)

pub cut_is : (p : List ℕ → Bool) (l : List ℕ) → IsCut p l (cut p l)
unfolding cut
cut_is p [] = λ n x y. absurd (omega arith)
cut_is p (b ∷ l) = by (p (b ∷ [])) refl (cut_is (λ t. p (b ∷ t)) l)
  where
    by : (x : Bool) → p (b ∷ []) ≡ x → IsCut (λ t. p (b ∷ t)) l (cut (λ t. p (b ∷ t)) l)
        → IsCut p (b ∷ l) (elim x [ true ↦ cut_at (b ∷ []) l | false ↦ push b (cut (λ t. p (b ∷ t)) l) ])
    by true e ih = (refl, omega arith, e, λ n x y. absurd (omega arith))
    by false e ih = push_cut p b l (cut (λ t. p (b ∷ t)) l) e ih

-- The other way round: a beginning for which p holds, and no shorter one, is what is cut off; and without one, nothing is.
pub cut_at_lem : (p : List ℕ → Bool) (f r : List ℕ) → 0 < length f → p f ≡ true → NoneBelow p f (length f) → cut p (f ++ r) ≡ cut_at f r
unfolding cut
cut_at_lem p [] r s e n = absurd (omega arith)
cut_at_lem p (b ∷ []) r s e n = rw (e, cut)
cut_at_lem p (b ∷ x ∷ f) r s e n =
    let first : p (b ∷ []) ≡ false = n 1 (omega arith) (omega arith) in
    let ih = cut_at_lem (λ t. p (b ∷ t)) (x ∷ f) r (omega arith) e (λ k i j. n (suc k) (omega arith) (omega arith)) in
    rw (first, cut) (ap (push b) ih)

pub cut_none : (p : List ℕ → Bool) (l : List ℕ) → NoneBelow p l (suc (length l)) → cut p l ≡ uncut
unfolding cut
cut_none p [] n = refl
cut_none p (b ∷ l) n =
    let first : p (b ∷ []) ≡ false = n 1 (omega arith) (omega arith) in
    let ih = cut_none (λ t. p (b ∷ t)) l (λ k i j. n (suc k) (omega arith) (omega arith)) in
    rw (first, cut) (ap (push b) ih)

-- what is left after a cut is shorter
abbrev pub Shorter : List ℕ → Cut → Type 0
Shorter bs uncut = Unit {0}
Shorter bs (cut_at f r) = length r < length bs

shorter_push : (b : ℕ) (bs : List ℕ) (k : Cut) → Shorter bs k → Shorter (b ∷ bs) (push b k)
shorter_push b bs uncut h = tt
shorter_push b bs (cut_at f r) h = omega arith

pub cut_shorter : (p : List ℕ → Bool) (bs : List ℕ) → Shorter bs (cut p bs)
unfolding cut
cut_shorter p [] = tt
cut_shorter p (b ∷ bs) = by (p (b ∷ [])) (cut_shorter (λ t. p (b ∷ t)) bs)
  where
    by : (x : Bool) → Shorter bs (cut (λ t. p (b ∷ t)) bs)
        → Shorter (b ∷ bs) (elim x [ true ↦ cut_at (b ∷ []) bs | false ↦ push b (cut (λ t. p (b ∷ t)) bs) ])
    by true ih = omega arith
    by false ih = shorter_push b bs (cut (λ t. p (b ∷ t)) bs) ih
