-- The first broken rule of a list: where there is none, every rule holds; its number is one of theirs; what lists one after the other come to.
-- And the order in which a head's rules are tested. Assumes nothing.
use borrow.Author.Tests.{leb-true}
use mathlib.Core.Bool.{Bool, true, false, ◌&&◌}
use mathlib.Core.List.{List, [], ◌∷◌, ◌++◌}
use mathlib.Core.Path.{◌≡◌, refl, sym, ap, ◌∙◌}
use Prim.Native.Nat.{ℕ, suc}
use native.Mathlib.Omega.{arith}
use lib.Dec.{leb}
use Rattle.octets.specs.Choice.{pick}
use Rattle.stream.specs.Head.{head_of, text_rules, caller_rules, head_fault}
use Rattle.stream.specs.Rule.{Rule, rule, first_broken}
use Rattle.stream.specs.Terms.{Terms}
use Rattle.stream.proofs.Truth.{left_holds, right_holds}

-- each of the rules holds, in their order: `.0` is about the first, `.1` about the others
abbrev pub AllHold : List Rule → Type 0
AllHold [] = Unit
AllHold (r ∷ rs) = (r.holds ≡ true) × AllHold rs

-- every rule has a number that p is true of
abbrev pub all_numbered : (ℕ → Bool) → List Rule → Bool
all_numbered p [] = true
all_numbered p (r ∷ rs) = p r.number && all_numbered p rs

-- no rule has the number 0, which would say that none is broken
pub rules_hold : (rs : List Rule) → all_numbered (leb 1) rs ≡ true → first_broken rs ≡ 0 → AllHold rs
unfolding first_broken
rules_hold [] n h = tt
rules_hold (r ∷ rs) n h = by r.holds refl h (rules_hold rs (right_holds (leb 1 r.number) (all_numbered (leb 1) rs) n))
  where
    by : (x : Bool) → r.holds ≡ x → pick x (first_broken rs) r.number ≡ 0 → (first_broken rs ≡ 0 → AllHold rs) → (r.holds ≡ true) × AllHold rs
    by true e k ih = (e, ih k)
    by false e k ih = absurd (omega (arith, leb-true 1 r.number (left_holds (leb 1 r.number) (all_numbered (leb 1) rs) n)))

-- what is true of all their numbers is true of that of the first broken one
pub broken_numbered : (p : ℕ → Bool) (rs : List Rule) (k : ℕ) → all_numbered p rs ≡ true → first_broken rs ≡ suc k → p (suc k) ≡ true
unfolding first_broken
broken_numbered p [] k n e = absurd (omega (arith, e))
broken_numbered p (r ∷ rs) k n e = by r.holds e (broken_numbered p rs k (right_holds (p r.number) (all_numbered p rs) n))
  where
    by : (x : Bool) → pick x (first_broken rs) r.number ≡ suc k → (first_broken rs ≡ suc k → p (suc k) ≡ true) → p (suc k) ≡ true
    by true f ih = ih f
    by false f ih = sym (ap p f) ∙ left_holds (p r.number) (all_numbered p rs) n

-- rules after rules: those before count where one of them is broken, those after where none is
pub broken_first : (rs ss : List Rule) → (first_broken rs ≡ 0 → ⊥) → first_broken (rs ++ ss) ≡ first_broken rs
unfolding first_broken
broken_first [] ss h = absurd (h refl)
broken_first (r ∷ rs) ss h = by r.holds h (broken_first rs ss)
  where
    by : (x : Bool) → (pick x (first_broken rs) r.number ≡ 0 → ⊥) → ((first_broken rs ≡ 0 → ⊥) → first_broken (rs ++ ss) ≡ first_broken rs)
        → pick x (first_broken (rs ++ ss)) r.number ≡ pick x (first_broken rs) r.number
    by true k ih = ih k
    by false k ih = refl

pub kept_first : (rs ss : List Rule) → AllHold rs → first_broken (rs ++ ss) ≡ first_broken ss
unfolding first_broken
kept_first [] ss h = refl
kept_first (r ∷ rs) ss h = rw h.0 (kept_first rs ss h.1)

-- where none of all is broken, none of those before is
pub front_kept : (rs ss : List Rule) → first_broken (rs ++ ss) ≡ 0 → first_broken rs ≡ 0
unfolding first_broken
front_kept [] ss h = refl
front_kept (r ∷ rs) ss h = by r.holds h (front_kept rs ss)
  where
    by : (t : Bool) → pick t (first_broken (rs ++ ss)) r.number ≡ 0 → (first_broken (rs ++ ss) ≡ 0 → first_broken rs ≡ 0) → pick t (first_broken rs) r.number ≡ 0
    by true k ih = ih k
    by false k ih = k

-- a rule that holds can be left out
pub without_held : (rs ss : List Rule) (n : ℕ) → first_broken (rs ++ rule n true ∷ ss) ≡ first_broken (rs ++ ss)
unfolding first_broken
without_held [] ss n = refl
without_held (r ∷ rs) ss n = ap (λ (m : ℕ). pick r.holds m r.number) (without_held rs ss n)

-- a head without fault keeps every rule of a head
pub head_rules_hold : (terms : Terms) (l : List ℕ) → head_fault terms l ≡ 0 → AllHold (text_rules l (head_of l) ++ caller_rules terms (head_of l))
unfolding text_rules caller_rules head_fault
head_rules_hold terms l h = rules_hold (text_rules l (head_of l) ++ caller_rules terms (head_of l)) refl h

-- ---- the order, in which the first broken rule gives the refusal

abbrev pub numbers_of : List Rule → List ℕ
numbers_of [] = []
numbers_of (r ∷ rs) = r.number ∷ numbers_of rs

-- another version than 4 is told before a status that is not taken, and another show before a key that is not trusted
pub head_rules_order
    : (terms : Terms) (l : List ℕ)
    → numbers_of (text_rules l (head_of l) ++ caller_rules terms (head_of l))
    ≡ 3 ∷ 3 ∷ 3 ∷ 3 ∷ 3 ∷ 4 ∷ 5 ∷ 4 ∷ 4 ∷ 4 ∷ 4 ∷ 4 ∷ 4 ∷ 4 ∷ 4 ∷ 4 ∷ 16 ∷ 12 ∷ 12 ∷ []
unfolding text_rules caller_rules
head_rules_order terms l = refl
