-- A head whose older fault is not 3 has no name twice, and has the same fault now. Assumes nothing.
use borrow.Author.Tests.{not-true}
use mathlib.Core.Bool.{Bool, true, false}
use mathlib.Core.List.{List, ◌∷◌}
use mathlib.Core.Path.{◌≡◌, refl}
use Prim.Native.Nat.{ℕ}
use Rattle.stream.specs.Fields.{is_doubled, names_of}
use Rattle.stream.specs.Head.{head_of, text_rules, caller_rules, head_fault, listed_names}
use Rattle.stream.specs.Rule.{Rule, rule, first_broken}
use Rattle.stream.specs.Signatures.{are_fields, listed_fields}
use Rattle.stream.specs.Terms.{Terms}
use Rattle.stream.proofs.RulesHold.{head_rules_hold}
use Rattle.stream.proofs.SigningSize.{listed}
use Rattle.kept.specs.Older.{older_rules, older_fault}
use Rattle.kept.proofs.OneValue.{not_protected_doubled}

-- where the first broken rule does not have the number n, a rule of that number at the front holds, and none after it is the first
this_holds : (n : ℕ) (t : Bool) (rs : List Rule) → (first_broken (rule n t ∷ rs) ≡ n → ⊥) → (t ≡ true) × (first_broken rs ≡ n → ⊥)
unfolding first_broken
this_holds n true rs h = (refl, h)
this_holds n false rs h = absurd (h refl)

-- the older rule is the fifth, and the four before it have its number
pub not_doubled : (terms : Terms) (l : List ℕ) → (older_fault terms l ≡ 3 → ⊥) → is_doubled (names_of (head_of l).fields) ≡ false
unfolding older_fault older_rules text_rules
not_doubled terms l h =
    let second = (this_holds 3 _ _ h).1 in
    let third = (this_holds 3 _ _ second).1 in
    let fourth = (this_holds 3 _ _ third).1 in
    let fifth = (this_holds 3 _ _ fourth).1 in
    not-true (is_doubled (names_of (head_of l).fields)) (this_holds 3 _ _ fifth).0

-- then neither the older rule nor the new one is broken, and all others are the same
pub same_fault : (terms : Terms) (l : List ℕ) → is_doubled (names_of (head_of l).fields) ≡ false → head_fault terms l ≡ older_fault terms l
unfolding head_fault older_fault older_rules text_rules
same_fault terms l h = rw (h, not_protected_doubled (names_of (head_of l).fields) h)

-- the listed names of a good head are names of its fields
pub fields_there : (terms : Terms) (l : List ℕ) → head_fault terms l ≡ 0 → are_fields (head_of l).fields (listed_fields (listed_names (head_of l))) ≡ true
unfolding text_rules caller_rules
fields_there terms l h =
    let rules = head_rules_hold terms l h in
    (listed (head_of l).fields (listed_names (head_of l)) (search)).present
