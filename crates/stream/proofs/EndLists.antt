-- The list of Sig1 compared as a text: lists split at each space are the same, item by item, just where their texts are. Assumes nothing.
use borrow.Author.Tests.{eqb-true, eqb-false, ne_eqb}
use mathlib.Core.Bool.{Bool, true, false, ◌&&◌}
use mathlib.Core.List.{List, [], ◌∷◌, ◌++◌}
use mathlib.Core.Path.{◌≡◌, refl, sym, ap, ◌∙◌}
use Prim.Native.Nat.{ℕ, ◌+◌, ◌≤◌}
use native.Mathlib.Omega.{arith}
use lib.Dec.{eqb}
use lib.ListN.{length, take, drop}
use Rattle.octets.specs.Choice.{pick}
use Rattle.octets.specs.Octets.{octets}
use Rattle.stream.specs.Bytes.{between, lower, lowered, same, same_name}
use Rattle.stream.specs.Ends.{added_names, same_names}
use Rattle.stream.specs.Lines.{in_front}
use Rattle.stream.specs.Signatures.{split_names}
use Rattle.stream.proofs.Truth.{within}

and_assoc : (a b c : Bool) → (a && b) && c ≡ a && (b && c)
and_assoc true b c = refl
and_assoc false b c = refl

-- ---- a text split at its spaces

-- what a byte in front makes of the names after it
abbrev front : ℕ → Bool → List (List ℕ) → List (List ℕ)
front b t ls = elim t [ true ↦ [] ∷ ls | false ↦ in_front b ls ]

some_front : (b : ℕ) (t : Bool) (ls : List (List ℕ)) → 1 ≤ length (front b t ls)
some_front b true ls = omega arith
some_front b false [] = omega arith
some_front b false (l ∷ ls) = omega arith

pub some_name : (l : List ℕ) → 1 ≤ length (split_names l)
unfolding split_names
some_name [] = omega arith
some_name (b ∷ l) = some_front b (eqb b 32) (split_names l)

front_joined : (b : ℕ) (t : Bool) (ms ns : List (List ℕ)) → 1 ≤ length ms → front b t (ms ++ ns) ≡ front b t ms ++ ns
front_joined b t [] ns h = absurd (omega arith)
front_joined b true (m ∷ ms) ns h = refl
front_joined b false (m ∷ ms) ns h = refl

-- a space between two texts ends a name
pub split_joined : (s t : List ℕ) → split_names (s ++ 32 ∷ t) ≡ split_names s ++ split_names t
unfolding split_names
split_joined [] t = refl
split_joined (b ∷ s) t =
    ap (front b (eqb b 32)) (split_joined s t) ∙ front_joined b (eqb b 32) (split_names s) (split_names t) (some_name s)

-- ---- the same names

lower_space : (b : ℕ) → eqb b 32 ≡ false → lower b ≡ 32 → ⊥
lower_space b h e = go (between 65 90 b) refl e
  where
    go : (t : Bool) → between 65 90 b ≡ t → pick t (b + 32) b ≡ 32 → ⊥
    go true k f = omega (arith, within 65 90 b k)
    go false k f = eqb-false b 32 h f

-- two bytes in front, by whether each is a space
same_front : (a b : ℕ) (t u : Bool) (ms ns : List (List ℕ)) → eqb a 32 ≡ t → eqb b 32 ≡ u → 1 ≤ length ms → 1 ≤ length ns
    → same_names (front a t ms) (front b u ns) ≡ eqb (lower a) (lower b) && same_names ms ns
unfolding same_names same_name lowered same
same_front a b t u [] ns p q h k = absurd (omega arith)
same_front a b t u (m ∷ ms) [] p q h k = absurd (omega arith)
same_front a b true true (m ∷ ms) (n ∷ ns) p q h k = rw (eqb-true a 32 p, eqb-true b 32 q)
same_front a b true false (m ∷ ms) (n ∷ ns) p q h k =
    let e : a ≡ 32 = eqb-true a 32 p in
    rw (e, ne_eqb 32 (lower b) (λ f. lower_space b q (sym f)))
same_front a b false true (m ∷ ms) (n ∷ ns) p q h k =
    let e : b ≡ 32 = eqb-true b 32 q in
    rw (e, ne_eqb (lower a) 32 (lower_space a p))
same_front a b false false (m ∷ ms) (n ∷ ns) p q h k = and_assoc (eqb (lower a) (lower b)) (same_name m n) (same_names ms ns)

no_byte : (b : ℕ) (t : Bool) (ns : List (List ℕ)) → 1 ≤ length ns → same_names ([] ∷ []) (front b t ns) ≡ false
unfolding same_names same_name lowered same
no_byte b t [] h = absurd (omega arith)
no_byte b true (n ∷ ns) h = refl
no_byte b false (n ∷ ns) h = refl

a_byte : (a : ℕ) (t : Bool) (ms : List (List ℕ)) → 1 ≤ length ms → same_names (front a t ms) ([] ∷ []) ≡ false
unfolding same_names same_name lowered same
a_byte a t [] h = absurd (omega arith)
a_byte a true (m ∷ ms) h = refl
a_byte a false (m ∷ ms) h = refl

pub same_lists : (s t : List ℕ) → same_names (split_names s) (split_names t) ≡ same_name s t
unfolding split_names same_names same_name lowered same
same_lists [] [] = refl
same_lists [] (b ∷ t) = no_byte b (eqb b 32) (split_names t) (some_name t)
same_lists (a ∷ s) [] = a_byte a (eqb a 32) (split_names s) (some_name s)
same_lists (a ∷ s) (b ∷ t) =
    same_front a b (eqb a 32) (eqb b 32) (split_names s) (split_names t) refl refl (some_name s) (some_name t)
    ∙ ap (λ (x : Bool). eqb (lower a) (lower b) && x) (same_lists s t)

-- what Sig1's list has after Sig0's
abbrev pub added_text : List ℕ
added_text = octets " digest x-ouinet-data-size"

-- "Sig1's list is, without case, Sig0's list with `digest` and `x-ouinet-data-size` added at its end"
pub list_as_text : (s t : List ℕ) → same_names (split_names s) (split_names t ++ added_names) ≡ same_name s (t ++ added_text)
unfolding split_names
list_as_text s t = ap (same_names (split_names s)) (sym (split_joined t (octets "digest x-ouinet-data-size"))) ∙ same_lists s (t ++ added_text)

-- ---- a text compared with two, one after the other

pub same_parts : (s t u : List ℕ) → same_name s (t ++ u) ≡ same_name (take (length t) s) t && same_name (drop (length t) s) u
unfolding same_name lowered same
same_parts s [] u = refl
same_parts [] (b ∷ t) u = refl
same_parts (a ∷ s) (b ∷ t) u =
    ap (λ (x : Bool). eqb (lower a) (lower b) && x) (same_parts s t u)
    ∙ sym (and_assoc (eqb (lower a) (lower b)) (same_name (take (length t) s) t) (same_name (drop (length t) s) u))
