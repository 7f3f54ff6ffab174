-- A group of a text as the definitions have it: what its four tests say of `is_base64` and of `standing_from`. Assumes nothing.
use borrow.Author.Tests.{eq-eqb, ne_eqb, eqb-true, eqb-false, le-leb, lt-ltb, le-ltb, leb-true, leb-false}
use mathlib.Core.Bool.{Bool, true, false, ◌&&◌, ◌||◌, and_assoc, and_comm, and-false, true≢false, false≢true}
use mathlib.Core.List.{List, [], ◌∷◌}
use mathlib.Core.Path.{◌≡◌, refl, sym, ap, ap₂, ◌∙◌}
use Prim.Native.Nat.{ℕ, zero, suc, ◌+◌, ◌-◌, ◌/◌, ◌%◌, ◌≤◌, ◌<◌}
use native.Mathlib.Nat.{add-zero}
use native.Mathlib.Omega.{arith}
use lib.Dec.{eqb, leb, ltb}
use lib.ListN.{length, get_or, drop, length-drop, get_or-eq_default}
use lib.Seq.{get_or-drop, drop-drop}
use Rattle.octets.specs.Choice.{pick}
use Rattle.base64_text.specs.Base64.{letter_value, is_base64_letter, first4, holds_one, holds_two, holds_three, is_base64}
use Rattle.base64_text.specs.Groups.{leading4, standing_of}
use Rattle.base64_text.specs.Places.{bytes_before, bytes_left, stands_as, stands_in, may_stand, standing_from}

-- ---- four tests

abbrev hold4 : Bool → Bool → Bool → Bool → Bool
hold4 p q r s = p && q && r && s

-- as `leading4`, and x more where all hold
abbrev counted4 : Bool → Bool → Bool → Bool → ℕ → ℕ
counted4 p q r s x = pick p (pick q (pick r (pick s (suc (suc (suc (suc x)))) 3) 2) 1) 0

some_fails : (p q r s : Bool) → leading4 p q r s < 4 → hold4 p q r s ≡ false
some_fails false q r s h = refl
some_fails true false r s h = refl
some_fails true true false s h = refl
some_fails true true true false h = refl
some_fails true true true true h = absurd (omega arith)

none_fails : (p q r s : Bool) → 4 ≤ leading4 p q r s → hold4 p q r s ≡ true
none_fails false q r s h = absurd (omega arith)
none_fails true false r s h = absurd (omega arith)
none_fails true true false s h = absurd (omega arith)
none_fails true true true false h = absurd (omega arith)
none_fails true true true true h = refl

all_lead : (p q r s : Bool) → hold4 p q r s ≡ true → 4 ≤ leading4 p q r s
all_lead true true true true h = omega arith
all_lead true true true false h = absurd (false≢true h)
all_lead true true false s h = absurd (false≢true h)
all_lead true false r s h = absurd (false≢true h)
all_lead false q r s h = absurd (false≢true h)

counted_some : (p q r s : Bool) (x : ℕ) → leading4 p q r s < 4 → counted4 p q r s x ≡ leading4 p q r s
counted_some false q r s x h = refl
counted_some true false r s x h = refl
counted_some true true false s x h = refl
counted_some true true true false x h = refl
counted_some true true true true x h = absurd (omega arith)

counted_all : (p q r s : Bool) (x : ℕ) → 4 ≤ leading4 p q r s → counted4 p q r s x ≡ 4 + x
counted_all false q r s x h = absurd (omega arith)
counted_all true false r s x h = absurd (omega arith)
counted_all true true false s x h = absurd (omega arith)
counted_all true true true false x h = absurd (omega arith)
counted_all true true true true x h = omega arith

-- ---- what may stand in a group

-- past a text's end nothing stands
nothing_stands : (left k : ℕ) → stands_in left k 0 ≡ false
unfolding stands_as letter_value
nothing_stands left k = both (leb 3 left || ltb k left) (ltb left k)
  where
    both : (s t : Bool) → pick s false (pick t false false) ≡ false
    both true t = refl
    both false true = refl
    both false false = refl

abbrev pub stands4 : ℕ → ℕ → ℕ → ℕ → ℕ → Bool
stands4 left a b c d = hold4 (stands_in left 0 a) (stands_in left 1 b) (stands_in left 2 c) (stands_in left 3 d)

stands_one : (a b c d : ℕ) → stands4 1 a b c d ≡ holds_one a b c d
unfolding stands_as holds_one
stands_one a b c d = rw (and_assoc (is_base64_letter a) (is_base64_letter b))

stands_two : (a b c d : ℕ) → stands4 2 a b c d ≡ holds_two a b c d
unfolding stands_as holds_two
stands_two a b c d = rw (and_assoc (is_base64_letter a && is_base64_letter b) (is_base64_letter c))

stands_three : (n a b c d : ℕ) → stands4 (suc (suc (suc n))) a b c d ≡ holds_three a b c d
unfolding stands_as holds_three
stands_three n a b c d = rw (le-leb 3 (suc (suc (suc n))) (omega arith))

-- the k-th character of a list, tested as that of a group
abbrev stood : ℕ → List ℕ → ℕ → Bool
stood left l k = stands_in left k (get_or l k 0)

-- a text that ends before its group does
stands_short : (left : ℕ) (l : List ℕ) → length l < 4 → first4 (stands4 left) l ≡ false
stands_short left l h =
    let z : get_or l 3 0 ≡ 0 = get_or-eq_default l 0 (omega arith) in
    rw (z, nothing_stands left 3) (and-false (stood left l 0 && stood left l 1 && stood left l 2))

-- a group that stands
pub stands_lead : (left : ℕ) (l : List ℕ) → first4 (stands4 left) l ≡ true → 4 ≤ first4 (standing_of left) l
stands_lead left l h = all_lead (stood left l 0) (stood left l 1) (stood left l 2) (stood left l 3) h

-- ---- a group, and the text after it

-- for k up to m: m is k just where m - k is 0
pub apart : (m k : ℕ) → k ≤ m → eqb m k ≡ eqb (m - k) 0
apart m k h = by (eqb m k) refl
  where
    by : (b : Bool) → eqb m k ≡ b → b ≡ eqb (m - k) 0
    by true e = sym (eq-eqb (m - k) 0 (omega (arith, eqb-true m k e)))
    by false e = sym (ne_eqb (m - k) 0 (λ (z : m - k ≡ 0). eqb-false m k e (omega arith)))

-- tests x of a group's characters fail where the text ends before the group
module _ (l : List ℕ) (x : Bool) (short : length l < 4 → x ≡ false) where
  last_group : (eqb (length l) 4 && x) ≡ (x && eqb (length (drop 4 l)) 0)
  last_group = by (leb 4 (length l)) refl
    where
      by : (b : Bool) → leb 4 (length l) ≡ b → (eqb (length l) 4 && x) ≡ (x && eqb (length (drop 4 l)) 0)
      by true e = rw (length-drop 4 l, apart (length l) 4 (leb-true 4 (length l) e)) (and_comm (eqb (length l - 4) 0) x)
      by false e = rw (short (leb-false 4 (length l) e)) (and-false (eqb (length l) 4))

  inner_group : (y : Bool) → (leb 4 (length l) && x && y) ≡ (x && y)
  inner_group y = by (leb 4 (length l)) refl
    where
      by : (b : Bool) → leb 4 (length l) ≡ b → (b && x && y) ≡ (x && y)
      by true e = refl
      by false e = rw (short (leb-false 4 (length l) e))

pub text_by_groups : (left : ℕ) (l : List ℕ) → 0 < left → is_base64 left l ≡ (first4 (stands4 left) l && is_base64 (left - 3) (drop 4 l))
unfolding is_base64
text_by_groups zero l h = absurd (omega arith)
text_by_groups (suc zero) l h =
    ap (λ (x : Bool). eqb (length l) 4 && x) (sym (stands_one _ _ _ _)) ∙ last_group l (first4 (stands4 1) l) (stands_short 1 l)
text_by_groups (suc (suc zero)) l h =
    ap (λ (x : Bool). eqb (length l) 4 && x) (sym (stands_two _ _ _ _)) ∙ last_group l (first4 (stands4 2) l) (stands_short 2 l)
text_by_groups (suc (suc (suc n))) l h =
    let m = suc (suc (suc n)) in
    let e : m - 3 ≡ n = omega arith in
    ap (λ (x : Bool). leb 4 (length l) && x && is_base64 n (drop 4 l)) (sym (stands_three n _ _ _ _))
    ∙ inner_group l (first4 (stands4 m) l) (stands_short m l) (is_base64 n (drop 4 l))
    ∙ ap (λ (k : ℕ). first4 (stands4 m) l && is_base64 k (drop 4 l)) (sym e)

-- ---- characters that stand

pub stand_next : (n i b : ℕ) (l : List ℕ) → standing_from n i (b ∷ l) ≡ pick (may_stand n i b) (suc (standing_from n (suc i) l)) 0
unfolding standing_from
stand_next n i b l = by (may_stand n i b)
  where
    by : (t : Bool) → elim t [ true ↦ suc (standing_from n (suc i) l) | false ↦ 0 ] ≡ pick t (suc (standing_from n (suc i) l)) 0
    by true = refl
    by false = refl

pub stand_none : (n i : ℕ) → standing_from n i [] ≡ 0
unfolding standing_from
stand_none n i = refl

-- a count by steps is the count of four
joined4 : (p q r s : Bool) (x : ℕ) → pick p (suc (pick q (suc (pick r (suc (pick s (suc x) 0)) 0)) 0)) 0 ≡ counted4 p q r s x
joined4 true true true true x = refl
joined4 true true true false x = refl
joined4 true true false s x = refl
joined4 true false r s x = refl
joined4 false q r s x = refl

-- the group that begins at place i
module _ (n i : ℕ) (whole : i % 4 ≡ 0) (due : bytes_before i < n) where
  abbrev left : ℕ
  left = bytes_left n i

  in_group : (k j b : ℕ) → k < 4 → j ≡ i + k → may_stand n j b ≡ stands_in left k b
  unfolding may_stand
  in_group k j b h e =
      let g : j / 4 ≡ i / 4 = omega arith in
      let p : j % 4 ≡ k = omega arith in
      rw (g, p, lt-ltb _ _ due)

  -- the character at a list's front, or the text's end
  front : (k j : ℕ) (l : List ℕ) → k < 4 → j ≡ i + k → standing_from n j l ≡ pick (stands_in left k (get_or l 0 0)) (suc (standing_from n (suc j) (drop 1 l))) 0
  front k j [] h e = stand_none n j ∙ ap (λ (t : Bool). pick t (suc (standing_from n (suc j) [])) 0) (sym (nothing_stands left k))
  front k j (b ∷ l) h e = stand_next n j b l ∙ ap (λ (t : Bool). pick t (suc (standing_from n (suc j) l)) 0) (in_group k j b h e)

  module _ (l : List ℕ) where
    step : (k j : ℕ) → k < 4 → j ≡ i + k → standing_from n j (drop k l) ≡ pick (stood left l k) (suc (standing_from n (suc j) (drop (k + 1) l))) 0
    step k j h e =
        front k j (drop k l) h e
        ∙ ap₂ (λ (b : ℕ) (r : List ℕ). pick (stands_in left k b) (suc (standing_from n (suc j) r)) 0) (rw (get_or-drop k l 0 0, add-zero)) (drop-drop 1 k l)

    standing_group : standing_from n i l ≡ counted4 (stood left l 0) (stood left l 1) (stood left l 2) (stood left l 3) (standing_from n (i + 4) (drop 4 l))
    standing_group =
        let s0 = step 0 i (omega arith) (omega arith) in
        let s1 = step 1 (suc i) (omega arith) (omega arith) in
        let s2 = step 2 (suc (suc i)) (omega arith) (omega arith) in
        let s3 = step 3 (suc (suc (suc i))) (omega arith) (omega arith) in
        let e : i + 4 ≡ suc (suc (suc (suc i))) = omega arith in
        s0 ∙ rw (s1, s2, s3, e) (joined4 (stood left l 0) (stood left l 1) (stood left l 2) (stood left l 3) (standing_from n (suc (suc (suc (suc i)))) (drop 4 l)))

    -- a group that fails, and one that stands
    abbrev standing : ℕ
    standing = first4 (standing_of left) l

    pub stands_to : standing < 4 → standing_from n i l ≡ standing
    stands_to h = standing_group ∙ counted_some (stood left l 0) (stood left l 1) (stood left l 2) (stood left l 3) _ h

    pub stands_past : 4 ≤ standing → standing_from n i l ≡ 4 + standing_from n (i + 4) (drop 4 l)
    stands_past h = standing_group ∙ counted_all (stood left l 0) (stood left l 1) (stood left l 2) (stood left l 3) _ h

    pub fails_in : standing < 4 → is_base64 left l ≡ false
    fails_in h =
        text_by_groups left l (omega arith)
        ∙ ap (λ (x : Bool). x && is_base64 (left - 3) (drop 4 l)) (some_fails (stood left l 0) (stood left l 1) (stood left l 2) (stood left l 3) h)

    pub holds_on : 4 ≤ standing → is_base64 left l ≡ is_base64 (left - 3) (drop 4 l)
    holds_on h =
        text_by_groups left l (omega arith)
        ∙ ap (λ (x : Bool). x && is_base64 (left - 3) (drop 4 l)) (none_fails (stood left l 0) (stood left l 1) (stood left l 2) (stood left l 3) h)

    -- a group that stands is four characters
    pub long_enough : 4 ≤ standing → 4 ≤ length l
    long_enough h = by (leb 4 (length l)) refl
      where
        by : (b : Bool) → leb 4 (length l) ≡ b → 4 ≤ length l
        by true e = leb-true 4 (length l) e
        by false e =
            absurd (true≢false (sym (none_fails (stood left l 0) (stood left l 1) (stood left l 2) (stood left l 3) h) ∙ stands_short left l (leb-false 4 (length l) e)))

-- no character stands after the last group
none_due : (n i b : ℕ) → n ≤ bytes_before i → may_stand n i b ≡ false
unfolding may_stand
none_due n i b h = rw (le-ltb _ _ h)

pub stands_ended : (n i : ℕ) (l : List ℕ) → n ≤ bytes_before i → standing_from n i l ≡ 0
stands_ended n i [] h = stand_none n i
stands_ended n i (b ∷ l) h = stand_next n i b l ∙ ap (λ (t : Bool). pick t (suc (standing_from n (suc i) l)) 0) (none_due n i b h)
