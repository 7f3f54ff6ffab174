-- How far a text stands is the length of its longest beginning that some text of n bytes also has. Assumes nothing.
use borrow.Author.Tests.{eq-eqb, eqb-true, ltb-true, leb-true, leb-false}
use mathlib.Core.Bool.{Bool, true, false, ◌&&◌}
use mathlib.Core.List.{List, [], ◌∷◌, ◌++◌}
use mathlib.Core.Path.{◌≡◌, refl, sym, ap, ◌∙◌}
use Prim.Native.Nat.{ℕ, zero, suc, ◌+◌, ◌-◌, ◌*◌, ◌%◌, ◌≤◌, ◌<◌}
use native.Mathlib.Omega.{arith}
use lib.Dec.{leb, ltb}
use lib.ListN.{length, replicate, length-replicate, take, drop, length-drop, length-append, take-append-drop}
use lib.Pow.{are_bytes}
use lib.Seq.{length-take-le}
use Rattle.octets.specs.Viable.{LongestViable}
use Rattle.base64_text.specs.Base64.{first4, is_base64, text_of}
use Rattle.base64_text.specs.Groups.{standing_of}
use Rattle.base64_text.specs.Places.{groups, bytes_before, bytes_left, stands_in, may_stand, standing_from, viable_length}
use Rattle.base64_text.proofs.Computed.{both_left, both_right}
use Rattle.base64_text.proofs.Laws.{text_length}
use Rattle.base64_text.proofs.Texts.{stands4, stand_next, stand_none, stands_lead, text_by_groups, stands_to, stands_past, stands_ended, holds_on, long_enough}
use Rattle.base64_text.proofs.Written.{text_is}

-- ---- a text is good just where it has its length and stands whole

nothing_left : (l : List ℕ) → is_base64 0 l ≡ true → length l ≡ 0
unfolding is_base64
nothing_left l h = eqb-true (length l) 0 h

none_left : (l : List ℕ) → length l ≡ 0 → is_base64 0 l ≡ true
unfolding is_base64
none_left l h = eq-eqb (length l) 0 h

-- the group at place i stands, and what comes after it is good
module _ (n i : ℕ) (l : List ℕ) (whole : i % 4 ≡ 0) (due : bytes_before i < n) where
  next_left : bytes_left n i - 3 ≡ bytes_left n (i + 4)
  next_left = omega arith

  -- a group of a text that stands whole
  four_stand : 4 ≤ length l → standing_from n i l ≡ length l → 4 ≤ first4 (standing_of (bytes_left n i)) l
  four_stand long s = by (leb 4 (first4 (standing_of (bytes_left n i)) l)) refl
    where
      by : (b : Bool) → leb 4 (first4 (standing_of (bytes_left n i)) l) ≡ b → 4 ≤ first4 (standing_of (bytes_left n i)) l
      by true e = leb-true 4 _ e
      by false e =
          let short = leb-false 4 _ e in
          let p = stands_to n i whole due l short in
          omega (arith, short, p)

  module _ (good : is_base64 (bytes_left n i) l ≡ true) where
    both : (first4 (stands4 (bytes_left n i)) l && is_base64 (bytes_left n i - 3) (drop 4 l)) ≡ true
    both = sym (text_by_groups (bytes_left n i) l (omega arith)) ∙ good

    group_stands : 4 ≤ first4 (standing_of (bytes_left n i)) l
    group_stands = stands_lead (bytes_left n i) l (both_left (first4 (stands4 (bytes_left n i)) l) (is_base64 (bytes_left n i - 3) (drop 4 l)) both)

    rest_good : is_base64 (bytes_left n (i + 4)) (drop 4 l) ≡ true
    rest_good = ap (λ (m : ℕ). is_base64 m (drop 4 l)) (sym next_left) ∙ both_right (first4 (stands4 (bytes_left n i)) l) (is_base64 (bytes_left n i - 3) (drop 4 l)) both

-- no more than k groups are left
good_stands : (k n i : ℕ) (l : List ℕ) → bytes_left n i ≤ k * 3 → i % 4 ≡ 0 → is_base64 (bytes_left n i) l ≡ true → standing_from n i l ≡ length l
good_stands zero n i l h w g =
    let z : bytes_left n i ≡ 0 = omega arith in
    stands_ended n i l (omega arith) ∙ sym (nothing_left l (ap (λ (m : ℕ). is_base64 m l) (sym z) ∙ g))
good_stands (suc k) n i l h w g = by (leb n (bytes_before i)) refl (λ a b. good_stands k n (i + 4) (drop 4 l) (omega arith) (omega arith) b)
  where
    by : (b : Bool) → leb n (bytes_before i) ≡ b → (bytes_before i < n → is_base64 (bytes_left n (i + 4)) (drop 4 l) ≡ true → standing_from n (i + 4) (drop 4 l) ≡ length (drop 4 l)) → standing_from n i l ≡ length l
    by true e f =
        let z : bytes_left n i ≡ 0 = omega (arith, leb-true n (bytes_before i) e) in
        stands_ended n i l (leb-true n (bytes_before i) e) ∙ sym (nothing_left l (ap (λ (m : ℕ). is_base64 m l) (sym z) ∙ g))
    by false e f =
        let due = leb-false n (bytes_before i) e in
        let s = group_stands n i l w due g in
        let long = long_enough n i w due l s in
        let r = f due (rest_good n i l w due g) in
        stands_past n i w due l s ∙ omega (arith, r, long, length-drop 4 l)

stands_good : (k n i : ℕ) (l : List ℕ) → bytes_left n i ≤ k * 3 → i % 4 ≡ 0 → length l ≡ groups (bytes_left n i) * 4 → standing_from n i l ≡ length l → is_base64 (bytes_left n i) l ≡ true
stands_good zero n i l h w len s =
    let z : bytes_left n i ≡ 0 = omega arith in
    ap (λ (m : ℕ). is_base64 m l) z ∙ none_left l (omega arith)
stands_good (suc k) n i l h w len s = by (leb n (bytes_before i)) refl (λ a b c. stands_good k n (i + 4) (drop 4 l) (omega arith) (omega arith) b c)
  where
    by : (b : Bool) → leb n (bytes_before i) ≡ b
        → (bytes_before i < n → length (drop 4 l) ≡ groups (bytes_left n (i + 4)) * 4 → standing_from n (i + 4) (drop 4 l) ≡ length (drop 4 l) → is_base64 (bytes_left n (i + 4)) (drop 4 l) ≡ true)
        → is_base64 (bytes_left n i) l ≡ true
    by true e f =
        let z : bytes_left n i ≡ 0 = omega (arith, leb-true n (bytes_before i) e) in
        ap (λ (m : ℕ). is_base64 m l) z ∙ none_left l (omega arith)
    by false e f =
        let due = leb-false n (bytes_before i) e in
        let t = four_stand n i l w due (omega arith) s in
        let past = stands_past n i w due l t in
        holds_on n i w due l t
        ∙ ap (λ (m : ℕ). is_base64 m (drop 4 l)) (next_left n i l w due)
        ∙ f due (omega (arith, length-drop 4 l)) (omega (arith, past, length-drop 4 l))

-- ---- how far a text stands, by its parts

-- a character that stands is one of the groups'
stands_due : (n i b : ℕ) → may_stand n i b ≡ true → suc i ≤ groups n * 4
unfolding may_stand
stands_due n i b e = let d = ltb-true (bytes_before i) n (both_left (ltb (bytes_before i) n) (stands_in (bytes_left n i) (i % 4) b) e) in omega (arith, d)

module _ (n : ℕ) where
  -- a character that stands, and one that does not
  on : (i b : ℕ) (l : List ℕ) → may_stand n i b ≡ true → standing_from n i (b ∷ l) ≡ suc (standing_from n (suc i) l)
  on i b l e = stand_next n i b l ∙ rw e

  off : (i b : ℕ) (l : List ℕ) → may_stand n i b ≡ false → standing_from n i (b ∷ l) ≡ 0
  off i b l e = stand_next n i b l ∙ rw e

  within_length : (i : ℕ) (l : List ℕ) → standing_from n i l ≤ length l
  within_length i [] = omega (arith, stand_none n i)
  within_length i (b ∷ l) = by (may_stand n i b) refl (within_length (suc i) l)
    where
      by : (t : Bool) → may_stand n i b ≡ t → standing_from n (suc i) l ≤ length l → standing_from n i (b ∷ l) ≤ suc (length l)
      by true e h = omega (arith, on i b l e)
      by false e h = omega (arith, off i b l e)

  -- no character stands past the last group
  within_groups : (i : ℕ) (l : List ℕ) → i ≤ groups n * 4 → i + standing_from n i l ≤ groups n * 4
  within_groups i [] h = omega (arith, stand_none n i)
  within_groups i (b ∷ l) h = by (may_stand n i b) refl (within_groups (suc i) l)
    where
      by : (t : Bool) → may_stand n i b ≡ t → (suc i ≤ groups n * 4 → suc i + standing_from n (suc i) l ≤ groups n * 4) → i + standing_from n i (b ∷ l) ≤ groups n * 4
      by true e f = let d = stands_due n i b e in omega (arith, on i b l e, f (omega arith))
      by false e f = omega (arith, off i b l e)

  -- two texts, one after the other
  stands_both : (i : ℕ) (p q : List ℕ) → standing_from n i p ≡ length p → standing_from n i (p ++ q) ≡ length p + standing_from n (i + length p) q
  stands_both i [] q h = let e : i ≡ i + 0 = omega arith in omega (arith, ap (λ (j : ℕ). standing_from n j q) e)
  stands_both i (b ∷ p) q h = by (may_stand n i b) refl (stands_both (suc i) p q)
    where
      by : (t : Bool) → may_stand n i b ≡ t
          → (standing_from n (suc i) p ≡ length p → standing_from n (suc i) (p ++ q) ≡ length p + standing_from n (suc i + length p) q)
          → standing_from n i (b ∷ (p ++ q)) ≡ suc (length p) + standing_from n (i + suc (length p)) q
      by true e f =
          let s : suc i + length p ≡ i + suc (length p) = omega arith in
          let r = f (omega (arith, h, on i b p e)) in
          omega (arith, on i b (p ++ q) e, r, ap (λ (j : ℕ). standing_from n j q) s)
      by false e f = absurd (omega (arith, h, off i b p e))

  stands_first : (i : ℕ) (p q : List ℕ) → standing_from n i (p ++ q) ≡ length (p ++ q) → standing_from n i p ≡ length p
  stands_first i [] q h = stand_none n i
  stands_first i (b ∷ p) q h = by (may_stand n i b) refl (stands_first (suc i) p q)
    where
      by : (t : Bool) → may_stand n i b ≡ t → (standing_from n (suc i) (p ++ q) ≡ length (p ++ q) → standing_from n (suc i) p ≡ length p) → standing_from n i (b ∷ p) ≡ suc (length p)
      by true e f = on i b p e ∙ ap suc (f (omega (arith, h, on i b (p ++ q) e)))
      by false e f = absurd (omega (arith, h, off i b (p ++ q) e))

  stands_after : (i k : ℕ) (l : List ℕ) → standing_from n i l ≡ length l → k ≤ length l → standing_from n (i + k) (drop k l) ≡ length (drop k l)
  stands_after i k l h le =
      let e = take-append-drop k l in
      let f = stands_first i (take k l) (drop k l) (rw e h) in
      let c = stands_both i (take k l) (drop k l) f in
      let t = length-take-le k l le in
      let a : standing_from n i l ≡ k + standing_from n (i + k) (drop k l) = rw (e, t) at c in
      omega (arith, a, h, length-drop k l)

  -- the beginning that stands
  stands_begun : (i : ℕ) (l : List ℕ) → standing_from n i (take (standing_from n i l) l) ≡ standing_from n i l
  stands_begun i [] = rw (stand_none n i) (stand_none n i)
  stands_begun i (b ∷ l) = by (may_stand n i b) refl (stands_begun (suc i) l)
    where
      by : (t : Bool) → may_stand n i b ≡ t → standing_from n (suc i) (take (standing_from n (suc i) l) l) ≡ standing_from n (suc i) l
          → standing_from n i (take (standing_from n i (b ∷ l)) (b ∷ l)) ≡ standing_from n i (b ∷ l)
      by true e h = rw (on i b l e) (on i b (take (standing_from n (suc i) l) l) e ∙ ap suc h)
      by false e h = rw (off i b l e) (stand_none n i)

  -- a beginning that stands stands in the text too
  stands_least : (m : ℕ) (l : List ℕ) → m ≤ length l → standing_from n 0 (take m l) ≡ length (take m l) → m ≤ standing_from n 0 l
  stands_least m l h s =
      let c = stands_both 0 (take m l) (drop m l) s in
      let a : standing_from n 0 l ≡ length (take m l) + standing_from n (0 + length (take m l)) (drop m l) = rw (take-append-drop m l) at c in
      omega (arith, a, length-take-le m l h)

-- ---- the theorem

-- The text of n zeros: its end completes each beginning that stands.
abbrev zeros_text : ℕ → List ℕ
zeros_text n = text_of (replicate n 0)

zeros_bytes : (n : ℕ) → are_bytes (replicate n 0) ≡ true
zeros_bytes zero = refl
zeros_bytes (suc n) = zeros_bytes n

zeros_good : (n : ℕ) → is_base64 n (zeros_text n) ≡ true
zeros_good n = ap (λ (k : ℕ). is_base64 k (zeros_text n)) (sym (length-replicate n 0)) ∙ text_is (replicate n 0) (zeros_bytes n)

zeros_text_bytes : (n : ℕ) → are_bytes (zeros_text n) ≡ true
unfolding text_of
zeros_text_bytes zero = refl
zeros_text_bytes (suc zero) = refl
zeros_text_bytes (suc (suc zero)) = refl
zeros_text_bytes (suc (suc (suc n))) = zeros_text_bytes n

drop_bytes : (k : ℕ) (l : List ℕ) → are_bytes l ≡ true → are_bytes (drop k l) ≡ true
drop_bytes zero l h = h
drop_bytes (suc k) [] h = refl
drop_bytes (suc k) (b ∷ l) h = drop_bytes k l (both_right (ltb b 256) (are_bytes l) h)

module _ (n : ℕ) (t : List ℕ) where
  abbrev at : ℕ
  at = viable_length n t

  abbrev completion : List ℕ
  completion = drop at (zeros_text n)

  all_left : bytes_left n 0 ≡ n
  all_left = omega arith

  good_whole : (l : List ℕ) → is_base64 n l ≡ true → standing_from n 0 l ≡ length l
  good_whole l h = good_stands n n 0 l (omega arith) refl (ap (λ (k : ℕ). is_base64 k l) all_left ∙ h)

  whole_good : (l : List ℕ) → length l ≡ groups n * 4 → standing_from n 0 l ≡ length l → is_base64 n l ≡ true
  whole_good l len s = ap (λ (k : ℕ). is_base64 k l) (sym all_left) ∙ stands_good n n 0 l (omega arith) refl (omega arith) s

  completes : is_base64 n (take at t ++ completion) ≡ true
  completes =
      let z = text_length n (zeros_text n) (zeros_good n) in
      let k = within_groups n 0 t (omega arith) in
      let len = length-take-le at t (within_length n 0 t) in
      let p = stands_begun n 0 t in
      let q = stands_after n 0 at (zeros_text n) (good_whole (zeros_text n) (zeros_good n)) (omega arith) in
      let s : standing_from n 0 (take at t ++ completion) ≡ at + standing_from n (0 + at) completion = rw len at (stands_both n 0 (take at t) completion (p ∙ sym len)) in
      let whole = length-append (take at t) completion in
      let rest = length-drop at (zeros_text n) in
      whole_good (take at t ++ completion) (omega (arith, whole, len, rest, z)) (omega (arith, s, q, whole, len))

  pub viable_longest : LongestViable (is_base64 n) t at
  viable_longest =
      record {
        within = within_length n 0 t;
        viable = record { rest = completion; bytes = drop_bytes at (zeros_text n) (zeros_text_bytes n); completes = completes };
        longest = λ m h v. stands_least n m t h (stands_first n 0 (take m t) v.rest (good_whole (take m t ++ v.rest) v.completes));
      }
