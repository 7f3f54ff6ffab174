-- Where a scanner stops is the length of the longest beginning that some good text also has: what it has gone over can be completed, and no
-- good text begins with one byte more. Assumes nothing.
use mathlib.Core.Bool.{Bool, true, false, false≢true, true≢false}
use mathlib.Core.List.{List, [], ◌∷◌, ◌++◌, append_assoc}
use mathlib.Core.Option.{Option, none, some}
use mathlib.Core.Path.{◌≡◌, refl, sym, ◌∙◌}
use Prim.Native.Nat.{ℕ, suc, ◌+◌, ◌-◌, ◌≤◌, ◌<◌}
use native.Mathlib.Numerals.{add-one}
use native.Mathlib.Omega.{arith}
use borrow.Author.Tests.{leb-true, leb-false}
use lib.Dec.{leb}
use lib.ListN.{length, take, drop}
use lib.Pow.{are_bytes}
use lib.Seq.{take-add}
use Rattle.octets.specs.Viable.{Viable, LongestViable}
use Rattle.scanner.specs.Scanner.{Scanner, accepts_from, reach_from, accepts, reach}
use Rattle.scanner.proofs.Finishing.{last_from, Finishing, ending}

module _ {S : Type 0} (step : S → ℕ → Option S) (may_end : S → Bool) where
  -- ---- by one byte

  pub accepts_to : (s t : S) (b : ℕ) (l : List ℕ) → step s b ≡ some t → accepts_from step may_end s (b ∷ l) ≡ accepts_from step may_end t l
  unfolding accepts_from
  accepts_to s t b l e = rw (e, accepts_from)

  pub accepts_off : (s : S) (b : ℕ) (l : List ℕ) → step s b ≡ none → accepts_from step may_end s (b ∷ l) ≡ false
  unfolding accepts_from
  accepts_off s b l e = rw (e, accepts_from)

  -- ---- by the whole text

  -- what was stepped over and what finishes it are accepted together
  completes : (finish : S → List ℕ) → ((s : S) → accepts_from step may_end s (finish s) ≡ true) → (s : S) (l : List ℕ)
      → accepts_from step may_end s (take (reach_from step s l) l ++ finish (last_from step s l)) ≡ true
  unfolding reach_from last_from
  completes finish law s [] = law s
  completes finish law s (b ∷ l) = go (step s b) refl (λ t. completes finish law t l)
    where
      go : (o : Option S) → step s b ≡ o
          → ((t : S) → accepts_from step may_end t (take (reach_from step t l) l ++ finish (last_from step t l)) ≡ true)
          → accepts_from step may_end s (take (reach_from step s (b ∷ l)) (b ∷ l) ++ finish (last_from step s (b ∷ l))) ≡ true
      go none e h = rw (e, reach_from, last_from) (law s)
      go (some t) e h = rw (e, reach_from, last_from) (accepts_to s t b _ e ∙ h t)

  -- with the next byte nothing that may follow is
  stops : (s : S) (l rest : List ℕ) → reach_from step s l < length l → accepts_from step may_end s (take (suc (reach_from step s l)) l ++ rest) ≡ false
  unfolding reach_from
  stops s [] rest h = absurd (omega arith)
  stops s (b ∷ l) rest h = go (step s b) refl (λ t. stops t l rest) h
    where
      go : (o : Option S) → step s b ≡ o
          → ((t : S) → reach_from step t l < length l → accepts_from step may_end t (take (suc (reach_from step t l)) l ++ rest) ≡ false)
          → reach_from step s (b ∷ l) < length (b ∷ l)
          → accepts_from step may_end s (take (suc (reach_from step s (b ∷ l))) (b ∷ l) ++ rest) ≡ false
      go none e f h = rw (e, reach_from) (accepts_off s b rest e)
      go (some t) e f h =
          let k : suc (reach_from step t l) < suc (length l) = rw (e, reach_from) at h in
          rw (e, reach_from) (accepts_to s t b _ e ∙ f t (omega arith))

  reach_within : (s : S) (l : List ℕ) → reach_from step s l ≤ length l
  unfolding reach_from
  reach_within s [] = omega arith
  reach_within s (b ∷ l) = go (step s b) (λ t. reach_within t l)
    where
      go : (o : Option S) → ((t : S) → reach_from step t l ≤ length l)
          → elim o as (λ _. ℕ) [ none ↦ 0 | some t ↦ suc (reach_from step t l) ] ≤ suc (length l)
      go none f = omega arith
      go (some t) f = omega (arith, f t)

  -- an accepted text is stepped over whole
  reach_whole : (s : S) (l : List ℕ) → accepts_from step may_end s l ≡ true → reach_from step s l ≡ length l
  unfolding reach_from
  reach_whole s [] h = refl
  reach_whole s (b ∷ l) h = go (step s b) refl (λ t. reach_whole t l)
    where
      go : (o : Option S) → step s b ≡ o → ((t : S) → accepts_from step may_end t l ≡ true → reach_from step t l ≡ length l)
          → reach_from step s (b ∷ l) ≡ suc (length l)
      go none e f = absurd (false≢true (sym (accepts_off s b l e) ∙ h))
      go (some t) e f = rw (e, reach_from, f t (sym (accepts_to s t b l e) ∙ h))

-- ---- from the start of any scanner

module _ {S : Type 0} (sc : Scanner S) where
  pub none_beyond : (l rest : List ℕ) → reach sc l < length l → accepts sc (take (reach sc l + 1) l ++ rest) ≡ false
  unfolding accepts reach
  none_beyond l rest h = rw (add-one (reach_from sc.step sc.start l)) (stops sc.step sc.may_end sc.start l rest h)

  pub within_length : (l : List ℕ) → reach sc l ≤ length l
  unfolding reach
  within_length l = reach_within sc.step sc.may_end sc.start l

  pub good_whole : (l : List ℕ) → accepts sc l ≡ true → reach sc l ≡ length l
  unfolding accepts reach
  good_whole l h = reach_whole sc.step sc.may_end sc.start l h

  module _ (fin : Finishing sc) where
    -- the completion is given: `ending sc fin l`
    pub reached_completes : (l : List ℕ) → accepts sc (take (reach sc l) l ++ ending sc fin l) ≡ true
    unfolding accepts reach ending
    reached_completes l = completes sc.step sc.may_end fin.finish fin.finishes sc.start l

    -- whatever test says which texts are good, where the scanner accepts just these
    module _ (bytes : (l : List ℕ) → are_bytes (ending sc fin l) ≡ true) (good : List ℕ → Bool) (just : (l : List ℕ) → good l ≡ accepts sc l) where
      pub reach_longest : (l : List ℕ) → LongestViable good l (reach sc l)
      reach_longest l =
          record {
            within = within_length l;
            viable = record { rest = ending sc fin l; bytes = bytes l; completes = just (take (reach sc l) l ++ ending sc fin l) ∙ reached_completes l };
            longest = λ m h v. by m (leb m (reach sc l)) refl h v;
          }
        where
          -- a good text that begins with more bytes begins with one more
          over : (m : ℕ) → m ≤ length l → Viable good (take m l) → reach sc l < m → ⊥
          over m h v k =
              let e : reach sc l + 1 + (m - (reach sc l + 1)) ≡ m = omega arith in
              let t : take m l ≡ take (reach sc l + 1) l ++ take (m - (reach sc l + 1)) (drop (reach sc l + 1) l) = rw e at (take-add (reach sc l + 1) (m - (reach sc l + 1)) l) in
              let g : accepts sc (take m l ++ v.rest) ≡ true = sym (just (take m l ++ v.rest)) ∙ v.completes in
              let f : accepts sc (take m l ++ v.rest) ≡ false = rw (t, append_assoc) (none_beyond l _ (omega arith)) in
              true≢false (sym g ∙ f)

          by : (m : ℕ) (t : Bool) → leb m (reach sc l) ≡ t → m ≤ length l → Viable good (take m l) → m ≤ reach sc l
          by m true e h v = leb-true m (reach sc l) e
          by m false e h v = absurd (over m h v (leb-false m (reach sc l) e))
