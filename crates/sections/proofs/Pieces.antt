-- The machine over a piece in two parts, for a loop that takes a piece part by part; and that a feed never idles.
-- Assumes nothing.
use mathlib.Core.Path.{◌≡◌, refl, sym, ap, ◌∙◌}
use mathlib.Core.Bool.{Bool, true, false, false≢true}
use mathlib.Core.List.{List, [], ◌∷◌, ◌++◌}
use Prim.Native.Nat.{ℕ, suc, ◌+◌, ◌<◌}
use native.Mathlib.Nat.{zero-add, suc-add}
use native.Mathlib.Omega.{arith}
use lib.ListN.{length}
use Rattle.sections.specs.Reading.{Rules}
use Rattle.sections.specs.Calls.{feed, call, Reply, more, event, misused}
use Rattle.sections.specs.Machine.{State, running, asked, finished, Step, on, decides, Turn, one_more, follow, step, fed, respond, turn}
use Rattle.sections.specs.Resuming.{heard}

-- n bytes more
abbrev pub plus : {C Q E L : Type 0} → ℕ → Turn C Q E L → Turn C Q E L
plus n m = ((m.0.0, n + m.0.1), m.1)

abbrev pub is_more : {Q E L : Type 0} → Reply Q E L → Bool
is_more more = true
is_more (event e) = false
is_more (misused n) = false

module _ {C Q E L : Type 0} (R : Rules C Q E L) where
  -- after a part of the piece: if it gave no event, the rest q goes on from there
  abbrev pub goes_on : Reply Q E L → ℕ → State C E L → List ℕ → Turn C Q E L
  goes_on more n (running c g) q = plus n (fed R c g q)
  goes_on more n (asked y) q = ((more, n), asked y)
  goes_on more n finished q = ((more, n), finished)
  goes_on (event e) n s q = ((event e, n), s)
  goes_on (misused k) n s q = ((misused k, n), s)

  abbrev pub after : Turn C Q E L → List ℕ → Turn C Q E L
  after m q = goes_on m.0.0 m.0.1 m.1 q

  goes_on_suc : (w : Reply Q E L) (n : ℕ) (s : State C E L) (q : List ℕ) → goes_on w (suc n) s q ≡ one_more (goes_on w n s q)
  goes_on_suc more n (running c g) q = rw suc-add
  goes_on_suc more n (asked y) q = refl
  goes_on_suc more n finished q = refl
  goes_on_suc (event e) n s q = refl
  goes_on_suc (misused k) n s q = refl

  -- A piece in two parts.
  pub feed_append : (p : List ℕ) (c : C) (g q : List ℕ) → fed R c g (p ++ q) ≡ after (fed R c g p) q
  unfolding fed
  feed_append [] c g q = rw zero-add
  feed_append (b ∷ p) c g q = by (step R c g b) (λ c' g'. ap one_more (feed_append p c' g' q) ∙ sym (more_after (fed R c' g' p)))
    where
      more_after : (m : Turn C Q E L) → after (one_more m) q ≡ one_more (after m q)
      more_after m = goes_on_suc m.0.0 m.0.1 m.1 q

      by : (σ : Step C Q E L)
          → ((c' : C) (g' : List ℕ) → one_more (fed R c' g' (p ++ q)) ≡ after (one_more (fed R c' g' p)) q)
          → follow σ (λ c' g'. fed R c' g' (p ++ q)) ≡ after (follow σ (λ c' g'. fed R c' g' p)) q
      by (on c' g') ih = ih c' g'
      by (decides e s) ih = refl

  -- With no event all of the piece is taken, and the machine runs on.
  abbrev pub Ran : List ℕ → Turn C Q E L → Type 0
  Ran l m = (c' : C) × (g' : List ℕ) × (m ≡ ((more, length l), running c' g'))

  pub feed_more : (l : List ℕ) (c : C) (g : List ℕ) → is_more (fed R c g l).0.0 ≡ true → Ran l (fed R c g l)
  unfolding fed
  feed_more [] c g = λ h. (c, g, refl)
  feed_more (b ∷ l) c g = by (step R c g b) (λ c' g'. feed_more l c' g')
    where
      by : (σ : Step C Q E L) → ((c' : C) (g' : List ℕ) → is_more (fed R c' g' l).0.0 ≡ true → Ran l (fed R c' g' l))
          → is_more (follow σ (λ c' g'. fed R c' g' l)).0.0 ≡ true → Ran (b ∷ l) (follow σ (λ c' g'. fed R c' g' l))
      by (on c' g') ih h = let (c'', g'', e) = ih c' g' h in (c'', g'', ap one_more e)
      by (decides e s) ih h = absurd (false≢true h)

  -- After an event the rest of the piece is not looked at.
  pub feed_stays : (m : Turn C Q E L) (q : List ℕ) → is_more m.0.0 ≡ false → after m q ≡ m
  feed_stays m q = by m.0.0
    where
      by : (w : Reply Q E L) → is_more w ≡ false → goes_on w m.0.1 m.1 q ≡ ((w, m.0.1), m.1)
      by more f = absurd (false≢true (sym f))
      by (event e) f = refl
      by (misused n) f = refl

  fed_takes : (c : C) (g : List ℕ) (b : ℕ) (bs : List ℕ) → 0 < (fed R c g (b ∷ bs)).0.1
  unfolding fed
  fed_takes c g b bs = by (step R c g b)
    where
      by : (σ : Step C Q E L) → 0 < (follow σ (λ c' g'. fed R c' g' bs)).0.1
      by (on c' g') = omega arith
      by (decides e s) = omega arith

  -- Each feed of a nonempty piece that is not refused by 1 or 2 takes at least one byte.
  pub feed_takes_one : (s : State C E L) (fit : Bool) (b : ℕ) (bs : List ℕ)
      → heard (turn R s (call fit (feed (b ∷ bs)))).0.0 ≡ true → 0 < (turn R s (call fit (feed (b ∷ bs)))).0.1
  unfolding respond turn
  feed_takes_one s false b bs h = absurd (false≢true h)
  feed_takes_one (running c g) true b bs h = fed_takes c g b bs
  feed_takes_one (asked y) true b bs h = absurd (false≢true h)
  feed_takes_one finished true b bs h = absurd (false≢true h)
