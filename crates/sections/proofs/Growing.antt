-- The plain reading grows: with more bytes, more answers or the end told, it begins with what it was before. Assumes nothing.
use mathlib.Core.Path.{refl, ap}
use mathlib.Core.Bool.{Bool, true, false}
use mathlib.Core.List.{List, [], ◌∷◌, ◌++◌, append-nil}
use Prim.Native.Nat.{ℕ, suc}
use Rattle.sections.specs.Reading.{Event, Log, Grant, granted, final, Verdict, go, tell, ask, stop, Rules, answered, judged, reading, reading_at}
use Rattle.sections.specs.Resuming.{Begins}
use Rattle.sections.proofs.Scans.{scan, at_scan}

begins_nil : {A : Type 0} (l : List A) → Begins [] l
begins_nil l = record { rest = l; joined = refl }

begins_refl : {A : Type 0} (l : List A) → Begins l l
begins_refl l = record { rest = []; joined = append-nil l }

begins_cons : {A : Type 0} (x : A) {l m : List A} → Begins l m → Begins (x ∷ l) (x ∷ m)
begins_cons x b = record { rest = b.rest; joined = ap (λ (k : List _). x ∷ k) b.joined }

module _ {C Q E L : Type 0} (R : Rules C Q E L) where
  -- the reading goes on from each context and with each number of answers as it grows
  abbrev Grows : (C → List Bool → Log Q E L) → (C → List Bool → Log Q E L) → List Bool → Type 0
  Grows next next' more = (c : C) (ans : List Bool) → Begins (next c ans) (next' c (ans ++ more))

  answered_grows : (y : Grant C E L) (at : ℕ) (ans more : List Bool) (next next' : C → List Bool → Log Q E L)
      → Grows next next' more → Begins (answered R y at ans next) (answered R y at (ans ++ more) next')
  answered_grows y at [] more next next' h = begins_nil _
  answered_grows (granted e c) at (true ∷ ans) more next next' h = begins_cons (at, Event.message e) (h c ans)
  answered_grows (final l) at (true ∷ ans) more next next' h = begins_refl _
  answered_grows y at (false ∷ ans) more next next' h = begins_refl _

  judged_grows : (v : Verdict C Q E L) (at : ℕ) (ans more : List Bool) (next next' : C → List Bool → Log Q E L)
      → Grows next next' more → Begins (judged R v at ans next) (judged R v at (ans ++ more) next')
  judged_grows (go c) at ans more next next' h = h c ans
  judged_grows (tell e c) at ans more next next' h = begins_cons (at, Event.message e) (h c ans)
  judged_grows (ask q y) at ans more next next' h = begins_cons (at, Event.question q) (answered_grows y at ans more next next' h)
  judged_grows (stop l) at ans more next next' h = begins_refl _

  scan_grows : (bs bs' : List ℕ) (c : C) (g : List ℕ) (at : ℕ) (ans more : List Bool) (told : Bool)
      → Begins (scan R c g at bs ans false) (scan R c g at (bs ++ bs') (ans ++ more) told)
  unfolding scan
  scan_grows [] bs' c g at ans more told = begins_nil _
  scan_grows (b ∷ bs) bs' c g at ans more told =
      by (R.whole c (g ++ b ∷ [])) (λ c' g' ans'. scan_grows bs bs' c' g' (suc at) ans' more told)
    where
      by : (x : Bool)
          → ((c' : C) (g' : List ℕ) (ans' : List Bool)
          → Begins (scan R c' g' (suc at) bs ans' false) (scan R c' g' (suc at) (bs ++ bs') (ans' ++ more) told))
          → Begins {A = ℕ × Event Q E L}
          (elim x [
            | true ↦ judged R (R.judge c (g ++ b ∷ [])) (suc at) ans (λ c' ans'. scan R c' [] (suc at) bs ans' false)
            | false ↦ scan R c (g ++ b ∷ []) (suc at) bs ans false
          ])
          (elim x [
            | true ↦ judged R (R.judge c (g ++ b ∷ [])) (suc at) (ans ++ more) (λ c' ans'. scan R c' [] (suc at) (bs ++ bs') ans' told)
            | false ↦ scan R c (g ++ b ∷ []) (suc at) (bs ++ bs') (ans ++ more) told
          ])
      by true ih = judged_grows (R.judge c (g ++ b ∷ [])) (suc at) ans more _ _ (λ c' ans'. ih c' [] ans')
      by false ih = ih c (g ++ b ∷ []) ans

  pub reading_at_grows : (c : C) (at : ℕ) (bs bs' : List ℕ) (ans more : List Bool) (told : Bool)
      → Begins (reading_at R c at bs ans false) (reading_at R c at (bs ++ bs') (ans ++ more) told)
  reading_at_grows c at bs bs' ans more told =
      rw (at_scan R c at bs ans false, at_scan R c at (bs ++ bs') (ans ++ more) told) (scan_grows bs bs' c [] at ans more told)

  pub reading_grows : (c : C) (bs bs' : List ℕ) (ans more : List Bool) (told : Bool)
      → Begins (reading R c bs ans false) (reading R c (bs ++ bs') (ans ++ more) told)
  unfolding reading
  reading_grows c bs bs' ans more told = reading_at_grows c 0 bs bs' ans more told
