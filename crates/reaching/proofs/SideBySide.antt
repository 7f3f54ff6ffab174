-- Two that are called side by side, and return words of one kind with the same counts: the ordinary caller asks the same of both, and
-- what is read off its calls is the same. Assumes nothing.
use mathlib.Core.Path.{◌≡◌, refl, sym, ap}
use mathlib.Core.Bool.{Bool}
use mathlib.Core.List.{List, [], ◌∷◌}
use Prim.Native.Nat.{ℕ, zero, suc, ◌+◌}
use lib.ListN.{drop}
use Rattle.sections.specs.Reading.{Event}
use Rattle.sections.specs.Calls.{Request, Call, Reply, more, event, misused, Out, Standing, going, standing_at, standing}
use Rattle.sections.specs.Resuming.{heard, Resumes, placed, bytes_taken, answers_heard}
use Rattle.reaching.specs.Caller.{after_word, Plan, halt, make, plan, carried, hand_over, requests_over}

module _ {Q E L Q' E' L' : Type 0} where
  -- ---- words

  pub data Alike : Reply Q E L → Reply Q' E' L' → Type 0 where
    both_more : Alike more more
    both_events : {e : Event Q E L} {e' : Event Q' E' L'} → standing_at e ≡ standing_at e' → Alike (event e) (event e')
    both_refused : {n : ℕ} → Alike (misused n) (misused n)

  alike_heard : {w : Reply Q E L} {w' : Reply Q' E' L'} → Alike w w' → heard w ≡ heard w'
  alike_heard both_more = refl
  alike_heard (both_events e) = refl
  alike_heard both_refused = refl

  alike_after : {w : Reply Q E L} {w' : Reply Q' E' L'} → Alike w w' → after_word w ≡ after_word w'
  alike_after both_more = refl
  alike_after (both_events e) = e
  alike_after both_refused = refl

  -- ---- lists of calls

  pub data AllAlike : List (Out Q E L) → List (Out Q' E' L') → Type 0 where
    none : AllAlike [] []
    next : {w : Reply Q E L} {w' : Reply Q' E' L'} {n : ℕ} {os : List (Out Q E L)} {os' : List (Out Q' E' L')}
        → Alike w w' → AllAlike os os' → AllAlike ((w, n) ∷ os) ((w', n) ∷ os')

  pub and_then : (o : Out Q E L) (o' : Out Q' E' L') {os : List (Out Q E L)} {os' : List (Out Q' E' L')} → Alike o.0 o'.0 → o.1 ≡ o'.1
      → AllAlike os os' → AllAlike (o ∷ os) (o' ∷ os')
  and_then (w, n) (w', n') x e a = rw e (next x a)

  pub alike_resumes : (left : List ℕ) (ks : List Call) {os : List (Out Q E L)} {os' : List (Out Q' E' L')} → AllAlike os os'
      → Resumes left ks os → Resumes left ks os'
  unfolding Resumes
  alike_resumes left [] a r = r
  alike_resumes left (k ∷ ks) none r = r
  alike_resumes left (k ∷ ks) (next {n} x a) r = (rw (alike_heard x) at r.0, alike_resumes (drop n left) ks a r.1)

  pub alike_took : (ks : List Call) {os : List (Out Q E L)} {os' : List (Out Q' E' L')} → AllAlike os os' → bytes_taken ks os' ≡ bytes_taken ks os
  unfolding bytes_taken
  alike_took [] a = refl
  alike_took (k ∷ ks) none = refl
  alike_took (k ∷ ks) (next x a) = rw (alike_heard x, alike_took ks a)

  pub alike_answers : (ks : List Call) {os : List (Out Q E L)} {os' : List (Out Q' E' L')} → AllAlike os os'
      → answers_heard ks os' ≡ answers_heard ks os
  unfolding answers_heard
  alike_answers [] a = refl
  alike_answers (k ∷ ks) none = refl
  alike_answers (k ∷ ks) (next x a) = rw (alike_heard x, alike_answers ks a)

  -- after an event of one kind
  stands_on : (at : ℕ) (x : ℕ × Event Q E L) (x' : ℕ × Event Q' E' L') {os : List (Out Q E L)} {os' : List (Out Q' E' L')} → AllAlike os os'
      → standing_at x.1 ≡ standing_at x'.1 → standing (x' ∷ placed at os') ≡ standing (x ∷ placed at os)
  unfolding standing placed
  stands_on at x x' none p = sym p
  stands_on at x x' (next {n} both_more a) p = stands_on (at + n) x x' a p
  stands_on at x x' (next {n} (both_events {e} {e'} q) a) p = stands_on (at + n) (at + n, e) (at + n, e') a q
  stands_on at x x' (next {n} both_refused a) p = stands_on (at + n) x x' a p

  pub alike_stands : (at : ℕ) {os : List (Out Q E L)} {os' : List (Out Q' E' L')} → AllAlike os os'
      → standing (placed at os') ≡ standing (placed at os)
  unfolding standing placed
  alike_stands at none = refl
  alike_stands at (next {n} both_more a) = alike_stands (at + n) a
  alike_stands at (next {n} (both_events {e} {e'} q) a) = stands_on (at + n) (at + n, e) (at + n, e') a q
  alike_stands at (next {n} both_refused a) = alike_stands (at + n) a

  -- ---- the caller

  module _ {X Y : Type 0} (serve : X → Request → Out Q E L × X) (serve' : Y → Request → Out Q' E' L' × Y) (Beside : X → Y → Type 0) where
    -- one call of each
    pub record Together (t : Out Q E L × X) (t' : Out Q' E' L' × Y) : Type 0 where
      pub words : Alike t.0.0 t'.0.0
      pub counts : t.0.1 ≡ t'.0.1
      pub beside : Beside t.1 t'.1

    module _ (together : (x : X) (y : Y) (r : Request) → Beside x y → Together (serve x r) (serve' y r)) where
      abbrev Same : ℕ → Type 0
      Same k = (x : X) (y : Y) (now : Standing) (lengths : List ℕ) (answers : List Bool) (left : List ℕ) → Beside x y
          → hand_over serve' k y now lengths answers left ≡ hand_over serve k x now lengths answers left

      -- whatever the plan
      carried_same : (k : ℕ) → Same k → (x : X) (y : Y) (left : List ℕ) (p : Plan) → Beside x y
          → carried serve' y left p (hand_over serve' k) ≡ carried serve x left p (hand_over serve k)
      carried_same k ih x y left halt v = refl
      carried_same k ih x y left (make r lengths answers) v =
          let m = together x y r v in
          rw (alike_after m.words, m.counts) (ap (λ (l : List Request). r ∷ l) (ih _ _ _ lengths answers _ m.beside))

      handed_same : (k : ℕ) → Same k
      unfolding hand_over
      handed_same zero x y now lengths answers left v = refl
      handed_same (suc k) x y now lengths answers left v = carried_same k (handed_same k) x y left (plan now lengths answers left) v

      pub same_requests : (x : X) (y : Y) (lengths : List ℕ) (answers : List Bool) (stream : List ℕ) → Beside x y
          → requests_over serve' y lengths answers stream ≡ requests_over serve x lengths answers stream
      unfolding requests_over
      same_requests x y lengths answers stream v = handed_same _ x y going lengths answers stream v
