-- A piece: the machine takes of it what the plain reading says is taken. Assumes nothing.
use mathlib.Core.Path.{◌≡◌, refl, ap}
use mathlib.Core.Bool.{Bool, true, false}
use mathlib.Core.List.{List, [], ◌∷◌, ◌++◌, append_assoc, append-nil}
use Prim.Native.Nat.{ℕ, suc}
use lib.ListN.{length}
use lib.Seq.{drop-append_seam, drop-length}
use Rattle.sections.specs.Reading.{Event, Log, Rules, Cut, uncut, cut_at, push, cut, reading}
use Rattle.sections.specs.Calls.{more, event, standing_at, gained, nonempty}
use Rattle.sections.specs.Machine.{State, running, Step, on, decides, Turn, one_more, follow, step, fed}
use Rattle.sections.proofs.Scans.{scan}
use Rattle.sections.proofs.States.{stands, Fits, stepped, step_fits, scan_step}
use Rattle.sections.proofs.Invariant.{Goes, goes_now, goes_quiet, goes_heard}

module _ {C Q E L : Type 0} (R : Rules C Q E L) (start : C) where
  -- a turn of the machine over a piece, beside the cut of the piece that the reading makes
  pub data Fed (taken : List ℕ) (ans : List Bool) (log : Log Q E L) (piece : List ℕ) : Cut → Turn C Q E L → Type 0 where
    all_of : {c : C} {g : List ℕ} → Goes R start (taken ++ piece) ans log (running c g)
        → Fed taken ans log piece uncut ((more, length piece), running c g)
    up_to : {f r : List ℕ} {e : Event Q E L} {s : State C E L} → f ++ r ≡ piece → standing_at e ≡ stands s
        → Goes R start (taken ++ f) ans (log ++ (length (taken ++ f), e) ∷ []) s
        → Fed taken ans log piece (cut_at f r) ((event e, length f), s)

  fed_push : {taken : List ℕ} {ans : List Bool} {log : Log Q E L} {piece : List ℕ} (b : ℕ) {k : Cut} {o : Turn C Q E L}
      → Fed (taken ++ b ∷ []) ans log piece k o → Fed taken ans log (b ∷ piece) (push b k) (one_more o)
  fed_push b (all_of h) = all_of (rw append_assoc at h)
  fed_push b (up_to p e h) = up_to (ap (λ (l : List ℕ). b ∷ l) p) e (rw append_assoc at h)

  -- p says of a beginning of the rest that the reading gains an event by it
  abbrev pub Tells : List ℕ → List Bool → Log Q E L → (List ℕ → Bool) → Type 0
  Tells taken ans log p = (t : List ℕ) → p t ≡ nonempty (gained log (reading R start (taken ++ t) ans false))

  module _ {taken : List ℕ} {ans : List Bool} {log : Log Q E L} where
    -- a byte that gives no event, and one that does
    fed_quiet : {b : ℕ} {l : List ℕ} (p : List ℕ → Bool) {c : C} {g : List ℕ} {o : Turn C Q E L} → Tells taken ans log p
        → Goes R start (taken ++ b ∷ []) ans log (running c g) → Fed (taken ++ b ∷ []) ans log l (cut (λ t. p (b ∷ t)) l) o
        → Fed taken ans log (b ∷ l) (cut p (b ∷ l)) (one_more o)
    unfolding cut
    fed_quiet {b} p hp h ih =
        let e : p (b ∷ []) ≡ false = rw (hp (b ∷ []), goes_now R start h, drop-length log) in
        rw (e, cut) (fed_push b ih)

    fed_heard : {b : ℕ} (l : List ℕ) (p : List ℕ → Bool) {e : Event Q E L} {s : State C E L} → Tells taken ans log p → standing_at e ≡ stands s
        → Goes R start (taken ++ b ∷ []) ans (log ++ (length (taken ++ b ∷ []), e) ∷ []) s
        → Fed taken ans log (b ∷ l) (cut p (b ∷ l)) ((event e, 1), s)
    unfolding cut
    fed_heard {b} l p hp hs h =
        let y : p (b ∷ []) ≡ true = rw (hp (b ∷ []), goes_now R start h, drop-append_seam log) in
        rw (y, cut) (up_to refl hs h)

  pub feed_agrees : (l : List ℕ) {taken : List ℕ} {ans : List Bool} {log : Log Q E L} (p : List ℕ → Bool) {c : C} {g : List ℕ}
      → Tells taken ans log p → Goes R start taken ans log (running c g) → Fed taken ans log l (cut p l) (fed R c g l)
  unfolding fed cut
  feed_agrees [] {taken} {ans} {log} p {c} {g} hp h = all_of {c = c} {g = g} (rw append-nil h)
  feed_agrees (b ∷ l) {taken} {ans} {log} p {c} {g} hp h =
      by (step R c g b) (step_fits R c g b) (λ bs ans' told. scan_step R c g (length taken) b bs ans' told)
      (λ c' g' h'. feed_agrees l (λ t. p (b ∷ t)) {c = c'} {g = g'} (λ t. rw append_assoc (hp (b ∷ t))) h')
    where
      by : (σ : Step C Q E L) → Fits σ
          → ((bs : List ℕ) (ans' : List Bool) (told : Bool)
          → scan R c g (length taken) (b ∷ bs) ans' told ≡ stepped R σ (suc (length taken)) bs ans' told)
          → ((c' : C) (g' : List ℕ) → Goes R start (taken ++ b ∷ []) ans log (running c' g')
          → Fed (taken ++ b ∷ []) ans log l (cut (λ t. p (b ∷ t)) l) (fed R c' g' l))
          → Fed taken ans log (b ∷ l) (cut p (b ∷ l)) (follow σ (λ c' g'. fed R c' g' l))
      by (on c' g') f e ih = let h' = goes_quiet R start b (running c' g') h e in fed_quiet p hp h' (ih c' g' h')
      by (decides y s) f e ih = fed_heard l p hp f (goes_heard R start b y s h e)
