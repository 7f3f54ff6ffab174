-- Pieces that go on from the first byte not taken: the events so far are a beginning of the whole stream's reading.
-- Assumes nothing.
use mathlib.Core.Path.{◌≡◌, refl, sym, ◌∙◌}
use mathlib.Core.Bool.{Bool, true, false, ◌||◌}
use mathlib.Core.List.{List, [], ◌∷◌, ◌++◌, append_assoc, append-nil}
use Prim.Native.Nat.{ℕ, ◌+◌}
use lib.ListN.{length, drop}
use lib.Seq.{drop-append_seam}
use Rattle.sections.specs.Reading.{Log, Rules, reading}
use Rattle.sections.specs.Calls.{Request, Call, Out, over, History, history, read_call}
use Rattle.sections.specs.Machine.{State, running, asked, finished, turn, run_from}
use Rattle.sections.specs.Resuming.{Begins, heard, continues, request, Resumes, entry, placed, answer_by, end_by, answers_heard, end_heard, Tracks}
use Rattle.sections.proofs.States.{stands, resume}
use Rattle.sections.proofs.Invariant.{Inv, live, ended}
use Rattle.sections.proofs.Agreement.{size, Adds, nothing, bytes, reply, close, turn_agrees}
use Rattle.sections.proofs.Histories.{adds_size}

or-false : (x : Bool) → (x || false) ≡ x
or-false true = refl
or-false false = refl

or_assoc : (x y z : Bool) → ((x || y) || z) ≡ (x || (y || z))
or_assoc true y z = refl
or_assoc false y z = refl

-- the end is told only once nothing is left
abbrev Spent : Bool → List ℕ → Type 0
Spent true left = left ≡ []
Spent false left = Unit {0}

-- the bytes f taken from the front of a piece of what is left
same_stream : (taken f r piece left : List ℕ) → f ++ r ≡ piece → Begins piece left → taken ++ f ++ drop (length f) left ≡ taken ++ left
same_stream taken f r piece left p b =
    rw (← b.joined, ← p, append_assoc f r b.rest, drop-append_seam f (r ++ b.rest), append_assoc taken f (r ++ b.rest))

-- What a call makes of the history, where `left` is what of the stream is not taken: which answers it gained,
-- whether the end was told, and that the stream is still the same.
abbrev Onward : {Q E L : Type 0} → List ℕ → Request → Out Q E L → History → History → Type 0
Onward left k o (history taken ans told) (history taken' ans' told') =
    (ans ++ answer_by (heard o.0) k ≡ ans') × ((told || end_by (heard o.0) k) ≡ told')
    × (taken' ++ drop o.1 left ≡ taken ++ left) × (Spent told left → Spent told' (drop o.1 left))

onward : {Q E L : Type 0} (left : List ℕ) (k : Request) (o : Out Q E L) (h h' : History)
    → continues left (heard o.0) k → Adds h k o h' → Onward left k o h h'
onward left k o h h' c (nothing {h = history taken ans told}) = (append-nil ans, or-false told, refl, λ x. x)
onward left k o h h' c (bytes {taken} {piece} f r {ans} {w} x p) = (
  rw x (append-nil ans),
  rw x,
  same_stream taken f r piece left p (rw x at c),
  λ z. z,
)
onward left k o h h' c reply = (refl, refl, refl, λ x. x)
onward left k o h h' c (close {ans}) = (append-nil ans, refl, refl, λ x. c)

module _ {C Q E L : Type 0} (R : Rules C Q E L) (start : C) where
  stopped : (s : State C E L) (at : ℕ) (bs : List ℕ) (t : Bool) → stands s ≡ over → resume R s at bs [] t ≡ []
  stopped (running c g) at bs t h = cc
  stopped (asked y) at bs t h = refl
  stopped finished at bs t h = refl

  -- so far, whether the end is told or not, as long as it was not told too early
  tracks_now : (left taken : List ℕ) (ans : List Bool) (told : Bool) (log : Log Q E L) (s : State C E L) (t : Bool)
      → Inv R start (history taken ans told) log s → Spent told left → (told ≡ true → t ≡ true)
      → Tracks log (reading R start (taken ++ left) ans t)
  tracks_now left taken ans told log s t (live st h) x u =
      let e : reading R start (taken ++ left) ans t ≡ log ++ resume R s (length taken) left [] t = rw append-nil at (h.on left [] t) in
      record {
        begins = record { rest = resume R s (length taken) left [] t; joined = sym e };
        complete = λ v. sym (rw (stopped s (length taken) left t (sym st ∙ v), append-nil log) at e);
      }
  tracks_now left taken ans told log s t (ended st h) x u =
      let e : log ≡ reading R start (taken ++ left) ans t = rw (x, append-nil taken, u refl) (sym h) in
      record { begins = record { rest = []; joined = append-nil log ∙ e }; complete = λ v. e }

  -- from a history on
  pub run_tracks : (ks : List Call) (S left taken : List ℕ) (ans : List Bool) (told : Bool) (log : Log Q E L) (s : State C E L) (t : Bool)
      → Inv R start (history taken ans told) log s → taken ++ left ≡ S → Spent told left → Resumes left ks (run_from R s ks)
      → ((told || end_heard ks (run_from R s ks)) ≡ true → t ≡ true)
      → Tracks (log ++ placed (length taken) (run_from R s ks)) (reading R start S (ans ++ answers_heard ks (run_from R s ks)) t)
  unfolding run_from Resumes placed answers_heard end_heard
  run_tracks [] S left taken ans told log s t v e x c u =
      rw (← e, append-nil log, append-nil ans) (tracks_now left taken ans told log s t v x (rw (or-false told) at u))
  run_tracks (k ∷ ks) S left taken ans told log s t v e x c u =
      let a = turn_agrees R start k v in
      by (read_call R start (history taken ans told) k).1
      (onward left (request k) (turn R s k).0 (history taken ans told) (read_call R start (history taken ans told) k).1 c.0 a.2)
      (adds_size a.2)
      a.1
      (λ taken' ans' told' log' v' e' x' u'.
      run_tracks ks S (drop (turn R s k).0.1 left) taken' ans' told' log' (turn R s k).1 t v' e' x' c.1 u')
    where
      o : Out Q E L
      o = (turn R s k).0

      s' : State C E L
      s' = (turn R s k).1

      by : (h' : History) → Onward left (request k) o (history taken ans told) h' → length taken + o.1 ≡ size h'
          → Inv R start h' (log ++ entry (size h') o.0) s'
          → ((taken'' : List ℕ) (ans'' : List Bool) (told'' : Bool) (log'' : Log Q E L) → Inv R start (history taken'' ans'' told'') log'' s'
          → taken'' ++ drop o.1 left ≡ S → Spent told'' (drop o.1 left)
          → ((told'' || end_heard ks (run_from R s' ks)) ≡ true → t ≡ true)
          → Tracks (log'' ++ placed (length taken'') (run_from R s' ks)) (reading R start S (ans'' ++ answers_heard ks (run_from R s' ks)) t))
          → Tracks (log ++ placed (length taken) (o ∷ run_from R s' ks)) (reading R start S (ans ++ answers_heard (k ∷ ks) (o ∷ run_from R s' ks)) t)
      by (history taken' ans' told') (ans-is, told_is, left_is, spent) size_is v' ih =
          rw (size_is, ← append_assoc log, ← append_assoc ans, ans-is)
          (ih taken' ans' told' (log ++ entry (length taken') o.0) v' (left_is ∙ e) (spent x)
          (rw (← or_assoc told, told_is) at u))
