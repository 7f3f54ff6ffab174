-- What a list of calls leaves is what the bytes that it took, the answers that it was given and the end that it was told leave. Assumes nothing.
use mathlib.Core.Path.{◌≡◌, refl, sym, ◌∙◌}
use mathlib.Core.Bool.{Bool, true, false, ◌||◌}
use mathlib.Core.List.{List, [], ◌∷◌, ◌++◌, append_assoc, append-nil}
use Prim.Native.Nat.{ℕ}
use lib.ListN.{take}
use Rattle.sections.specs.Reading.{Grant, granted, final, Rules}
use Rattle.sections.specs.Calls.{Request, feed, answer, end, Call, call}
use Rattle.sections.specs.Machine.{State, Turn, follow, fed, respond, turn, run_from, run_calls}
use Rattle.sections.specs.Resuming.{heard, bytes_by, answer_by, end_by, request, bytes_taken, answers_heard, end_heard}
use Rattle.sections.specs.Leaving.{Effects, leaving}
use Rattle.sections.proofs.Histories.{or-false, or_assoc}
use Rattle.sections.proofs.Trails.{trail, leaving_trail}
use Rattle.sections.proofs.Marks.{Mark, midway, waiting, done, Move, onward, halts, state_of, step_of, mark_of, following, left_at, trail_from, trail_now, move, move_step, move_trail}
use Rattle.sections.proofs.Marking.{fed_to, replied_to, respond_to, turn_to, turn_state, mark_after}

-- ---- what holds between calls

module _ {C Q E L B : Type 0} (R : Rules C Q E L) (F : Effects C Q L B) (start : C) (b₀ : B) where
  -- However the bytes and the answers go on, what they leave is what they leave from the mark.
  pub record Trails (taken : List ℕ) (ans : List Bool) (m : Mark C E L B) : Type 0 where
    pub on : (bs : List ℕ) (ans' : List Bool) (told : Bool) → leaving R F start (taken ++ bs) (ans ++ ans') told b₀ ≡ trail_from R F m bs ans' told

  pub data Kept : List ℕ → List Bool → Bool → Mark C E L B → Type 0 where
    live : {taken : List ℕ} {ans : List Bool} {m : Mark C E L B} → Trails taken ans m → Kept taken ans false m
    ended : {taken : List ℕ} {ans : List Bool} {b : B} → leaving R F start taken ans true b₀ ≡ b → Kept taken ans true (done b)

  kept_now : {taken : List ℕ} {ans : List Bool} {told : Bool} {m : Mark C E L B} → Kept taken ans told m
      → left_at R F m ≡ leaving R F start taken ans told b₀
  kept_now {taken} {ans} {m} (live h) =
      let e = h.on [] [] false in
      sym (trail_now R F m) ∙ sym (rw (append-nil taken, append-nil ans) at e)
  kept_now (ended e) = sym e

  -- a byte more, and an answer more
  one_more_lem : {taken : List ℕ} {ans : List Bool} {c : C} {g : List ℕ} {b : B} (x : ℕ) → Trails taken ans (midway c g b)
      → Trails (taken ++ x ∷ []) ans (mark_of (move R F c g b x))
  one_more_lem {taken} {c} {g} {b} x h = record {
    on = λ bs ans' told. rw (append_assoc taken (x ∷ []) bs, ← move_trail R F c g b x bs ans' told) (h.on (x ∷ bs) ans' told);
  }

  replied : {taken : List ℕ} {ans : List Bool} {c : C} {l : List ℕ} {b : B} (y : Grant C E L) → Trails taken ans (waiting c l y b)
      → Trails taken (ans ++ true ∷ []) (replied_to R F c l y b)
  replied {ans} (granted e c') h = record { on = λ bs ans' told. rw (append_assoc ans (true ∷ []) ans') (h.on bs (true ∷ ans') told) }
  replied {ans} (final w) h = record { on = λ bs ans' told. rw (append_assoc ans (true ∷ []) ans') (h.on bs (true ∷ ans') told) }

  refused : {taken : List ℕ} {ans : List Bool} {c : C} {l : List ℕ} {b : B} (y : Grant C E L) → Trails taken ans (waiting c l y b)
      → Trails taken (ans ++ false ∷ []) (done (F.finish c l R.denied b))
  refused {ans} (granted e c') h = record { on = λ bs ans' told. rw (append_assoc ans (false ∷ []) ans') (h.on bs (false ∷ ans') told) }
  refused {ans} (final w) h = record { on = λ bs ans' told. rw (append_assoc ans (false ∷ []) ans') (h.on bs (false ∷ ans') told) }

  -- ---- one call

  -- a piece is heard, and what it took is added
  record Fed (taken : List ℕ) (ans : List Bool) (piece : List ℕ) (t : Turn C Q E L) (m : Mark C E L B) : Type 0 where
    hears : heard t.0.0 ≡ true
    trails : Trails (taken ++ take t.0.1 piece) ans m

  fed_to_lem : (piece : List ℕ) {taken : List ℕ} {ans : List Bool} {c : C} {g : List ℕ} {b : B} → Trails taken ans (midway c g b)
      → Fed taken ans piece (fed R c g piece) (fed_to R F c g b piece)
  unfolding fed fed_to
  fed_to_lem [] {taken} h = record { hears = refl; trails = rw (append-nil taken) h }
  fed_to_lem (x ∷ xs) {taken} {ans} {c} {g} {b} h = rw (← move_step R F c g b x) (by (move R F c g b x) (one_more_lem x h) (λ c' g' b' h'. fed_to_lem xs h'))
    where
      by : (v : Move C Q E L B) → Trails (taken ++ x ∷ []) ans (mark_of v)
          → ((c' : C) (g' : List ℕ) (b' : B) → Trails (taken ++ x ∷ []) ans (midway c' g' b') → Fed (taken ++ x ∷ []) ans xs (fed R c' g' xs) (fed_to R F c' g' b' xs))
          → Fed taken ans (x ∷ xs) (follow (step_of v) (λ c' g'. fed R c' g' xs)) (following v (λ c' g' b'. fed_to R F c' g' b' xs))
      by (onward c' g' b') h' ih =
          let f = ih c' g' b' h' in
          record { hears = f.hears; trails = rw (append_assoc taken (x ∷ [])) at f.trails }
      by (halts e m) h' ih = record { hears = refl; trails = h' }

  -- what is kept after a call of the request r that returns t
  abbrev Grows : List ℕ → List Bool → Bool → Request → Turn C Q E L → Mark C E L B → Type 0
  Grows taken ans told r t m =
      Kept (taken ++ bytes_by (heard t.0.0) t.0.1 r) (ans ++ answer_by (heard t.0.0) r) (told || end_by (heard t.0.0) r) m

  kept_still : {taken : List ℕ} {ans : List Bool} {told : Bool} {m : Mark C E L B} → Kept taken ans told m → Kept (taken ++ []) (ans ++ []) (told || false) m
  kept_still {taken} {ans} {told} v = rw (append-nil taken, append-nil ans, or-false told) v

  live_adds : {taken : List ℕ} {ans : List Bool} (m : Mark C E L B) (r : Request) → Trails taken ans m
      → Grows taken ans false r (respond R (state_of m) r) (respond_to R F m r)
  unfolding respond respond_to trail
  live_adds {taken} {ans} (midway c g b) (feed piece) h = let f = fed_to_lem piece h in rw (f.hears, append-nil ans) (live f.trails)
  live_adds (midway c g b) (answer a) h = kept_still (live h)
  live_adds (midway c g b) end h = ended (h.on [] [] true)
  live_adds (waiting c l y b) (feed piece) h = kept_still (live h)
  live_adds {taken} (waiting c l (granted e c') b) (answer true) h = rw (append-nil taken) (live (replied (granted e c') h))
  live_adds {taken} (waiting c l (final w) b) (answer true) h = rw (append-nil taken) (live (replied (final w) h))
  live_adds {taken} (waiting c l y b) (answer false) h = rw (append-nil taken) (live (refused y h))
  live_adds (waiting c l y b) end h = kept_still (live h)
  live_adds (done b) r h = kept_still (live h)

  turn_adds : {taken : List ℕ} {ans : List Bool} {told : Bool} {m : Mark C E L B} (k : Call) → Kept taken ans told m
      → Grows taken ans told (request k) (turn R (state_of m) k) (turn_to R F m k)
  unfolding turn turn_to respond respond_to
  turn_adds (call false r) v = kept_still v
  turn_adds {m} (call true r) (live h) = live_adds m r h
  turn_adds (call true r) (ended e) = kept_still (ended e)

  -- ---- any list of calls

  joined : (b : B) (taken bs cs : List ℕ) (ans xs ys : List Bool) (t u v : Bool)
      → b ≡ leaving R F start ((taken ++ bs) ++ cs) ((ans ++ xs) ++ ys) ((t || u) || v) b₀
      → b ≡ leaving R F start (taken ++ (bs ++ cs)) (ans ++ (xs ++ ys)) (t || (u || v)) b₀
  joined b taken bs cs ans xs ys t u v e = rw (append_assoc taken bs cs, append_assoc ans xs ys, or_assoc t u v) at e

  calls_leave : (ks : List Call) (taken : List ℕ) (ans : List Bool) (told : Bool) (m : Mark C E L B) (s : State C E L) → s ≡ state_of m → Kept taken ans told m
      → left_at R F (mark_after R F m ks)
      ≡ leaving R F start (taken ++ bytes_taken ks (run_from R s ks)) (ans ++ answers_heard ks (run_from R s ks)) (told || end_heard ks (run_from R s ks)) b₀
  unfolding mark_after run_from bytes_taken answers_heard end_heard
  calls_leave [] taken ans told m s e v = kept_now (kept_still v)
  calls_leave (k ∷ ks) taken ans told m s e v =
      rw e
      (joined _ taken _ _ ans _ _ told _ _
      (calls_leave ks _ _ _ (turn_to R F m k) (turn R (state_of m) k).1 (turn_state R F m k) (turn_adds k v)))

  -- WHAT A RUN LEAVES
  pub run_leaves : (ks : List Call)
      → left_at R F (mark_after R F (midway start [] b₀) ks)
      ≡ leaving R F start (bytes_taken ks (run_calls R start ks)) (answers_heard ks (run_calls R start ks)) (end_heard ks (run_calls R start ks)) b₀
  unfolding run_calls
  run_leaves ks = calls_leave ks [] [] false _ _ refl (live (record { on = λ bs ans told. leaving_trail R F start bs ans told b₀ }))
