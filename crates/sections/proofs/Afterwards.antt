-- After a last word every call is refused with 1 or 2 and takes no byte. So the place of a last word is the number of all bytes that the
-- calls took, however many calls came after it. Assumes nothing.
use mathlib.Core.Path.{◌≡◌, refl, sym, ap, ◌∙◌}
use mathlib.Core.Bool.{true, false}
use mathlib.Core.List.{List, [], ◌∷◌, ◌++◌, append-nil, head-eq_of_cons-eq, tail-eq_of_cons-eq}
use Prim.Native.Nat.{ℕ, ◌+◌}
use native.Mathlib.Omega.{arith}
use lib.ListN.{length, length-append}
use lib.Seq.{take-append_seam}
use Rattle.sections.specs.Reading.{Event, last, Log, Rules}
use Rattle.sections.specs.Calls.{Request, Call, call, Reply, more, event, misused, Out, over, standing, History}
use Rattle.sections.specs.Machine.{State, running, asked, finished, respond, turn, run_from, run_calls}
use Rattle.sections.specs.Resuming.{heard, bytes_by, request, entry, placed, events, bytes_taken}
use Rattle.sections.proofs.States.{stands}
use Rattle.sections.proofs.Invariant.{standing_snoc, Inv, at_start, inv_stands}
use Rattle.sections.proofs.Agreement.{size, Adds, nothing, bytes, reply, close, turn_agrees}
use Rattle.sections.proofs.Histories.{adds_size}

-- a call takes as many bytes as it says
adds_count : {Q E L : Type 0} {h h' : History} {k : Request} {o : Out Q E L} → Adds h k o h' → length (bytes_by (heard o.0) o.1 k) ≡ o.1
adds_count nothing = refl
adds_count (bytes f r x p) = rw (x, ← p, take-append_seam f r)
adds_count reply = refl
adds_count close = refl

-- where a last word stands in an entry and more
data Found {Q E L : Type 0} (at n : ℕ) (l : L) (after : Log Q E L) (w : Reply Q E L) (log : Log Q E L) : Type 0 where
  here : at ≡ n → w ≡ event (last l) → Found at n l after w log
  later : (before : Log Q E L) → before ++ (at, last l) ∷ after ≡ log → Found at n l after w log

found : {Q E L : Type 0} (at n : ℕ) (l : L) (before after : Log Q E L) (w : Reply Q E L) (log : Log Q E L)
    → before ++ (at, last l) ∷ after ≡ entry n w ++ log → Found at n l after w log
found at n l before after more log e = later before e
found at n l before after (misused k) log e = later before e
found {Q} {E} {L} at n l [] after (event x) log e =
    let f : ◌≡◌ {A = ℕ × Event Q E L} (at, last l) (n, x) = head-eq_of_cons-eq e in
    here (ap (λ (y : ℕ × Event Q E L). y.0) f) (ap (λ (y : ℕ × Event Q E L). event y.1) (sym f))
found at n l (y ∷ before) after (event x) log e = later before (tail-eq_of_cons-eq e)

module _ {C Q E L : Type 0} (R : Rules C Q E L) where
  none_taken : (ks : List Call) (s : State C E L) → stands s ≡ over → bytes_taken ks (run_from R s ks) ≡ []
  unfolding bytes_taken run_from turn respond
  none_taken [] s e = refl
  none_taken (k ∷ ks) (running c g) e = cc
  none_taken (k ∷ ks) (asked y) e = cc
  none_taken (call false r ∷ ks) finished e = none_taken ks finished e
  none_taken (call true r ∷ ks) finished e = none_taken ks finished e

  module _ (start : C) where
    place_from : (ks : List Call) {h : History} {log : Log Q E L} {s : State C E L} → Inv R start h log s
        → (before after : Log Q E L) (at : ℕ) (l : L) → before ++ (at, last l) ∷ after ≡ placed (size h) (run_from R s ks)
        → at ≡ size h + length (bytes_taken ks (run_from R s ks))
    unfolding bytes_taken run_from placed
    place_from [] v [] after at l e = cc
    place_from [] v (x ∷ before) after at l e = cc
    place_from (k ∷ ks) {h} {log} {s} v before after at l e =
        let a = turn_agrees R start k v in
        by _ (adds_count a.2) (inv_stands R start a.1)
        (λ before' e'. rw (adds_size a.2) (place_from ks a.1 before' after at l (rw (adds_size a.2) at e')))
        (found at (size h + o.1) l before after o.0 (placed (size h + o.1) os) e)
      where
        o : Out Q E L
        o = (turn R s k).0

        s' : State C E L
        s' = (turn R s k).1

        os : List (Out Q E L)
        os = run_from R s' ks

        took : List ℕ
        took = bytes_by (heard o.0) o.1 (request k)

        by : (n : ℕ) → length took ≡ o.1 → standing (log ++ entry n o.0) ≡ stands s'
            → ((before' : Log Q E L) → before' ++ (at, last l) ∷ after ≡ placed (size h + o.1) os → at ≡ size h + o.1 + length (bytes_taken ks os))
            → Found at (size h + o.1) l after o.0 (placed (size h + o.1) os)
            → at ≡ size h + length (took ++ bytes_taken ks os)
        by n c st ih (here p w) =
            let f : stands s' ≡ over = sym st ∙ ap (λ (x : Reply Q E L). standing (log ++ entry n x)) w ∙ standing_snoc log n (last l) in
            rw (none_taken ks s' f, append-nil took, c) p
        by n c st ih (later before' e') = omega (arith, ih before' e', length-append took (bytes_taken ks os))

    -- THE PLACE OF A LAST WORD is the number of all bytes taken.
    pub last_place : (ks : List Call) (before after : Log Q E L) (at : ℕ) (l : L) → before ++ (at, last l) ∷ after ≡ events (run_calls R start ks)
        → at ≡ length (bytes_taken ks (run_calls R start ks))
    unfolding run_calls
    last_place ks before after at l e = place_from ks (at_start R start) before after at l e ∙ omega arith
