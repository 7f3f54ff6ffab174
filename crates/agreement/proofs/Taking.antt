-- How many bytes a feed takes, whatever the state: one or more of a piece that is not empty, and no more than there are.
-- Assumes nothing.
use mathlib.Core.Path.{◌≡◌, ◌∙◌}
use mathlib.Core.Bool.{true}
use mathlib.Core.List.{List, [], ◌∷◌}
use Prim.Native.Nat.{ℕ, ◌+◌}
use native.Mathlib.Omega.{arith}
use lib.ListN.{length}
use Rattle.ring.specs.Keys.{terms_of}
use Rattle.ring.specs.declared.KeyRing.{KeyRing}
use Rattle.sections.specs.Calls.{feed}
use Rattle.state.specs.Configuration.{Configuration, Next, on, stop}
use Rattle.state.specs.Run.{follow, run_of}
use Rattle.calls.specs.Response.{is_reading, recalled}
use Rattle.reader.specs.Feed.{push_byte, fed, taken_from, feed_of}
use Rattle.agreement.specs.Due.{Between}
use Rattle.agreement.specs.Loans.{loan_fits}
use Rattle.agreement.proofs.Rooms.{loan_same}

-- of a run over xs, under any rule of bytes, with t bytes taken before
pub run_takes : (push : Configuration → ℕ → Next) (d : Configuration) (t : ℕ) (xs : List ℕ) → Between t (t + length xs) (fed (run_of push d t xs)).taken
unfolding run_of
run_takes push d t [] = record { least = omega arith; most = omega arith }
run_takes push d t (x ∷ xs) = by (push d x) (λ d'. run_takes push d' (t + 1) xs)
  where
    by : (n : Next) → ((d' : Configuration) → Between (t + 1) (t + 1 + length xs) (fed (run_of push d' (t + 1) xs)).taken)
        → Between t (t + length (x ∷ xs)) (fed (follow n (t + 1) (λ d'. run_of push d' (t + 1) xs))).taken
    by (on d') ih = record { least = omega (arith, (ih d').least); most = omega (arith, (ih d').most) }
    by (stop w signature d') ih = record { least = omega arith; most = omega arith }

some_taken : (push : Configuration → ℕ → Next) (d : Configuration) (x : ℕ) (xs : List ℕ) → Between 1 (length (x ∷ xs)) (fed (run_of push d 0 (x ∷ xs))).taken
unfolding run_of
some_taken push d x xs = by (push d x)
  where
    by : (n : Next) → Between 1 (length (x ∷ xs)) (fed (follow n (0 + 1) (λ d'. run_of push d' (0 + 1) xs))).taken
    by (on d') = let b = run_takes push d' (0 + 1) xs in record { least = omega (arith, b.least); most = omega (arith, b.most) }
    by (stop w signature d') = record { least = omega arith; most = omega arith }

-- A FEED of a piece that is not empty, and that is due, takes a byte or more, in any state.
pub feed_takes : (keys : KeyRing) (uri : List ℕ) (d : Configuration) (x : ℕ) (xs : List ℕ) → loan_fits d.head d.block d.question keys (feed (x ∷ xs)) ≡ true
    → is_reading d.reader.phase ≡ true → Between 1 (length (x ∷ xs)) (feed_of keys uri d (x ∷ xs)).taken
unfolding feed_of taken_from
feed_takes keys uri d x xs e r = rw (loan_same d.head d.block d.question keys (feed (x ∷ xs)) ∙ e, r) (some_taken (push_byte (terms_of keys uri)) (recalled d) x xs)
