-- The caller over a stream of the toy protocol, call by call, to say what is meant; and over document 000's example, which is an
-- honest show, so that the theorem about honest shows speaks of at least one. Assumes nothing.
use mathlib.Core.Path.{◌≡◌, refl}
use mathlib.Core.Bool.{true}
use mathlib.Core.List.{List, [], ◌∷◌}
use Prim.Native.Nat.{ℕ}
use Rattle.sections.specs.Calls.{feed, answer, end, Call, call}
use Rattle.sections.specs.Machine.{step, fed, respond, turn}
use Rattle.sections.proofs.Toy.{line, last_is, says, toy, sample}
use Rattle.stream.proofs.Example.{terms}
use Rattle.examples.proofs.Example.{example, example_honest}
use Rattle.reaching.specs.Caller.{hand_over, requests_over}
use Rattle.reaching.specs.Driver.{well_lent, calls_over}
use Rattle.reaching.specs.Outcome.{show_calls, show_outs, ComesOut}
use Rattle.reaching.proofs.Reaching.{honest_reached}

-- ---- the toy protocol

-- Pieces of 2, 0 and 4 bytes, and then all that is left. Of the third piece one byte is taken, as it decides a question; its
-- other three are the beginning of the fourth. The byte after the last word stays with the caller, and so does the third yes.
toy_calls : List Call
toy_calls =
    call true (feed (65 ∷ 120 ∷ []))
    ∷ call true (feed [])
    ∷ call true (feed (10 ∷ 66 ∷ 10 ∷ 104 ∷ []))
    ∷ call true (answer true)
    ∷ call true (feed (66 ∷ 10 ∷ 104 ∷ 105 ∷ 67 ∷ 10 ∷ 7 ∷ []))
    ∷ call true (feed (67 ∷ 10 ∷ 7 ∷ []))
    ∷ call true (answer true)
    ∷ []

toy_calls_lem : calls_over toy line (2 ∷ 0 ∷ 4 ∷ []) (true ∷ true ∷ true ∷ []) sample ≡ toy_calls
unfolding toy_calls well_lent requests_over hand_over step fed respond turn toy last_is says sample
toy_calls_lem = refl

-- no answer: the caller stops at the question
toy_open : calls_over toy line [] [] sample ≡ call true (feed sample) ∷ []
unfolding well_lent requests_over hand_over step fed respond turn toy last_is says sample
toy_open = refl

-- a stream that breaks off in a body: after its last byte the end is told
toy_ended : calls_over toy line (2 ∷ []) [] (66 ∷ 10 ∷ 104 ∷ []) ≡ call true (feed (66 ∷ 10 ∷ [])) ∷ call true (feed (104 ∷ [])) ∷ call true end ∷ []
unfolding well_lent requests_over hand_over step fed respond turn toy last_is says
toy_ended = refl

-- ---- an honest show

pub example_reached : (lengths : List ℕ) → ComesOut terms example (show_calls terms lengths [] example) (show_outs terms lengths [] example)
example_reached lengths = honest_reached terms example lengths [] example_honest
