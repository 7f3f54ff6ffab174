-- Lists of calls over the toy protocol: refused calls, empty pieces, and one stream cut in two ways. Assumes nothing.
use mathlib.Core.Path.{◌≡◌, refl}
use mathlib.Core.Bool.{true, false}
use mathlib.Core.List.{List, [], ◌∷◌, ◌++◌}
use Prim.Native.Nat.{ℕ}
use lib.ListN.{drop}
use Rattle.sections.specs.Reading.{question, message, last, cut, sections, reading_at, reading}
use Rattle.sections.specs.Calls.{feed, answer, end, Call, call, more, event, misused, Out, standing, read_request, read_call, read_from, read_calls}
use Rattle.sections.specs.Machine.{step, fed, respond, turn, run_from, run_calls}
use Rattle.sections.specs.Resuming.{Begins, Resumes, placed, events, answers_heard}
use Rattle.sections.proofs.Toy.{line, last_is, says, toy, sample, told}
use Rattle.sections.proofs.Cutting.{cuttings_agree}

-- Empty pieces, refused calls (2 goes before 1: with a question open, and after the last word), and each piece from the
-- first byte not taken.
calls : List Call
calls =
    call true (feed [])
    ∷ call true (feed (65 ∷ []))
    ∷ call false (feed (120 ∷ 10 ∷ []))
    ∷ call true (answer true)
    ∷ call true (feed (120 ∷ 10 ∷ 66 ∷ 10 ∷ []))
    ∷ call true end
    ∷ call false end
    ∷ call true (answer true)
    ∷ call true (feed (66 ∷ 10 ∷ 104 ∷ 105 ∷ 67 ∷ 10 ∷ 7 ∷ []))
    ∷ call true (feed (67 ∷ 10 ∷ 7 ∷ []))
    ∷ call true (answer true)
    ∷ call false (answer true)
    ∷ call true (feed [])
    ∷ []

expected : List (Out ℕ (List ℕ) ℕ)
expected =
    (more, 0)
    ∷ (more, 1)
    ∷ (misused 2, 0)
    ∷ (misused 1, 0)
    ∷ (event (question 65), 2)
    ∷ (misused 1, 0)
    ∷ (misused 2, 0)
    ∷ (event (message (120 ∷ 10 ∷ [])), 0)
    ∷ (event (message (104 ∷ 105 ∷ [])), 4)
    ∷ (event (question 67), 2)
    ∷ (event (last 0), 0)
    ∷ (misused 2, 0)
    ∷ (misused 1, 0)
    ∷ []

run_calls_lem : run_calls toy line calls ≡ expected
unfolding step fed respond turn run_from run_calls toy last_is says calls expected
run_calls_lem = refl

read_calls_lem : read_calls toy line calls ≡ expected
unfolding cut sections reading_at reading standing read_request read_call read_from read_calls toy last_is says calls expected
read_calls_lem = refl

run_events : events (run_calls toy line calls) ≡ told
unfolding step fed respond turn run_from run_calls toy last_is says calls placed told
run_events = refl

-- The same stream, each time all that is left of it: the same events at the same places.
largest : List Call
largest =
    call true (feed sample)
    ∷ call true (answer true)
    ∷ call true (feed (drop 3 sample))
    ∷ call true (feed (drop 7 sample))
    ∷ call true (answer true)
    ∷ []

begins : (l rest : List ℕ) → Begins l (l ++ rest)
begins l rest = record { rest = rest; joined = refl }

-- each call in its turn goes on where the one before left off
infixr 20 ◌and◌
◌and◌ : {A B : Type 0} → A → B → A × B
◌and◌ a b = (a, b)

calls_resume : Resumes sample calls (run_calls toy line calls)
unfolding step fed respond turn run_from run_calls toy last_is says calls sample Resumes
calls_resume =
    begins [] sample
    and begins (65 ∷ []) (drop 1 sample)
    and tt
    and tt
    and begins (120 ∷ 10 ∷ 66 ∷ 10 ∷ []) (drop 5 sample)
    and tt
    and tt
    and tt
    and begins (drop 3 sample) []
    and begins (drop 7 sample) []
    and tt
    and tt
    and tt
    and tt

largest_resumes : Resumes sample largest (run_calls toy line largest)
unfolding step fed respond turn run_from run_calls toy last_is says largest sample Resumes
largest_resumes = begins sample [] and tt and begins (drop 3 sample) [] and begins (drop 7 sample) [] and tt and tt

same_events : events (run_calls toy line calls) ≡ events (run_calls toy line largest)
unfolding step fed respond turn run_from run_calls toy last_is says calls largest sample standing placed answers_heard
same_events = cuttings_agree toy line sample calls largest calls_resume largest_resumes refl refl refl

-- The end, told in an unfinished stream.
run_short : events (run_calls toy line (call true (feed (66 ∷ 10 ∷ 104 ∷ [])) ∷ call true end ∷ [])) ≡ (3, last 11) ∷ []
unfolding step fed respond turn run_from run_calls toy last_is says placed
run_short = refl
