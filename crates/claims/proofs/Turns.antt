-- Which words a turn of the machine may have, from where and to where. Assumes nothing.
use mathlib.Core.Bool.{Bool, true, false}
use mathlib.Core.List.{List, [], ◌∷◌, ◌++◌}
use Prim.Native.Nat.{ℕ}
use native.Mathlib.Omega.{arith}
use Rattle.sections.specs.Reading.{question, message, last, Grant, granted, final, Verdict, go, tell, ask, stop}
use Rattle.sections.specs.Calls.{Request, feed, answer, end, Call, call, Reply, more, event, misused}
use Rattle.sections.specs.Machine.{State, running, asked, finished, Turn, Step, on, decides, ruling, follow, replied, gathered, step, fed, respond, turn}
use Rattle.sections.specs.Resuming.{request}
use Rattle.stream.specs.Events.{Question, Release, LastWord}
use Rattle.stream.specs.Stream.{Context, rules}
use Rattle.stream.specs.Terms.{Terms}
use Rattle.agreement.specs.Due.{Between}

abbrev At : Type 0
At = State Context Release LastWord

abbrev Gives : Type 0
Gives = Grant Context Release LastWord

pub data Moves : At → Request → Reply Question Release LastWord → At → Type 0 where
  refuses : {s : At} {r : Request} {n : ℕ} → Between 1 2 n → Moves s r (misused n) s
  reads : {c c' : Context} {g g' piece : List ℕ} → Moves (running c g) (feed piece) more (running c' g')
  asks : {c : Context} {g piece : List ℕ} {q : Question} {y : Gives} → Moves (running c g) (feed piece) (event (question q)) (asked y)
  tells : {c c' : Context} {g g' piece : List ℕ} {e : Release} → Moves (running c g) (feed piece) (event (message e)) (running c' g')
  stops : {c : Context} {g piece : List ℕ} {l : LastWord} → Moves (running c g) (feed piece) (event (last l)) finished
  ends : {c : Context} {g : List ℕ} {l : LastWord} → Moves (running c g) end (event (last l)) finished
  grants : {y : Gives} {a : Bool} {c : Context} {g : List ℕ} {e : Release} → Moves (asked y) (answer a) (event (message e)) (running c g)
  closes : {y : Gives} {a : Bool} {l : LastWord} → Moves (asked y) (answer a) (event (last l)) finished

abbrev MovesBy : At → Request → Turn Context Question Release LastWord → Type 0
MovesBy s r t = Moves s r t.0.0 t.1

one : Between 1 2 1
one = record { least = omega arith; most = omega arith }

two : Between 1 2 2
two = record { least = omega arith; most = omega arith }

module _ (terms : Terms) where
  -- a feed
  module _ (c : Context) (g piece : List ℕ) where
    abbrev StepMoves : Step Context Question Release LastWord → Type 0
    StepMoves (on c' g') = Unit {0}
    StepMoves (decides e s) = Moves (running c g) (feed piece) (event e) s

    ruling_moves : (v : Verdict Context Question Release LastWord) → StepMoves (ruling v)
    ruling_moves (go c') = tt
    ruling_moves (tell e c') = tells
    ruling_moves (ask q y) = asks
    ruling_moves (stop l) = stops

    gathered_moves : (t : Bool) (c' : Context) (g' : List ℕ) → StepMoves (gathered (rules terms) t c' g')
    gathered_moves true c' g' = ruling_moves ((rules terms).judge c' g')
    gathered_moves false c' g' = tt

    follow_moves : (x : Step Context Question Release LastWord) (rest : Context → List ℕ → Turn Context Question Release LastWord) → StepMoves x
        → ((c' : Context) (g' : List ℕ) → MovesBy (running c g) (feed piece) (rest c' g')) → MovesBy (running c g) (feed piece) (follow x rest)
    follow_moves (on c' g') rest m h = h c' g'
    follow_moves (decides e s) rest m h = m

    fed_moves : (bs : List ℕ) (c' : Context) (g' : List ℕ) → MovesBy (running c g) (feed piece) (fed (rules terms) c' g' bs)
    unfolding fed step
    fed_moves [] c' g' = reads
    fed_moves (b ∷ bs) c' g' =
        follow_moves (step (rules terms) c' g' b) (λ c'' g''. fed (rules terms) c'' g'' bs)
        (gathered_moves ((rules terms).whole c' (g' ++ b ∷ [])) c' (g' ++ b ∷ [])) (λ c'' g''. fed_moves bs c'' g'')

  replied_moves : (y z : Gives) (a : Bool) → MovesBy (asked z) (answer a) (replied y)
  replied_moves (granted e c) z a = grants
  replied_moves (final l) z a = closes

  respond_moves : (s : At) (r : Request) → MovesBy s r (respond (rules terms) s r)
  unfolding respond
  respond_moves (running c g) (feed piece) = fed_moves c g piece piece c g
  respond_moves (running c g) (answer a) = refuses one
  respond_moves (running c g) end = ends
  respond_moves (asked y) (feed piece) = refuses one
  respond_moves (asked y) (answer true) = replied_moves y y true
  respond_moves (asked y) (answer false) = closes
  respond_moves (asked y) end = refuses one
  respond_moves finished r = refuses one

  pub turn_moves : (s : At) (k : Call) → MovesBy s (request k) (turn (rules terms) s k)
  unfolding turn
  turn_moves s (call false r) = refuses two
  turn_moves s (call true r) = respond_moves s r
