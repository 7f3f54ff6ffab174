-- A toy protocol, and the plain reading of a stream of it: the definitions compute, and say what is meant. Assumes nothing.
-- A line ends in 10, and has at most 4 bytes; its first byte decides. 65 asks, and a yes tells the rest of the line; 66
-- announces a body of 2 bytes, which is told unasked; 67 asks, and a yes is the last word 0; any other is the last word 3.
use mathlib.Core.Path.{◌≡◌, refl}
use mathlib.Core.Bool.{Bool, true, false, ◌||◌}
use mathlib.Core.List.{List, [], ◌∷◌}
use Prim.Native.Nat.{ℕ}
use lib.ListN.{length}
use lib.Dec.{eqb}
use Rattle.sections.specs.Reading.{question, message, last, Log, granted, final, Verdict, go, tell, ask, stop, Rules, cut, sections, reading_at, reading}

pub data Where : Type 0 where
  line body : Where

unfoldable pub last_is : ℕ → List ℕ → Bool
last_is x [] = false
last_is x (y ∷ []) = eqb x y
last_is x (y ∷ z ∷ l) = last_is x (z ∷ l)

abbrev pub is_whole : Where → List ℕ → Bool
is_whole line l = last_is 10 l || eqb (length l) 4
is_whole body l = eqb (length l) 2

unfoldable pub says : Where → List ℕ → Verdict Where ℕ (List ℕ) ℕ
says line [] = stop 3
says line (x ∷ l) =
    elim (eqb x 65) [
      | true ↦ ask x (granted l line)
      | false ↦ elim (eqb x 66) [ true ↦ go body | false ↦ elim (eqb x 67) [ true ↦ ask x (final 0) | false ↦ stop 3 ] ]
    ]
says body l = tell l line

unfoldable pub toy : Rules Where ℕ (List ℕ) ℕ
toy = record { whole = is_whole; judge = says; denied = 10; unfinished = 11 }

unfoldable pub sample : List ℕ
sample = 65 ∷ 120 ∷ 10 ∷ 66 ∷ 10 ∷ 104 ∷ 105 ∷ 67 ∷ 10 ∷ 7 ∷ []

-- the whole of it, with two yeses; the byte after the last word is not read
unfoldable pub told : Log ℕ (List ℕ) ℕ
told = (3, question 65) ∷ (3, message (120 ∷ 10 ∷ [])) ∷ (7, message (104 ∷ 105 ∷ [])) ∷ (9, question 67) ∷ (9, last 0) ∷ []

read_sample : reading toy line sample (true ∷ true ∷ []) true ≡ told
unfolding cut sections reading_at reading toy last_is says sample told
read_sample = refl

-- a no
read_no : reading toy line sample (false ∷ []) true ≡ (3, question 65) ∷ (3, last 10) ∷ []
unfolding cut sections reading_at reading toy last_is says sample
read_no = refl

-- no answer: the reading stops at its question, the end told or not
read_open : reading toy line sample [] true ≡ (3, question 65) ∷ []
unfolding cut sections reading_at reading toy last_is says sample
read_open = refl

-- the end, told in the middle of a body: its place is the number of all the bytes
read_short : reading toy line (66 ∷ 10 ∷ 104 ∷ []) [] true ≡ (3, last 11) ∷ []
unfolding cut sections reading_at reading toy last_is says
read_short = refl

-- a line without its end is whole at its limit
read_long : reading toy line (65 ∷ 1 ∷ 2 ∷ 3 ∷ 10 ∷ []) [] false ≡ (4, question 65) ∷ []
unfolding cut sections reading_at reading toy last_is says
read_long = refl
