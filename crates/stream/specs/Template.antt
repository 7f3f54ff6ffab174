-- Text read by a template: fixed text, runs of bytes of a class, and gaps, one after the other, to the text's end.
-- Each run is as long as it can be. Assumes nothing.
use Rattle.std.specs.Prelude.{Bool, true, false, List, [], ◌∷◌, ℕ, zero, suc, length, drop, take}
use Rattle.stream.specs.Bytes.{same, is_blank}

-- the longest beginning whose bytes are all of the class, and what comes after it
unfoldable pub run : (ℕ → Bool) → List ℕ → List ℕ
run p [] = []
run p (b ∷ l) = elim (p b) [ true ↦ b ∷ run p l | false ↦ [] ]

unfoldable pub past : (ℕ → Bool) → List ℕ → List ℕ
past p [] = []
past p (b ∷ l) = elim (p b) [ true ↦ past p l | false ↦ b ∷ l ]

unfoldable pub starts_with : List ℕ → List ℕ → Bool
starts_with t l = same t (take (length t) l)

pub data Part : Type 0 where
  -- just this text
  text : List ℕ → Part
  -- a run of bytes of the class, which is kept
  bytes : (ℕ → Bool) → Part
  -- spaces and tabs, or nothing
  gap : Part

-- what a template makes of a text: the runs that were kept, in order, or that the text is not of its form
pub data Scanned : Type 0 where
  parts : List (List ℕ) → Scanned
  unlike : Scanned

abbrev pub keep : List ℕ → Scanned → Scanned
keep l (parts ls) = parts (l ∷ ls)
keep l unlike = unlike

unfoldable pub scan : List Part → List ℕ → Scanned
scan [] [] = parts []
scan [] (b ∷ l) = unlike
scan (text t ∷ ps) l = elim (starts_with t l) [ true ↦ scan ps (drop (length t) l) | false ↦ unlike ]
scan (bytes p ∷ ps) l = keep (run p l) (scan ps (past p l))
scan (gap ∷ ps) l = scan ps (past is_blank l)

-- the text is of the template's form
abbrev pub is_like : Scanned → Bool
is_like (parts ls) = true
is_like unlike = false

-- part k of a list, or nothing
abbrev pub nth : ℕ → List (List ℕ) → List ℕ
nth k [] = []
nth zero (l ∷ ls) = l
nth (suc k) (l ∷ ls) = nth k ls

-- run k, counted from 0, or nothing
abbrev pub kept : ℕ → Scanned → List ℕ
kept k (parts ls) = nth k ls
kept k unlike = []
