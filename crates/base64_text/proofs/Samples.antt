-- Texts of 32 and 64 bytes, and where they stop being that: each row is a number of bytes, a text, whether it is good, and how many of its first
-- characters a good text also has. One computed test covers the table. The dues were written from the change request's words. Assumes nothing.
use mathlib.Core.Bool.{Bool, true, false, ◌&&◌, not}
use mathlib.Core.List.{List, [], ◌∷◌, ◌++◌}
use mathlib.Core.Path.{◌≡◌, refl}
use Prim.Native.Nat.{ℕ, suc}
use lib.Dec.{eqb}
use lib.ListN.{length, set, take}
use Rattle.octets.specs.Octets.{octets}
use Rattle.base64_text.specs.Base64.{letter_value, is_base64, holds_one, holds_two, holds_three}
use Rattle.base64_text.specs.Places.{groups, stands_as, may_stand, standing_from, viable_length}

record Row : Type 0 where
  bytes : ℕ
  text : List ℕ
  good : Bool
  at : ℕ

abbrev good : ℕ → List ℕ → Row
good n t = record { bytes = n; text = t; good = true; at = length t }

abbrev bad : ℕ → List ℕ → ℕ → Row
bad n t at = record { bytes = n; text = t; good = false; at = at }

-- 44 and 88 characters; and with another character at a place, counted from 0
abbrev key : List ℕ
key = octets "yMnKy8zNzs/Q0dLT1NXW19jZ2tvc3d7f4OHi4+Tl5uc="

abbrev signature : List ℕ
signature = octets "AwoRGB8mLTQ7QklQV15lbHN6gYiPlp2kq7K5wMfO1dzj6vH4/wYNFBsiKTA3PkVMU1phaG92fYSLkpmgp661vA=="

abbrev changed : List ℕ → ℕ → List ℕ → List ℕ
changed t i [] = t
changed t i (c ∷ cs) = changed (set t i c) (suc i) cs

abbrev rows : List Row
rows =
    good 32 key
    ∷ good 64 signature
    -- the 86th character of 88 is one of four letters, and the 43rd of 44 one of 16
    ∷ good 64 (changed signature 85 (octets "Q"))
    ∷ good 64 (changed signature 85 (octets "g"))
    ∷ good 64 (changed signature 85 (octets "w"))
    ∷ bad 64 (changed signature 85 (octets "B")) 85
    ∷ bad 32 (changed key 42 (octets "d")) 42
    -- a letter in place of padding
    ∷ bad 64 (changed signature 86 (octets "A")) 86
    ∷ bad 64 (changed signature 87 (octets "A")) 87
    ∷ bad 32 (changed key 43 (octets "A")) 43
    -- a padded group in the middle, of two bytes and of one
    ∷ bad 64 (changed signature 43 (octets "=")) 43
    ∷ bad 64 (changed signature 42 (octets "==")) 42
    ∷ bad 32 (octets "Zm8=" ++ key) 3
    -- a byte that is no letter, at each place of a group
    ∷ bad 32 (changed key 0 (octets "-")) 0
    ∷ bad 32 (changed key 5 (octets "_")) 5
    ∷ bad 32 (changed key 10 (0 ∷ [])) 10
    ∷ bad 32 (changed key 15 (255 ∷ [])) 15
    -- too few characters, and too many
    ∷ bad 64 (take 87 signature) 87
    ∷ bad 64 (take 86 signature) 86
    ∷ bad 64 key 43
    ∷ bad 32 [] 0
    ∷ bad 32 (key ++ octets "A") 44
    ∷ bad 64 (signature ++ octets "=") 88
    ∷ bad 32 signature 42
    ∷ []

abbrev alike : Bool → Bool → Bool
alike true b = b
alike false b = not b

-- the numbers of the rows that do not hold
abbrev broken : ℕ → List Row → List ℕ
broken i [] = []
broken i (r ∷ rs) =
    elim (alike (is_base64 r.bytes r.text) r.good && eqb (viable_length r.bytes r.text) r.at) [ true ↦ broken (suc i) rs | false ↦ i ∷ broken (suc i) rs ]

pub places : broken 0 rows ≡ []
unfolding is_base64 letter_value holds_one holds_two holds_three stands_as may_stand standing_from
places = refl

-- 32 bytes are eleven groups, and 64 are 22: so many turns of the loop
pub eleven : groups 32 ≡ 11
eleven = refl

pub twenty_two : groups 64 ≡ 22
twenty_two = refl
