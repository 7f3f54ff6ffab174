-- What the reading tells (paper 01, "How a sitting goes"): what each event carries. Assumes nothing.
use Rattle.std.specs.Prelude.{Bool, ◌||◌, List, ℕ, eqb}
use Rattle.octets.specs.Choice.{pick}
use Rattle.stream.specs.Lines.{Field}

-- *question*: the message, the 64 bytes that are to be its signature, and the number of the key's record in the ring
pub record Question : Type 0 where
  pub message : List ℕ
  pub signature : List ℕ
  pub key_number : ℕ

-- *head accepted*, with the status; the signed fields are those whose values are handed out from then on.
-- *block*, with its offset; its bytes, whose number is its length, are what is handed out.
pub data Release : Type 0 where
  head_accepted : ℕ → List Field → Release
  block : ℕ → List ℕ → Release

-- *closed*, with the total, and *refused*, with its number and the place where the text went wrong (request #106). Request #101: "a new last
-- word, *complete*, with the total". All three are final.
pub data LastWord : Type 0 where
  closed : ℕ → LastWord
  complete : ℕ → LastWord
  refused : ℕ → ℕ → LastWord

-- "For 3 and 6 ..": other refusals have no place, which is written 0
abbrev pub has_place : ℕ → Bool
has_place n = eqb n 3 || eqb n 6

abbrev pub place_of : ℕ → ℕ → ℕ
place_of n place = pick (has_place n) place 0
