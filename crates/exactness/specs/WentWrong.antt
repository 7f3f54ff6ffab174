-- Where a text went wrong (request #106), in the request's words alone: by which texts are good, and not by how one is read. Assumes nothing.
use Rattle.std.specs.Prelude.{Bool, true, false, List, ◌≡◌, ℕ, length}
use Rattle.octets.specs.Viable.{LongestViable}
use Rattle.stream.specs.Events.{has_place}

-- `WentWrong ends good l n place`: the place that goes with the refusal n of the section l, which has its end where `ends` holds
pub data WentWrong (ends good : List ℕ → Bool) (l : List ℕ) : ℕ → ℕ → Type 0 where
  -- "For 3 and 6 that come from bad text .. the length of the longest beginning that some good text .. also has"
  bad_text : {n place : ℕ} → has_place n ≡ true → ends l ≡ true → good l ≡ false → LongestViable good l place → WentWrong ends good l n place
  -- "For the other causes (whole length, count, doubling) it is the length taken": there is no end, or the text is good
  other_cause : {n : ℕ} → has_place n ≡ true → (ends l ≡ true → good l ≡ true) → WentWrong ends good l n (length l)
  -- any other refusal
  no_place : {n : ℕ} → has_place n ≡ false → WentWrong ends good l n 0
