-- Where a reading comes to a good end (paper 01, "How a sitting goes": "*Closed* means the framing ended well"; request #101's *complete*): just
-- at the end of the stream of an honest show, or of an honest part of one (request #104), as crate exactness has it (Shows). Assumes nothing.
use Rattle.std.specs.Prelude.{Bool, true, List, ◌++◌, ◌≡◌, ℕ, length, replicate}
use Rattle.stream.specs.Terms.{Terms}
use Rattle.exactness.specs.Beginning.{Beginning, written, body}
use Rattle.exactness.specs.Shows.{Sending, body_of, stream_of, Honest, claims_end, yeses_of, beginning_of}

-- The show s is honest; what its sender writes down is the beginning w, part by part, and the trailer t; its blocks, joined, are the body.
pub record IsShowOf (terms : Terms) (w : Beginning) (t : List ℕ) (s : Sending) : Type 0 where
  pub honest : Honest terms s
  pub parts : beginning_of s ≡ w
  pub stream : stream_of s ≡ written w ++ t
  pub whole_body : body_of s.chunks ≡ body w

-- The stream S begins with the stream of an honest show, which claims an end or not; it ends at the place `at` and has a body of `total`
-- bytes; and the answers begin with a yes for its head, for each of its blocks, and one more where an end is claimed.
pub record ShowEndsAt (terms : Terms) (claimed : Bool) (S : List ℕ) (answers : List Bool) (at total : ℕ) : Type 0 where
  pub show : Sending
  pub honest : Honest terms show
  pub end : claims_end show ≡ claimed
  pub rest : List ℕ
  pub stream : stream_of show ++ rest ≡ S
  pub place : length (stream_of show) ≡ at
  pub body_length : length (body_of show.chunks) ≡ total
  pub others : List Bool
  pub granted : replicate (yeses_of show) true ++ others ≡ answers

-- All the bytes taken are the stream of an honest show, which claims an end or not, `at` of them, with a body of `total` bytes; and the
-- answers heard are just a yes for its head, for each of its blocks, and one more where an end is claimed.
pub record TakesShow (terms : Terms) (claimed : Bool) (taken : List ℕ) (answers : List Bool) (at total : ℕ) : Type 0 where
  pub show : Sending
  pub honest : Honest terms show
  pub end : claims_end show ≡ claimed
  pub stream : taken ≡ stream_of show
  pub place : length (stream_of show) ≡ at
  pub body_length : length (body_of show.chunks) ≡ total
  pub yeses : answers ≡ replicate (yeses_of show) true
