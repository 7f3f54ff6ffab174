-- The two events by which something is handed out, spelled out: what a stream and its answers must be like for a head to be
-- accepted, or a block to be released, at a place. Assumes nothing.
use Rattle.std.specs.Prelude.{Bool, true, List, ◌∷◌, ◌++◌, ◌≡◌, ℕ, length, replicate}
use Rattle.stream.specs.Events.{head_accepted}
use Rattle.stream.specs.Head.{head_of}
use Rattle.stream.specs.Lines.{Field}
use Rattle.stream.specs.Terms.{Terms}
use Rattle.exactness.specs.Beginning.{Beginning, onward, written, offset, questions}
use Rattle.exactness.specs.Good.{GoodHead, Good}
use Rattle.exactness.specs.Telling.{head_tells}

-- The stream begins with a good head of that status and those signed fields, which ends at the place; the first answer is yes.
pub record AcceptsHead (terms : Terms) (S : List ℕ) (answers : List Bool) (at status : ℕ) (fields : List Field) : Type 0 where
  pub head : List ℕ
  pub good : GoodHead terms head
  pub says : head_tells (head_of head) ≡ head_accepted status fields
  pub rest : List ℕ
  pub stream : head ++ rest ≡ S
  pub place : length head ≡ at
  pub others : List Bool
  pub granted : true ∷ others ≡ answers

-- The stream begins with a good beginning whose last block is b, at that offset of the body, and whose last line, the one with
-- the signature of b, ends at the place; and the answers, up to and with the one to the question about b, are all yes.
pub record ReleasesBlock (terms : Terms) (S : List ℕ) (answers : List Bool) (at o : ℕ) (b : List ℕ) : Type 0 where
  pub before : Beginning
  pub line : List ℕ
  pub good : Good terms (onward before b line)
  pub where_in_body : offset before ≡ o
  pub rest : List ℕ
  pub stream : written (onward before b line) ++ rest ≡ S
  pub place : length (written (onward before b line)) ≡ at
  pub others : List Bool
  pub granted : replicate (questions (onward before b line)) true ++ others ≡ answers
