-- WHAT *COMPLETE* MEANS (request #101: "Teachers ask whether they have the whole file"): the size and the SHA-256 of the bytes released are
-- those that the last yes was about. Assumes nothing.
use Rattle.std.specs.Prelude.{Bool, true, List, [], ◌∷◌, ◌++◌, ◌≡◌, ℕ, length}
use Rattle.octets.specs.Octets.{octets}
use Rattle.sections.specs.Reading.{question, message, last, Log}
use Rattle.sha256.specs.Sha256.{sha256}
use Rattle.stream.specs.Ends.{is_digest, digest_bytes, is_data_size}
use Rattle.stream.specs.Events.{Question, Release, LastWord, complete}
use Rattle.stream.specs.Numbers.{decimal_value}
use Rattle.exactness.specs.Telling.{released}

-- a yes for each question of a list of events
unfoldable pub yeses_in : Log Question Release LastWord → List Bool
yeses_in [] = []
yeses_in ((at, question q) ∷ log) = true ∷ yeses_in log
yeses_in ((at, message e) ∷ log) = yeses_in log
yeses_in ((at, last l) ∷ log) = yeses_in log

-- Of the events `log`, with the answers to their questions: *complete* stands at the place `at` with the total, and means this.
pub record MeansComplete (answers : List Bool) (log : Log Question Release LastWord) (at total : ℕ) : Type 0 where
  -- what `Digest` and `X-Ouinet-Data-Size` say
  pub digest : List ℕ
  pub data_size : List ℕ
  pub digest_text : is_digest digest ≡ true
  pub size_text : is_data_size data_size ≡ true
  -- it is true of the bytes released, which are as many as the total says
  pub total_released : length (released log) ≡ total
  pub same_size : decimal_value data_size ≡ length (released log)
  pub same_hash : digest_bytes digest ≡ sha256 (released log)
  -- the first question is the head's; the last is about the end, and after it comes *complete* and nothing else
  pub head_at : ℕ
  pub head_question : Question
  pub between : Log Question Release LastWord
  pub end_question : Question
  pub joined : (head_at, question head_question) ∷ (between ++ (at, question end_question) ∷ (at, last (complete total)) ∷ []) ≡ log
  -- to each of them the answer was yes
  pub others : List Bool
  pub granted : yeses_in log ++ others ≡ answers
  -- the last of them was about a message whose last two lines say so, and about the record of the head's key: "its key as Sig0's"
  pub first_lines : List ℕ
  pub last_lines : first_lines ++ (octets "\ndigest: " ++ (digest ++ (octets "\nx-ouinet-data-size: " ++ data_size))) ≡ end_question.message
  pub same_key : end_question.key_number ≡ head_question.key_number
