-- THE SHOW THAT WAS ASKED FOR, AND NO OTHER (request #105): a stream of which anything is asked or handed out begins with a good head that has
-- the asked URI, and the first question is about a message that names that URI. So a yes to it is a yes about that show. Assumes nothing.
use Rattle.std.specs.Prelude.{Bool, true, false, List, ◌∷◌, ◌++◌, ◌≡◌, ℕ, length}
use Rattle.octets.specs.Octets.{octets}
use Rattle.sections.specs.Reading.{Event, question, message, last, Log}
use Rattle.stream.specs.Buffers.{head_bytes}
use Rattle.stream.specs.Events.{Question, LastWord}
use Rattle.stream.specs.Head.{head_of, head_uri}
use Rattle.stream.specs.Stream.{plain_reading}
use Rattle.stream.specs.Terms.{Terms}
use Rattle.exactness.specs.Good.{GoodHead}
use Rattle.exactness.specs.MessageLines.{LineIn}
use Rattle.exactness.specs.Telling.{StreamEvent, head_asks, Stands}

-- The URI that a stream's head gives, trimmed as every value is; of a head that is not whole yet, by the lines that have come.
abbrev pub uri_of : List ℕ → List ℕ
uri_of S = head_uri (head_of (head_bytes S))

abbrev pub is_last : {Q E L : Type 0} → Event Q E L → Bool
is_last (question q) = false
is_last (message e) = false
is_last (last l) = true

-- the question about the stream's head
abbrev pub first_question : Terms → List ℕ → Question
first_question terms S = head_asks terms.ring (head_of (head_bytes S))

-- The stream S, whose events are `log`, whatever they hand out, begins with a good head, whose URI is the asked one in every byte. The first
-- event is the question about it, at its last byte, and in the message of that question stands the line of the asked URI.
pub record AsksFor {E : Type 0} (terms : Terms) (S : List ℕ) (log : Log Question E LastWord) : Type 0 where
  pub good : GoodHead terms (head_bytes S)
  pub same_uri : uri_of S ≡ terms.uri
  pub others : Log Question E LastWord
  pub asked : (length (head_bytes S), question (first_question terms S)) ∷ others ≡ log
  pub named : LineIn (octets "x-ouinet-uri: " ++ terms.uri) (first_question terms S).message

-- where any event is no last word
abbrev pub AskedForOnly : Type 0
AskedForOnly =
    (terms : Terms) (S : List ℕ) (answers : List Bool) (told : Bool) (at : ℕ) (e : StreamEvent)
    → Stands (at, e) (plain_reading terms S answers told) → is_last e ≡ false → AsksFor terms S (plain_reading terms S answers told)
