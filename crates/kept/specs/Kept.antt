-- What a request leaves as it was, and what it puts in the place of the rest. Assumes nothing.
use Rattle.std.specs.Prelude.{Bool, true, false, List, [], ◌∷◌, ◌++◌, ◌≡◌, ℕ, ◌-◌, ◌≤◌, ◌<◌, eqb, length, take}
use Rattle.sections.specs.Reading.{question, message, last, Log}
use Rattle.sections.specs.Resuming.{Begins}
use Rattle.stream.specs.Events.{Question, Release, LastWord, closed, complete, refused}
use Rattle.stream.specs.Limits.{head_limit, field_limit}
use Rattle.stream.specs.Stream.{plain_reading}
use Rattle.stream.specs.Terms.{Terms}
use Rattle.exactness.specs.AskedFor.{uri_of}
use Rattle.exactness.specs.Beginning.{Beginning, written, head_in, announces}
use Rattle.exactness.specs.Good.{Good, GoodTrailer, claims}
use Rattle.exactness.specs.Telling.{StreamEvent, Stands}
use Rattle.kept.specs.Older.{older_reading}
use Rattle.kept.specs.OtherLimits.{SectionLimits, these_limits, reading_under}
use Rattle.kept.specs.Unasked.{unasked_reading}
use Rattle.kept.specs.Unchecked.{unchecked_reading}
use Rattle.kept.specs.WholeOnly.{whole_only_reading}

-- the reading does not end in that refusal, at whatever place
abbrev pub NeverRefused : ℕ → Log Question Release LastWord → Type 0
NeverRefused n log = (place at : ℕ) → Stands (place, last (refused n at)) log → ⊥

-- nor in that refusal with that place, where the text went wrong
abbrev pub NeverRefusedAt : ℕ → ℕ → Log Question Release LastWord → Type 0
NeverRefusedAt n at log = (place : ℕ) → Stands (place, last (refused n at)) log → ⊥

-- Request #102: what the older rules do not refuse with 3, a good stream above all, gives the same events as before.
abbrev pub SameEvents : Type 0
SameEvents =
    (terms : Terms) (stream : List ℕ) (answers : List Bool) (told : Bool) → NeverRefused 3 (older_reading terms stream answers told)
    → plain_reading terms stream answers told ≡ older_reading terms stream answers told

-- ---- request #105

-- Where the URI of the stream's head is the one that was asked for, it gives the same events as before, whatever the ring and the answers.
abbrev pub SameWhereAsked : Type 0
SameWhereAsked =
    (terms : Terms) (stream : List ℕ) (answers : List Bool) (told : Bool) → uri_of stream ≡ terms.uri
    → plain_reading terms stream answers told ≡ unasked_reading terms.ring stream answers told

-- told of a head whose text is good: its question, or refusal 12
abbrev pub is_of_good_text : StreamEvent → Bool
is_of_good_text (question q) = true
is_of_good_text (message e) = false
is_of_good_text (last (closed total)) = false
is_of_good_text (last (complete total)) = false
is_of_good_text (last (refused n place)) = eqb n 12

-- by the first event: a head of good text is refused with 16 instead, at the same byte, and nothing follows; any other reading stays
unfoldable pub as_another_show : Log Question Release LastWord → Log Question Release LastWord
as_another_show [] = []
as_another_show ((at, e) ∷ log) = elim (is_of_good_text e) [ true ↦ (at, last (refused 16 0)) ∷ [] | false ↦ (at, e) ∷ log ]

-- Where the URI is another, a head that was refused with 3, 4 or 5, or did not come to its end, is told of as before; any other is refused
-- with 16, whether it was asked about or refused with 12.
abbrev pub RefusedWhereNot : Type 0
RefusedWhereNot =
    (terms : Terms) (stream : List ℕ) (answers : List Bool) (told : Bool) → (uri_of stream ≡ terms.uri → ⊥)
    → plain_reading terms stream answers told ≡ as_another_show (unasked_reading terms.ring stream answers told)

-- ---- request #108

-- The reading under the limits of now is the plain reading.
abbrev pub UnderThese : Type 0
UnderThese = (terms : Terms) (stream : List ℕ) (answers : List Bool) (told : Bool) → reading_under these_limits terms stream answers told ≡ plain_reading terms stream answers told

-- Whatever limits there are, if they are no higher. What they do not refuse with 3, nor with 6 at the place that is a trailer's limit, gives the
-- same events: a good stream above all.
abbrev pub SameUnder : Type 0
SameUnder =
    (limits : SectionLimits) → 0 < limits.bytes → limits.bytes ≤ head_limit → limits.fields ≤ field_limit
    → (terms : Terms) (stream : List ℕ) (answers : List Bool) (told : Bool)
    → NeverRefused 3 (reading_under limits terms stream answers told) → NeverRefusedAt 6 limits.bytes (reading_under limits terms stream answers told)
    → plain_reading terms stream answers told ≡ reading_under limits terms stream answers told

-- And of any stream, all events that they gave but the last one are the first events of now: where they refused, more may be read.
abbrev pub NoneLost : Type 0
NoneLost =
    (limits : SectionLimits) → 0 < limits.bytes → limits.bytes ≤ head_limit → limits.fields ≤ field_limit
    → (terms : Terms) (stream : List ℕ) (answers : List Bool) (told : Bool)
    → Begins (take (length (reading_under limits terms stream answers told) - 1) (reading_under limits terms stream answers told))
    (plain_reading terms stream answers told)

-- ---- request #101

-- the reading does not end in *closed*
abbrev pub NeverClosed : Log Question Release LastWord → Type 0
NeverClosed log = (place total : ℕ) → Stands (place, last (closed total)) log → ⊥

-- What did not close before, a stream that breaks off or is refused above all, gives the same events: the end of a show is checked only where
-- the framing ended well.
abbrev pub SameUnclosed : Type 0
SameUnclosed =
    (terms : Terms) (stream : List ℕ) (answers : List Bool) (told : Bool) → NeverClosed (unchecked_reading terms stream answers told)
    → plain_reading terms stream answers told ≡ unchecked_reading terms stream answers told

-- "none of the three, *closed* as today": a good beginning and a good trailer, with none of the three fields in head and trailer, give the same
-- events, whatever comes after them and whatever the answers are; and so do those of a part answer, whose end is not checked (request #104).
abbrev pub SameUnclaimed : Type 0
SameUnclaimed =
    (terms : Terms) (w : Beginning) (t rest : List ℕ) → Good terms w → announces w ≡ 0 → GoodTrailer t → claims (head_in w) t ≡ false
    → (answers : List Bool) (told : Bool)
    → plain_reading terms (written w ++ (t ++ rest)) answers told ≡ unchecked_reading terms (written w ++ (t ++ rest)) answers told

-- And of any stream, all events of before but the last one are the first events of now: nothing that was released is lost.
abbrev pub NoneLostUnchecked : Type 0
NoneLostUnchecked =
    (terms : Terms) (stream : List ℕ) (answers : List Bool) (told : Bool)
    → Begins (take (length (unchecked_reading terms stream answers told) - 1) (unchecked_reading terms stream answers told))
    (plain_reading terms stream answers told)

-- ---- request #104

-- What was refused neither with 4 nor with 6, a good stream above all, gives the same events: "In other answers both are plain fields", and no line
-- that was good has an `ouihash`.
abbrev pub SameWhole : Type 0
SameWhole =
    (terms : Terms) (stream : List ℕ) (answers : List Bool) (told : Bool) → NeverRefused 4 (whole_only_reading terms stream answers told)
    → NeverRefused 6 (whole_only_reading terms stream answers told)
    → plain_reading terms stream answers told ≡ whole_only_reading terms stream answers told

-- And of any stream, all events of before but the last one are the first events of now: a part answer was refused with 4 before its first event, a
-- line with `ouihash` with 6, and nothing that was released is lost.
abbrev pub NoneLostWhole : Type 0
NoneLostWhole =
    (terms : Terms) (stream : List ℕ) (answers : List Bool) (told : Bool)
    → Begins (take (length (whole_only_reading terms stream answers told) - 1) (whole_only_reading terms stream answers told))
    (plain_reading terms stream answers told)
