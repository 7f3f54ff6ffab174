-- Before request #101: a good trailer ended the show, and what head and trailer say of the end was not read. All else stands as it is now.
-- Assumes nothing.
use Rattle.std.specs.Prelude.{Bool, true, false, List, ℕ}
use Rattle.sections.specs.Reading.{Log, stop, Rules, reading}
use Rattle.stream.specs.Events.{Question, Release, LastWord, closed, refused}
use Rattle.stream.specs.Places.{trailer_place}
use Rattle.stream.specs.Stream.{Context, head, first_line, block_data, data_end, next_line, trailer, is_whole, Says, judge}
use Rattle.stream.specs.Terms.{Terms}
use Rattle.stream.specs.Trailer.{is_trailer}

-- "A good trailer gives *closed*"
unfoldable pub unchecked_trailer : ℕ → List ℕ → Says
unchecked_trailer total l = elim (is_trailer l) [ true ↦ stop (closed total) | false ↦ stop (refused 6 (trailer_place l)) ]

unfoldable pub judge_unchecked : Terms → Context → List ℕ → Says
judge_unchecked terms head l = judge terms head l
judge_unchecked terms (first_line s) l = judge terms (first_line s) l
judge_unchecked terms (block_data s p n) l = judge terms (block_data s p n) l
judge_unchecked terms (data_end s p b) l = judge terms (data_end s p b) l
judge_unchecked terms (next_line s p b) l = judge terms (next_line s p b) l
judge_unchecked terms (trailer s p total) l = unchecked_trailer total l

abbrev pub rules_unchecked : Terms → Rules Context Question Release LastWord
rules_unchecked terms = record { whole = is_whole; judge = judge_unchecked terms; denied = refused 10 0; unfinished = refused 11 0 }

unfoldable pub unchecked_reading : Terms → List ℕ → List Bool → Bool → Log Question Release LastWord
unchecked_reading terms stream answers told = reading (rules_unchecked terms) head stream answers told
