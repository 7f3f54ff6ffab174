-- The reading with another judge of heads, and all else as it is now: what a request changed in the head is said with it, and what that
-- request leaves as it was. Assumes nothing.
use Rattle.std.specs.Prelude.{Bool, List, ℕ}
use Rattle.sections.specs.Reading.{Log, go, Rules, reading}
use Rattle.stream.specs.Events.{Question, Release, LastWord, refused}
use Rattle.stream.specs.Stream.{Context, head, first_line, block_data, data_end, next_line, trailer, is_whole, Says, judge_first_line, judge_data_end, judge_next_line, judge_trailer}

-- `judge_head` says what a whole head says
unfoldable pub judge_with : (List ℕ → Says) → Context → List ℕ → Says
judge_with judge_head head l = judge_head l
judge_with judge_head (first_line s) l = judge_first_line s l
judge_with judge_head (block_data s p n) l = go (data_end s p l)
judge_with judge_head (data_end s p b) l = judge_data_end s p b l
judge_with judge_head (next_line s p b) l = judge_next_line s p b l
judge_with judge_head (trailer s p total) l = judge_trailer s p total l

abbrev pub rules_with : (List ℕ → Says) → Rules Context Question Release LastWord
rules_with judge_head = record { whole = is_whole; judge = judge_with judge_head; denied = refused 10 0; unfinished = refused 11 0 }

-- with the judge of now it is the plain reading: `with_this_judge`, proved in Later
unfoldable pub reading_with : (List ℕ → Says) → List ℕ → List Bool → Bool → Log Question Release LastWord
reading_with judge_head stream answers told = reading (rules_with judge_head) head stream answers told
