-- The reading under other limits of what request #108 moved: the bytes of a head and of a trailer, and the fields of a head. All else stands as it
-- is now. Assumes nothing.
use Rattle.std.specs.Prelude.{Bool, ◌||◌, List, ◌∷◌, ◌++◌, ℕ, leb, length, take, drop}
use Rattle.sections.specs.Reading.{Log, Rules, reading}
use Rattle.stream.specs.Events.{Question, Release, LastWord, refused}
use Rattle.stream.specs.Head.{Head, ends_head, head_of, text_rules, caller_rules}
use Rattle.stream.specs.Limits.{head_limit, field_limit}
use Rattle.stream.specs.Places.{head_place}
use Rattle.stream.specs.Rule.{Rule, rule, first_broken}
use Rattle.stream.specs.Stream.{Context, head, first_line, block_data, data_end, next_line, trailer, is_whole, Says, unless_broken, accept_head}
use Rattle.stream.specs.Terms.{Terms}
use Rattle.stream.specs.Trailer.{ends_trailer}
use Rattle.kept.specs.OtherHeads.{judge_with}

-- the most bytes of a head and of a trailer, and the most fields of a head
pub record SectionLimits : Type 0 where
  pub bytes : ℕ
  pub fields : ℕ

-- paper 01, before the request: "refused with 3 when 8,192 bytes have come without it", "No end in 8,192 bytes", "at most 64 fields"
abbrev pub paper_limits : SectionLimits
paper_limits = record { bytes = 8_192; fields = 64 }

-- as the definitions have them
abbrev pub these_limits : SectionLimits
these_limits = record { bytes = head_limit; fields = field_limit }

unfoldable pub is_whole_under : SectionLimits → Context → List ℕ → Bool
is_whole_under limits head l = ends_head l || leb limits.bytes (length l)
is_whole_under limits (first_line s) l = is_whole (first_line s) l
is_whole_under limits (block_data s p n) l = is_whole (block_data s p n) l
is_whole_under limits (data_end s p b) l = is_whole (data_end s p b) l
is_whole_under limits (next_line s p b) l = is_whole (next_line s p b) l
is_whole_under limits (trailer s p total) l = ends_trailer l || leb limits.bytes (length l)

-- the fourth rule is about the number of fields
unfoldable pub text_rules_under : SectionLimits → List ℕ → Head → List Rule
text_rules_under limits l h = take 3 (text_rules l h) ++ (rule 3 (leb (length h.fields) limits.fields) ∷ drop 4 (text_rules l h))

unfoldable pub fault_under : SectionLimits → Terms → List ℕ → ℕ
fault_under limits terms l = first_broken (text_rules_under limits l (head_of l) ++ caller_rules terms (head_of l))

unfoldable pub judge_head_under : SectionLimits → Terms → List ℕ → Says
judge_head_under limits terms l = unless_broken (fault_under limits terms l) (head_place l) (accept_head terms.ring (head_of l))

abbrev pub rules_under : SectionLimits → Terms → Rules Context Question Release LastWord
rules_under limits terms =
    record {
      whole = is_whole_under limits;
      judge = judge_with (judge_head_under limits terms);
      denied = refused 10 0;
      unfinished = refused 11 0;
    }

-- under these limits it is the plain reading: `under_these`, proved in Limits
unfoldable pub reading_under : SectionLimits → Terms → List ℕ → List Bool → Bool → Log Question Release LastWord
reading_under limits terms stream answers told = reading (rules_under limits terms) head stream answers told
