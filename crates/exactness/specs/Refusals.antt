-- Which beginnings of a stream break a rule, and with which number they are refused; and which streams are unfinished
-- (paper 01, "When the reader says no"; request #101 for the end). Written from the paper, over good beginnings alone. Assumes nothing.
use Rattle.std.specs.Prelude.{Bool, true, false, List, ◌++◌, ◌≡◌, ℕ, suc, ◌+◌, ◌≤◌, ◌<◌, eqb, length, take}
use Rattle.sha256.specs.Sha256.{sha256}
use Rattle.octets.specs.Viable.{LongestViable}
use Rattle.stream.specs.Blocks.{is_chunk_line, line_rules}
use Rattle.stream.specs.Ends.{all_fields, end_rules}
use Rattle.stream.specs.GoodText.{is_good_head, is_good_data_end, is_good_trailer}
use Rattle.stream.specs.Head.{ends_head, head_of, range_of, block_size, text_rules, caller_rules}
use Rattle.stream.specs.Limits.{head_limit, line_limit}
use Rattle.stream.specs.Lines.{crlf, ends_with}
use Rattle.stream.specs.Range.{first_byte}
use Rattle.stream.specs.Rule.{first_broken}
use Rattle.stream.specs.Terms.{Terms}
use Rattle.stream.specs.Trailer.{ends_trailer, is_trailer}
use Rattle.exactness.specs.Beginning.{Beginning, onward, written, head_in, size, range, start, announces, body, questions}
use Rattle.exactness.specs.Good.{EndsFirst, GoodHead, Announced, Good, GoodTrailer, claims}
use Rattle.exactness.specs.WentWrong.{WentWrong}

-- "judged at its CR LF, or refused with 6 when 128 bytes have come without it": l ends within the limit, and not before; or it
-- has come to the limit, and no beginning of it has the end
pub data Whole (ends : List ℕ → Bool) (limit : ℕ) (l : List ℕ) : Type 0 where
  ended : EndsFirst ends l → length l ≤ limit → Whole ends limit l
  endless : length l ≡ limit → ((n : ℕ) → n ≤ length l → ends (take n l) ≡ false) → Whole ends limit l

-- neither has come yet
pub record Unended (ends : List ℕ → Bool) (limit : ℕ) (l : List ℕ) : Type 0 where
  pub under : length l < limit
  pub none : (n : ℕ) → n ≤ length l → ends (take n l) ≡ false

-- `Refuses terms front yeses n place`: the last byte of `front` breaks a rule, with the refusal n, where all before it is good and
-- `yeses` questions were answered with yes. Of several broken rules the first gives the number, in the order of the paper and its requests;
-- the place is counted from the first byte of the head, line, data end or trailer.
pub data Refuses (terms : Terms) : List ℕ → ℕ → ℕ → ℕ → Type 0 where
  -- 3, 4, 5, 16 and 12
  head_refused : {h : List ℕ} {n place : ℕ} → Whole ends_head head_limit h
      → first_broken (text_rules h (head_of h) ++ caller_rules terms (head_of h)) ≡ suc n
      → WentWrong ends_head is_good_head h (suc n) place → Refuses terms h 0 (suc n) place
  -- 6, 8, 7 and 9: on the first line no signature is due, and the answer's bytes begin there
  first_line_refused : {h l : List ℕ} {n place : ℕ} → GoodHead terms h → Whole (ends_with crlf) line_limit l
      → first_broken (line_rules (block_size (head_of h)) (range_of (head_of h)) false true (first_byte (range_of (head_of h))) l) ≡ suc n
      → WentWrong (ends_with crlf) is_chunk_line l (suc n) place → Refuses terms (h ++ l) 1 (suc n) place
  next_line_refused : {w : Beginning} {b l : List ℕ} {n place : ℕ} → Good terms w → Announced w b → Whole (ends_with crlf) line_limit l
      → first_broken (line_rules (size w) (range w) true (eqb (length b) (size w)) (start w + length (body w ++ b)) l) ≡ suc n
      → WentWrong (ends_with crlf) is_chunk_line l (suc n) place → Refuses terms (written (onward w b l)) (questions w) (suc n) place
  -- "data end .. wrong": two bytes that are not CR LF
  data_end_refused : {w : Beginning} {b e : List ℕ} {place : ℕ} → Good terms w → Announced w b → length e ≡ 2 → (e ≡ crlf → ⊥)
      → LongestViable is_good_data_end e place → Refuses terms (written w ++ b ++ e) (questions w) 6 place
  -- "trailer text wrong or too long"
  trailer_refused : {w : Beginning} {t : List ℕ} {place : ℕ} → Good terms w → announces w ≡ 0 → Whole ends_trailer head_limit t → is_trailer t ≡ false
      → WentWrong ends_trailer is_good_trailer t 6 place → Refuses terms (written w ++ t) (questions w) 6 place
  -- 13, 14, 15 and 12, "At the trailer's end, in this order", where an end is claimed; they have no place
  end_refused : {w : Beginning} {t : List ℕ} {n : ℕ} → Good terms w → announces w ≡ 0 → GoodTrailer t → claims (head_in w) t ≡ true
      → first_broken (end_rules (head_in w) (all_fields (head_in w) t) (length (body w)) (sha256 (body w))) ≡ suc n
      → Refuses terms (written w ++ t) (questions w) (suc n) 0

-- `Unfinished terms S yeses`: the stream S breaks off, after so many yeses, within one of its parts or between two of them.
pub data Unfinished (terms : Terms) : List ℕ → ℕ → Type 0 where
  in_head : {h : List ℕ} → Unended ends_head head_limit h → Unfinished terms h 0
  in_first_line : {h l : List ℕ} → GoodHead terms h → Unended (ends_with crlf) line_limit l → Unfinished terms (h ++ l) 1
  in_block : {w : Beginning} (b : List ℕ) → Good terms w → length b < announces w → Unfinished terms (written w ++ b) (questions w)
  in_data_end : {w : Beginning} {b : List ℕ} (e : List ℕ) → Good terms w → Announced w b → length e < 2 → Unfinished terms (written w ++ b ++ e) (questions w)
  in_next_line : {w : Beginning} {b l : List ℕ} → Good terms w → Announced w b → Unended (ends_with crlf) line_limit l
      → Unfinished terms (written (onward w b l)) (questions w)
  in_trailer : {w : Beginning} {t : List ℕ} → Good terms w → announces w ≡ 0 → Unended ends_trailer head_limit t
      → Unfinished terms (written w ++ t) (questions w)
