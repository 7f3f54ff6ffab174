-- WITHIN, the statements: what the exported calls (crate reader_export) keep to for every bytes that they are lent. Nothing is asked
-- of the state: it may be forged. The bytes that a hold has at least are named in stream's Limits. Assumes nothing.
use Rattle.std.specs.Prelude.{List, ◌≡◌, ℕ, ◌≤◌, length, take, drop}
use Rattle.sections.specs.Calls.{Request, feed, answer, end}
use Rattle.stream.specs.Limits.{head_limit, block_limit, field_limit}
use Rattle.packing.specs.Parts.{number_at}
use Rattle.results.specs.Written.{Answer, made}
use Rattle.reader_export.specs.Export.{short, block_in, value_in, count_in}
use Rattle.reader_export.specs.Loan.{Loan, loan, exported}

-- a length that is told is at most the size that is named for the buffer, and at most the buffer's length
pub record Within (limit : ℕ) (buffer : List ℕ) (n : ℕ) : Type 0 where
  pub named : n ≤ limit
  pub lent : n ≤ length buffer

-- ---- the three calls

-- how many bytes a call may take
abbrev pub at_most : Request → ℕ
at_most (feed piece) = length piece
at_most (answer good) = 0
at_most end = 0

-- Of the answer to a call that was lent l and asked for r. As they stand in the result's bytes, which every answer but 255 has written: the
-- count taken, the length of a question (the word 1) and of a block (the word 3). And the bytes beyond the named sizes are after it as
-- before.
pub record StaysWithin (l : Loan) (r : Request) (a : Answer) : Type 0 where
  pub taken : (a.word ≡ short → ⊥) → number_at a.result 8 ≤ at_most r
  pub question : a.word ≡ 1 → Within head_limit l.question (number_at a.result 16)
  pub block : a.word ≡ 3 → Within block_limit l.block (number_at a.result 24)
  pub head_beyond : drop head_limit a.head ≡ drop head_limit l.head
  pub block_beyond : drop block_limit a.block ≡ drop block_limit l.block
  pub question_beyond : drop head_limit a.question ≡ drop head_limit l.question

-- with just the first parts of the three working buffers
abbrev pub first_lent : Loan → Loan
first_lent l =
    loan l.state (take head_limit l.head) (take block_limit l.block) (take head_limit l.question) l.ring l.uri l.result

abbrev pub first_left : Answer → Answer
first_left a =
    made a.word a.state (take head_limit a.head) (take block_limit a.block) (take head_limit a.question) a.result

-- of every call: what it keeps to; and bytes beyond are not read: a loan with the same first parts gives the same number, state, result
-- and first parts
pub record CallWithin (l : Loan) (r : Request) : Type 0 where
  pub stays : StaysWithin l r (exported l r)
  pub unread : (m : Loan) → first_lent l ≡ first_lent m → first_left (exported l r) ≡ first_left (exported m r)

-- ---- the two parts that are handed out, and the count

-- of `ouinet_reader_block`, which tells the length of `block_in`, of `ouinet_reader_value`, which gives `value_in`, and of
-- `ouinet_reader_value_count`, which gives `count_in`
pub record PartsWithin (s h b : List ℕ) : Type 0 where
  pub block : Within block_limit b (length (block_in s b))
  pub value : (name v : List ℕ) → Within head_limit h (value_in s h name v).count
  pub count : (name : List ℕ) → count_in s h name ≤ field_limit
  pub block_unread : (b' : List ℕ) → take block_limit b ≡ take block_limit b' → block_in s b ≡ block_in s b'
  pub value_unread : (h' name v : List ℕ) → take head_limit h ≡ take head_limit h' → value_in s h name v ≡ value_in s h' name v
  pub count_unread : (h' name : List ℕ) → take head_limit h ≡ take head_limit h' → count_in s h name ≡ count_in s h' name
