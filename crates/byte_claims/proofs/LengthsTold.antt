-- An exported call as the reader's on the first parts of the buffers, and the lengths that stand in its result. Assumes nothing.
use mathlib.Core.Bool.{true}
use mathlib.Core.List.{List}
use mathlib.Core.Path.{◌≡◌, refl, ap, ◌∙◌}
use native.Mathlib.Omega.{arith}
use borrow.Author.Tests.{leb-true}
use Prim.Native.Nat.{ℕ, ◌≤◌}
use lib.Dec.{leb}
use lib.ListN.{length, take, length-take}
use Rattle.sections.specs.Calls.{Request, feed, answer, end}
use Rattle.stream.specs.Limits.{head_limit, block_limit}
use Rattle.stream.proofs.Truth.{right_holds}
use Rattle.state.specs.Configuration.{Configuration}
use Rattle.state.specs.declared.word.Word.{Word}
use Rattle.state.specs.declared.word.Word.TheVariants as W
use Rattle.calls.specs.Response as R
use Rattle.fronts.specs.Fronts.{first_parts, backed, feed_front, answer_front, end_front}
use Rattle.packing.specs.Keys.{keys_in}
use Rattle.packing.specs.Parts.{number_at}
use Rattle.layout.specs.State.{state_size}
use Rattle.results.specs.Results.{result_size, word_of, result_in}
use Rattle.results.specs.Written.{answered, are_long}
use Rattle.reader_export.specs.Export.{configuration_in}
use Rattle.reader_export.specs.Loan.{Loan, call_in, exported, is_long}
use Rattle.reader_export.proofs.LoanLaws.{exported_long}
use Rattle.agreement.specs.Run.{called}
use Rattle.byte_claims.specs.Within.{Within}
use Rattle.byte_claims.proofs.ResultNumbers.{first_in_lem, second_in_lem}
use Rattle.byte_claims.proofs.HeadBounds.{Named}

-- the reader that the bytes say, with the buffers, and its call on their first parts
abbrev pub reader_in : Loan → Configuration
reader_in l = configuration_in l.state l.head l.block l.question

abbrev pub called_in : Loan → Request → R.Response
called_in l r = called (keys_in l.ring) l.uri (first_parts (reader_in l)) r

pub call_is : (l : Loan) (r : Request) → call_in l r ≡ backed (reader_in l) (called_in l r)
unfolding feed_front answer_front end_front
call_is l (feed piece) = refl
call_is l (answer good) = refl
call_is l end = refl

pub answer_is : (l : Loan) (r : Request) → is_long l ≡ true → exported l r ≡ answered l.state l.result (backed (reader_in l) (called_in l r))
answer_is l r e = exported_long l r e ∙ ap (λ (c : R.Response). answered l.state l.result c) (call_is l r)

-- ---- lengths that are told

module _ (d : Configuration) (taken : ℕ) (signature t : List ℕ) (room : result_size ≤ length t) where
  pub question_within : (w : Word) → Named w (first_parts d) → word_of w ≡ 1 → Within head_limit d.question (number_at (result_in w taken signature t) 16)
  question_within W.More m e = absurd (omega (arith, e))
  question_within (W.Question n key) m e =
      let k : n ≤ length (take head_limit d.question) = m in
      rw (first_in_lem (W.Question n key) taken signature t room (omega (arith, k, length-take head_limit d.question)))
      (record { named = omega (arith, k, length-take head_limit d.question); lent = omega (arith, k, length-take head_limit d.question) })
  question_within (W.Head status) m e = absurd (omega (arith, e))
  question_within (W.Block o n) m e = absurd (omega (arith, e))
  question_within (W.Closed total) m e = absurd (omega (arith, e))
  question_within (W.Complete total) m e = absurd (omega (arith, e))
  question_within (W.Refused n) m e = absurd (omega (arith, e))

  pub block_within : (w : Word) → Named w (first_parts d) → word_of w ≡ 3 → Within block_limit d.block (number_at (result_in w taken signature t) 24)
  block_within W.More m e = absurd (omega (arith, e))
  block_within (W.Question n key) m e = absurd (omega (arith, e))
  block_within (W.Head status) m e = absurd (omega (arith, e))
  block_within (W.Block o n) m e =
      rw (second_in_lem (W.Block o n) taken signature t room (omega (arith, m.0)))
      (record { named = m.0; lent = omega (arith, m.1, length-take block_limit d.block) })
  block_within (W.Closed total) m e = absurd (omega (arith, e))
  block_within (W.Complete total) m e = absurd (omega (arith, e))
  block_within (W.Refused n) m e = absurd (omega (arith, e))

pub long_result : (s t : List ℕ) → are_long (length s) (length t) ≡ true → result_size ≤ length t
unfolding are_long
long_result s t e = leb-true result_size (length t) (right_holds (leb state_size (length s)) _ e)
