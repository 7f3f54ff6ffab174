-- No byte of a line changes the length of a buffer, or the head. Assumes nothing.
use mathlib.Core.Bool.{Bool, true, false}
use mathlib.Core.List.{List}
use mathlib.Core.Path.{◌≡◌, refl}
use native.Mathlib.Omega.{arith}
use Prim.Native.Nat.{ℕ, ◌+◌, ◌≤◌}
use borrow.Author.Tests.{leb-true}
use lib.Dec.{leb}
use lib.ListN.{length, length-append, length-drop}
use Rattle.blocks.specs.Writing.{at_front, message_written}
use Rattle.chunk.specs.declared.judging.Line.{Line}
use Rattle.refusals.specs.declared.Refusal.{Refusal}
use Rattle.std.specs.Prelude.{Result, Ok, Err}
use Rattle.number.specs.Writing.{written}
use Rattle.octets.specs.Choice.{pick}
use Rattle.stream.specs.Blocks.{is_whole_line}
use Rattle.state.specs.Configuration.{Configuration}
use Rattle.state.proofs.KeptLaws.{Kept, kept_on, kept_pick, kept_after_lem, kept_refuse}
use Rattle.line_steps.specs.FirstLine.{line_of, first_answered, first_gathered, push_first_line}
use Rattle.line_steps.specs.NextLine.{message_now, asked, next_answered, next_gathered, push_next_line}

-- ---- a message within its buffer

module _ (m out : List ℕ) where
  length_at_front : length m ≤ length out → length (at_front m out) ≡ length out
  unfolding at_front
  length_at_front h = rw (length-append, length-drop) (omega arith)

  by_test_lem : (t : Bool) → leb (length m) (length out) ≡ t → length (pick t (written (length m) (at_front m out)) (written 0 out)).bytes ≡ length out
  by_test_lem true e = length_at_front (leb-true (length m) (length out) e)
  by_test_lem false e = refl

  length_written : length (message_written m out).bytes ≡ length out
  unfolding message_written
  length_written = by_test_lem (leb (length m) (length out)) refl

-- ---- the pushes

kept_first : (d : Configuration) (judged : Result Line Refusal) → Kept d (first_answered d judged)
unfolding first_answered
kept_first d (Err why) = kept_refuse why 0 d
kept_first d (Ok line) = kept_on d _ refl refl refl

kept_first_gathered : (d : Configuration) (n : ℕ) → Kept d (first_gathered d n)
unfolding first_gathered
kept_first_gathered d n = kept_pick d (is_whole_line (line_of d n)) _ _ (kept_first d _) (kept_on d d refl refl refl)

pub kept_first_line : (d : Configuration) (have x : ℕ) → Kept d (push_first_line d have x)
unfolding push_first_line
kept_first_line d have x = kept_pick d (leb 128 have) _ _ (kept_refuse _ 0 d) (kept_after_lem d _ _ (kept_on d _ refl refl refl) (kept_first_gathered _ (have + 1)))

kept_asked : (d : Configuration) (size next : ℕ) (signature : List ℕ) → Kept d (asked d size next signature)
unfolding asked message_now
kept_asked d size next signature = record { head = refl; block = refl; question = length_written _ d.question }

kept_next : (d : Configuration) (size : ℕ) (judged : Result Line Refusal) → Kept d (next_answered d size judged)
unfolding next_answered
kept_next d size (Err why) = kept_refuse why size d
kept_next d size (Ok line) = kept_asked d size line.size line.carried

kept_next_gathered : (d : Configuration) (n size : ℕ) → Kept d (next_gathered d n size)
unfolding next_gathered
kept_next_gathered d n size = kept_pick d (is_whole_line (line_of d n)) _ _ (kept_next d size _) (kept_on d d refl refl refl)

pub kept_next_line : (d : Configuration) (have size x : ℕ) → Kept d (push_next_line d have size x)
unfolding push_next_line
kept_next_line d have size x = kept_pick d (leb 128 have) _ _ (kept_refuse _ size d) (kept_after_lem d _ _ (kept_on d _ refl refl refl) (kept_next_gathered _ (have + 1) size))
