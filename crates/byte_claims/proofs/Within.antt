-- WITHIN the named sizes, whatever bytes an exported call is lent, proved. Assumes nothing.
use mathlib.Core.Bool.{Bool, true, false}
use mathlib.Core.List.{List, []}
use mathlib.Core.Path.{◌≡◌, refl, sym, ap, ◌∙◌}
use native.Mathlib.Omega.{arith}
use native.Mathlib.Nat.{le_refl}
use Prim.Native.Nat.{ℕ, ◌≤◌}
use lib.Dec.{leb}
use lib.ListN.{length, take, length-take}
use lib.Seq.{take-take}
use Rattle.octets.specs.Choice.{pick}
use Rattle.sections.specs.Calls.{Request}
use Rattle.stream.specs.Limits.{head_limit, block_limit, field_limit}
use Rattle.handing.specs.Handing.{handed_value, handed_count}
use Rattle.handing.specs.Released.{block_part}
use Rattle.state.specs.Configuration.{Configuration}
use Rattle.fronts.specs.Fronts.{first_parts, backed}
use Rattle.fronts.proofs.FrontLaws.{front_back, rest_back}
use Rattle.packing.specs.Keys.{keys_in}
use Rattle.packing.specs.Parts.{placed, placing}
use Rattle.layout.specs.State.{state_size, decoded}
use Rattle.results.specs.Written.{answered}
use Rattle.reader_export.specs.Export.{block_in, value_in, count_in}
use Rattle.reader_export.specs.Loan.{Loan, exported, is_long}
use Rattle.reader_export.proofs.LoanLaws.{exported_short}
use Rattle.agreement.specs.Run.{called}
use Rattle.byte_claims.specs.Within.{StaysWithin, first_lent, first_left, CallWithin, PartsWithin}
use Rattle.byte_claims.proofs.Bounds.{call_bound}
use Rattle.byte_claims.proofs.ResultNumbers.{taken_in}
use Rattle.byte_claims.proofs.TakenCounts.{call_taken}
use Rattle.byte_claims.proofs.ValueSize.{value_short, count_few}
use Rattle.byte_claims.proofs.LengthsTold.{reader_in, called_in, answer_is, question_within, block_within, long_result}

-- ---- a call

module _ (l : Loan) (r : Request) where
  stays_long : is_long l ≡ true → StaysWithin l r (answered l.state l.result (backed (reader_in l) (called_in l r)))
  stays_long e =
      let d = reader_in l in
      let b = call_bound (keys_in l.ring) l.uri (first_parts d) r in
      let room = long_result l.state l.result e in
      record {
        taken = λ w. omega (arith, call_taken (keys_in l.ring) l.uri (first_parts d) r, taken_in (called_in l r).word (called_in l r).taken (called_in l r).signature l.result room);
        question = question_within d (called_in l r).taken (called_in l r).signature l.result room (called_in l r).word b.named;
        block = block_within d (called_in l r).taken (called_in l r).signature l.result room (called_in l r).word b.named;
        head_beyond = rest_back head_limit l.head (called_in l r).after.head b.long.head;
        block_beyond = rest_back block_limit l.block (called_in l r).after.block b.long.block;
        question_beyond = rest_back head_limit l.question (called_in l r).after.question b.long.question;
      }

  stays : StaysWithin l r (exported l r)
  stays = by (is_long l) refl
    where
      by : (t : Bool) → is_long l ≡ t → StaysWithin l r (exported l r)
      by true e = rw (answer_is l r e) (stays_long e)
      by false e =
          rw (exported_short l r e)
          (record {
            taken = λ w. absurd (w refl);
            question = λ w. absurd (omega (arith, w));
            block = λ w. absurd (omega (arith, w));
            head_beyond = refl;
            block_beyond = refl;
            question_beyond = refl;
          })

  -- the first parts after it are those of the reader's call
  first_long : is_long l ≡ true → first_left (exported l r) ≡ answered l.state l.result (called_in l r)
  first_long e =
      let b = call_bound (keys_in l.ring) l.uri (first_parts (reader_in l)) r in
      ap first_left (answer_is l r e)
      ∙ rw (
        front_back head_limit l.head (called_in l r).after.head b.long.head,
        front_back block_limit l.block (called_in l r).after.block b.long.block,
        front_back head_limit l.question (called_in l r).after.question b.long.question,
      )

same_front : (l : Loan) → first_parts (reader_in (first_lent l)) ≡ first_parts (reader_in l)
same_front l =
    rw (
      take-take head_limit head_limit l.head (le_refl head_limit),
      take-take block_limit block_limit l.block (le_refl block_limit),
      take-take head_limit head_limit l.question (le_refl head_limit),
    )

by_first : (l : Loan) (r : Request) → first_left (exported l r) ≡ first_left (exported (first_lent l) r)
by_first l r = by (is_long l) refl
  where
    by : (t : Bool) → is_long l ≡ t → first_left (exported l r) ≡ first_left (exported (first_lent l) r)
    by true e =
        first_long l r e
        ∙ sym (ap (λ (d : Configuration). answered l.state l.result (called (keys_in l.ring) l.uri d r)) (same_front l))
        ∙ sym (first_long (first_lent l) r e)
    by false e =
        rw (
          exported_short l r e,
          exported_short (first_lent l) r e,
          take-take head_limit head_limit l.head (le_refl head_limit),
          take-take block_limit block_limit l.block (le_refl block_limit),
          take-take head_limit head_limit l.question (le_refl head_limit),
        )

-- FOR EVERY CALL, with any bytes for its state.
pub call_within : (l : Loan) (r : Request) → CallWithin l r
call_within l r =
    record {
      stays = stays l r;
      unread = λ m e. by_first l r ∙ ap (λ (x : Loan). first_left (exported x r)) e ∙ sym (by_first m r);
    }

-- ---- what is handed out

module _ (s : List ℕ) where
  block_part_lem : (b : List ℕ) (n : ℕ) → length (block_part b n) ≤ length b
  unfolding block_part
  block_part_lem b n = by (leb block_limit (length b))
    where
      by : (t : Bool) → length (pick t (take n b) []) ≤ length b
      by true = omega (arith, length-take n b)
      by false = omega arith

  block_told : (b : List ℕ) → length (block_in s b) ≤ length (take block_limit b)
  unfolding block_in
  block_told b = by (leb state_size (length s)) _ (block_part_lem (take block_limit b) _)
    where
      by : (t : Bool) (p : List ℕ) → length p ≤ length (take block_limit b) → length (pick t p []) ≤ length (take block_limit b)
      by true p m = m
      by false p m = omega arith

  value_told : (h name v : List ℕ) → (value_in s h name v).count ≤ length (take head_limit h)
  unfolding value_in
  value_told h name v = by (leb state_size (length s)) (handed_value (take head_limit h) (decoded s).fixed.accepted name) (value_short (take head_limit h) (decoded s).fixed.accepted name)
    where
      by : (t : Bool) (p : List ℕ) → length p ≤ length (take head_limit h) → (pick t (placed p v) (placing 0 v)).count ≤ length (take head_limit h)
      by true p m = m
      by false p m = omega arith

  count_told : (h name : List ℕ) → count_in s h name ≤ field_limit
  unfolding count_in
  count_told h name = by (leb state_size (length s)) (handed_count (take head_limit h) (decoded s).fixed.accepted name) (count_few (take head_limit h) (decoded s).fixed.accepted name)
    where
      by : (t : Bool) (n : ℕ) → n ≤ field_limit → pick t n 0 ≤ field_limit
      by true n m = m
      by false n m = omega arith

-- FOR EVERY STATE.
pub parts_within : (s h b : List ℕ) → PartsWithin s h b
unfolding block_in value_in count_in
parts_within s h b =
    record {
      block = record { named = omega (arith, block_told s b, length-take block_limit b); lent = omega (arith, block_told s b, length-take block_limit b) };
      value = λ name v. record { named = omega (arith, value_told s h name v, length-take head_limit h); lent = omega (arith, value_told s h name v, length-take head_limit h) };
      count = λ name. count_told s h name;
      block_unread = λ b' e. rw e;
      value_unread = λ h' name v e. rw e;
      count_unread = λ h' name e. rw e;
    }
