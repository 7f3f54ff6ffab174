-- The status that is signed, and then the digits are compared. Assumes nothing.
use mathlib.Core.List.{List}
use mathlib.Core.Path.{sym, ap, ◌∙◌}
use Prim.Native.Nat.{ℕ}
use Rattle.octets.specs.Octets.{octets}
use Rattle.stream.specs.Bytes.{same}
use Rattle.head.proofs.StatusLaws.{part_status, part_says, whole_status, whole_says, no_status}
use Rattle.head.proofs.status.read_status.Goals as goal

pub returns-then-same-clause-kept : goal.returns-then-same-clause-kept
returns-then-same-clause-kept c =
    part_status _ _ _ c.signed_status.ensures c.status_number-number.ensures (ap (λ (d : List ℕ). same d (octets "206")) (sym c.digits.ensures) ∙ sym c.same.ensures ∙ c.if-same.true)
    (rw c.is_some.ensures at c.read_part.ensures.kept)

pub returns-then-same-clause-said : goal.returns-then-same-clause-said
returns-then-same-clause-said c =
    rw (← part_says _ _ c.args.size c.signed_status.ensures (ap (λ (d : List ℕ). same d (octets "206")) (sym c.digits.ensures) ∙ sym c.same.ensures ∙ c.if-same.true)) c.read_part.ensures.said

pub returns-then-is_some-clause-kept : goal.returns-then-is_some-clause-kept
returns-then-is_some-clause-kept c =
    rw c.unwrap_or.ensures
    (whole_status _ _ _ c.signed_status.ensures c.status_number-number.ensures (ap (λ (d : List ℕ). same d (octets "206")) (sym c.digits.ensures) ∙ sym c.same.ensures ∙ c.if-same.false)
    (sym c.is_some-2.ensures ∙ c.if-is_some.true))

pub returns-else-is_some-clause-kept : goal.returns-else-is_some-clause-kept
returns-else-is_some-clause-kept c =
    no_status _ _ _ c.signed_status.ensures c.status_number-number.ensures (ap (λ (d : List ℕ). same d (octets "206")) (sym c.digits.ensures) ∙ sym c.same.ensures ∙ c.if-same.false)
    (sym c.is_some-2.ensures ∙ c.if-is_some.false)

pub returns-else-is_some-clause-said : goal.returns-else-is_some-clause-said
returns-else-is_some-clause-said c =
    rw c.unwrap_or.ensures
    (whole_says _ _ c.args.size c.signed_status.ensures c.status_number-number.ensures (ap (λ (d : List ℕ). same d (octets "206")) (sym c.digits.ensures) ∙ sym c.same.ensures ∙ c.if-same.false))
