-- The digits are compared with one status after the other. Assumes nothing.
use mathlib.Core.Path.{refl, sym, ◌∙◌}
use Rattle.octets.specs.Octets.{octets}
use Rattle.stream.specs.Bytes.{same}
use Rattle.stream.specs.Numbers.{number_from}
use Rattle.head.proofs.PlainLaws.{is_number, no_number}
use Rattle.head.proofs.plain.status_number.Goals as goal

pub returns-then-same : goal.returns-then-same
unfolding same number_from
returns-then-same c = is_number _ (octets "200") refl (sym c.same.ensures ∙ c.if-same.true)

pub returns-then-same-2 : goal.returns-then-same-2
unfolding same number_from
returns-then-same-2 c = is_number _ (octets "301") refl (sym c.same-2.ensures ∙ c.if-same-2.true)

pub returns-then-same-3 : goal.returns-then-same-3
unfolding same number_from
returns-then-same-3 c = is_number _ (octets "302") refl (sym c.same-3.ensures ∙ c.if-same-3.true)

pub returns-then-same-4 : goal.returns-then-same-4
unfolding same number_from
returns-then-same-4 c = is_number _ (octets "307") refl (sym c.same-4.ensures ∙ c.if-same-4.true)

pub returns : goal.returns
returns c =
    no_number _ (sym c.same.ensures ∙ c.if-same.false) (sym c.same-2.ensures ∙ c.if-same-2.false)
    (sym c.same-3.ensures ∙ c.if-same-3.false) (sym c.same-4.ensures ∙ c.if-same-4.false)
