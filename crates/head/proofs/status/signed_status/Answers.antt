-- The digits are compared, and either they or the field's value is the answer. Assumes nothing.
use mathlib.Core.List.{List}
use mathlib.Core.Path.{sym, ap, ◌∙◌}
use Prim.Native.Nat.{ℕ}
use Rattle.octets.specs.Octets.{octets}
use Rattle.stream.specs.Bytes.{same}
use Rattle.head.proofs.StatusLaws.{signed_part, signed_whole}
use Rattle.head.proofs.status.signed_status.Goals as goal

pub returns-then-same : goal.returns-then-same
returns-then-same c = c.value_of.ensures ∙ signed_part _ _ (ap (λ (d : List ℕ). same d (octets "206")) (sym c.digits-said.ensures) ∙ sym c.same.ensures ∙ c.if-same.true)

pub returns : goal.returns
returns c = c.digits-said.ensures ∙ signed_whole _ _ (ap (λ (d : List ℕ). same d (octets "206")) (sym c.digits-said.ensures) ∙ sym c.same.ensures ∙ c.if-same.false)
