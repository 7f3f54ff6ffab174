-- All four characters stand where they do. Assumes nothing.
use mathlib.Core.Path.{sym, ◌∙◌}
use Rattle.base64_text.proofs.Standing.{stands_whole}
use Rattle.base64_text.proofs.read_group.Goals as goal

pub returns : goal.returns
returns c =
    stands_whole _ _ _ _ _
    c.value-p.ensures
    c.value-q.ensures
    c.value-r.ensures
    c.value-s.ensures
    (sym c.may_stand.ensures ∙ c.if-not-may_stand.false)
    (sym c.may_stand-2.ensures ∙ c.if-not-may_stand-2.false)
    (sym c.may_stand-3.ensures ∙ c.if-not-may_stand-3.false)
    (sym c.may_stand-4.ensures ∙ c.if-not-may_stand-4.false)
