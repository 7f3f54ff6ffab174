-- The names that are read, and held against their rules. Assumes nothing.
use Rattle.head.proofs.SignedLaws.{list_without, unread, not_listed, listed}
use Rattle.head.proofs.signed.listed.Goals as goal

pub returns-in_err-sig0 : goal.returns-in_err-sig0
returns-in_err-sig0 c = rw c.from_residual.ensures (list_without _ _ _ (rw c.in_err-sig0.was at c.requires))

pub returns-in_err-names : goal.returns-in_err-names
returns-in_err-names c = rw c.from_residual-in_err-names.ensures (unread _ _ _ (rw c.in_ok-sig0.was at c.requires) c.part-list.ensures c.in_err-names.ensures)

pub returns-then-not-is_list : goal.returns-then-not-is_list
returns-then-not-is_list c = not_listed _ _ _ (rw c.in_ok-sig0.was at c.requires) c.part-list.ensures c.in_ok-names.ensures c.is_list.ensures c.if-not-is_list.true

pub returns : goal.returns
returns c = listed _ _ _ (rw c.in_ok-sig0.was at c.requires) c.part-list.ensures c.in_ok-names.ensures c.is_list.ensures c.if-not-is_list.false
