-- The string has room and is written, and the rest is what was read. Assumes nothing.
use Rattle.judging.proofs.AskLaws.{asked_is}
use Rattle.judging.proofs.ask.Goals as goal

pub returns : goal.returns
returns c = asked_is _ _ c.requires.says _ _ _ c.part-list.ensures c.part-created.ensures c.signed_status-status.ensures _ c.requires.text_in_bounds _ _ c.put_string-length.ensures _
