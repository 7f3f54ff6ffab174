-- The string has room and is written, and the signature is what was read. Assumes nothing.
use Rattle.ends.proofs.AskLaws.{asked_is}
use Rattle.ends.proofs.asking.ask.Goals as goal

pub returns : goal.returns
returns c =
    let g = c.requires.are_lines in
    asked_is _ _ c.requires.says _ _ c.requires.reads_end c.requires.faultless _ _ _ _ _ _ c.part-list.ensures c.part-digits.ensures (c.value_of-value.ensures g)
    c.part-created.ensures (c.value_of-digest.ensures g) (c.value_of-size.ensures g) _ c.requires.text_in_bounds _ _ c.put_string-third.ensures _ _ c.put_added-next.ensures _ _
    c.put_added-length.ensures
