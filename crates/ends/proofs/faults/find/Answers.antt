-- What was read, and the lists. Assumes nothing.
use mathlib.Core.Path.{ap, ◌∙◌}
use Rattle.ends.specs.Steps.{number_of}
use Rattle.ends.proofs.FaultLaws.{fault_is}
use Rattle.ends.proofs.faults.find.Goals as goal

pub returns : goal.returns
returns c =
    c.read_fault.ensures ∙ ap number_of
    (fault_is _ _ c.requires.says _ _ c.requires.reads_end _ _ _ c.part-list.ensures (c.value_of-value.ensures c.requires.are_lines) c.part-longer.ensures _ c.is_extended.ensures _
    c.is_free.ensures _ _)
