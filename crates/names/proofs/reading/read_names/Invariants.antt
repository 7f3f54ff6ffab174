-- The names passed, in front of the names of what is left of the text. Assumes nothing.
use mathlib.Core.List.{◌++◌}
use mathlib.Core.Path.{◌≡◌}
use Prim.Native.Nat.{◌≤◌}
use lib.ListN.{length, drop}
use Rattle.stream.specs.Signatures.{split_names}
use Rattle.names.specs.NameList.{SpansWithin}
use Rattle.names.proofs.SpanLaws.{first_names}
use Rattle.names.proofs.reading.read_names.Given as goal

abbrev pub invariant-loop-i : goal.invariant-loop-i
invariant-loop-i l =
    (l.start ≤ length l.text)
    × (length l.spans ≡ 32)
    × (split_names l.text ≡ first_names l.text l.spans l.i ++ split_names (drop l.start l.text))
    × SpansWithin l.text l.spans
