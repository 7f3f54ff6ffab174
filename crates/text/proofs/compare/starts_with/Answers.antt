-- A place past the end is as the end; from there on std's `starts_with` asks the same. Assumes nothing.
use mathlib.Core.Path.{◌∙◌}
use native.Mathlib.Omega.{arith}
use lib.ListN.{length}
use Rattle.std.proofs.lemmas.List.{drop_min}
use Rattle.std.proofs.lemmas.Slice.{between_to_end}
use Rattle.stream.specs.Template.{starts_with}
use Rattle.text.proofs.SameLaws.{same_is}
use Rattle.text.proofs.compare.starts_with.Goals as goal

pub returns : goal.returns
unfolding starts_with
returns c =
    let s = c.args.s.now in
    rw (← drop_min c.args.from s, ← c.min.ensures, ← between_to_end s c.min.result (length s) (omega arith)) (c.starts_with.ensures.value ∙ same_is _ _)
