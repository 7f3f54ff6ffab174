-- The bytes that `take_while` gives are the run. Assumes nothing.
use borrow.Author.Rules.{rules}
use mathlib.Core.Path.{ap, ◌∙◌}
use Prim.Native.Nat.{◌+◌}
use lib.ListN.{drop}
use Rattle.std.proofs.Common.{tests}
use Rattle.std.proofs.lemmas.Iterator.{YieldsList-from_slice}
use Rattle.std.proofs.lemmas.Iterator.Consumers.{YieldsList-at, count_from_yields_List}
use Rattle.std.proofs.lemmas.Iterator.Search.{YieldsList-from_take_while}
use Rattle.classes.specs.Class.{class_of}
use Rattle.classes.proofs.RunLaws.{run_count, rest_from}
use Rattle.classes.proofs.run_end.Goals as goal

pub returns : goal.returns
returns c =
    let p = class_of c.args.c in
    let rest = drop c.args.from c.args.s.now in
    let chain = YieldsList-at c.take_while.ensures.source (YieldsList-from_slice rest (c.iter.ensures.rest ∙ rest_from c.args.s.now c.args.from c.min.result c.min.ensures)) in
    let counted = count_from_yields_List c.take_while.result _ c.count.ensures.ran (YieldsList-from_take_while _ p chain c.take_while.ensures.closure c.take_while.ensures.done (λ x r q k. search (rules, tests))) in
    ap (λ n. c.args.from + n) (counted ∙ run_count p rest)
