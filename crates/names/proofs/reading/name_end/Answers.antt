-- The bytes before the first space are counted. Assumes nothing.
use borrow.Author.Rules.{rules}
use borrow.Author.Tests.{tests}
use mathlib.Core.Path.{ap, ◌∙◌}
use native.Mathlib.Omega.{arith}
use Prim.Native.Nat.{ℕ, ◌+◌, ◌-◌}
use lib.ListN.{length, drop, length-drop}
use lib.Seq.{take_all}
use Rattle.std.proofs.lemmas.Iterator.{YieldsList-from_slice}
use Rattle.std.proofs.lemmas.Iterator.Consumers.{YieldsList-at, count_from_yields_List}
use Rattle.std.proofs.lemmas.Iterator.Search.{YieldsList-from_take_while}
use Rattle.classes.proofs.RunLaws.{run_le}
use Rattle.names.specs.NameList.{is_name_byte}
use Rattle.names.proofs.NameListLaws.{name_taken}
use Rattle.names.proofs.reading.name_end.Goals as goal

pub returns-then-text-from : goal.returns-then-text-from
returns-then-text-from c = omega (arith, run_le is_name_byte (drop c.args.from c.args.text.now), length-drop c.args.from c.args.text.now)

pub returns : goal.returns
returns c =
    let left = drop c.args.from c.args.text.now in
    let r = c.iter.ensures.rest ∙ take_all (length c.args.text.now - c.args.from) left (omega (arith, length-drop c.args.from c.args.text.now)) in
    let n = count_from_yields_List c.take_while.result _ c.count.ensures.ran
    (YieldsList-from_take_while _ is_name_byte (YieldsList-at c.take_while.ensures.source (YieldsList-from_slice left r)) c.take_while.ensures.closure c.take_while.ensures.done (λ x b q k. search (rules, tests)))
    in
    ap (λ (k : ℕ). c.args.from + k) (n ∙ name_taken _)
