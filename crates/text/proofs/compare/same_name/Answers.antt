-- Names of one length are the same where they are so far and what is left of each is. Assumes nothing.
use borrow.Author.Rules.{rules}
use mathlib.Core.List.{[], ◌∷◌, ◌++◌}
use mathlib.Core.Path.{◌≡◌, sym, ap, ◌∙◌}
use Prim.Native.Nat.{◌+◌}
use native.Mathlib.Omega.{arith}
use lib.ListN.{length, length-append}
use Rattle.std.proofs.lemmas.Slice.Zip.{zip_turn, zip_end}
use Rattle.stream.specs.Bytes.{lower}
use Rattle.text.proofs.SameLaws.{names_length, names_turn, names_out}
use Rattle.text.proofs.compare.same_name.Goals as goal

pub returns-then-a-b : goal.returns-then-a-b
returns-then-a-b c = sym (names_length _ _ c.if-a-b.true)

pub loop-x-preserved : goal.loop-x-preserved
loop-x-preserved c =
    let z = zip_turn c.args.a.now c.args.b.now c.loop-x.yielded c.into_iter-x-iterator.result c.loop-x.x-iterator c.next.new.self c.next.result (search rules) (search rules) c.loop-x.yielded_by _ c.in-Some.is c.next.ensures.steps in
    let n : length (c.loop-x.yielded ++ (c.in-Some.x, c.in-Some.y) ∷ []) ≡ length c.loop-x.yielded + 1 = length-append c.loop-x.yielded _ in
    rw n (c.loop-x.invariant ∙ names_turn c.args.a.now c.args.b.now (length c.loop-x.yielded) _ _ z.0 z.1 (c.lower.ensures ∙ ap lower (z.2 0)) (c.lower-in-loop-x.ensures ∙ ap lower (z.3 0)) c.loop-x.same)

pub returns : goal.returns
returns c =
    let e = zip_end c.args.a.now c.args.b.now c.loop-x.yielded c.into_iter-x-iterator.result c.loop-x.x-iterator c.next.new.self c.next.result (search rules) (search rules) c.loop-x.yielded_by c.in-None.is c.next.ensures.steps in
    sym (c.loop-x.invariant ∙ names_out _ _ (length c.loop-x.yielded) (omega (arith, e, c.if-a-b.false)) (omega (arith, e, c.if-a-b.false)) _)
