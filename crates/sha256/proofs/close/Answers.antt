-- No block waits, or one is made whole.
use Rattle.std.proofs.Common.{◌≡◌, length, ◌∙◌, rules}
use Rattle.sha256.proofs.StepLaws.{close_not, close_is}
use Rattle.sha256.proofs.close.Goals as goal

pub returns-then-n-eq0 : goal.returns-then-n-eq0
returns-then-n-eq0 c =
    let long : length c.args.h.rest ≡ 64 = search rules in
    let h = c.args.h in
    close_not h c.args.bytes.now c.held-n.result (long) c.held-n.ensures c.if-n-eq0.true

pub returns : goal.returns
returns c =
    let long : length c.args.h.rest ≡ 64 = search rules in
    let h = c.args.h in
    c.hash_blocks.ensures ∙ close_is h c.args.bytes.now c.held-n.result (long) c.held-n.ensures c.put.new.out _ c.if-n-eq0.false c.requires.1 c.put.ensures (search rules)
