-- The bytes that are written so far, in lower case, stand over those of the entry. Assumes nothing.
use borrow.Author.Rules.{rules}
use mathlib.Core.Path.{◌≡◌, refl, sym, ◌∙◌}
use native.Mathlib.Omega.{arith}
use lib.ListN.{length-set}
use lib.Seq.{paste-zero}
use Rattle.stream.specs.Bytes.{lowered}
use Rattle.stream.proofs.Truth.{lowered_length}
use Rattle.places.proofs.WritingLaws.{put_turn, put_end}
use Rattle.signing.proofs.StringLaws.{lower_at}
use Rattle.signing.proofs.line.put_lower.Goals as goal

pub loop-i-init : goal.loop-i-init
loop-i-init c = (refl, paste-zero c.args.out.now c.args.at (lowered c.args.bytes.now))

pub loop-i-preserved : goal.loop-i-preserved
loop-i-preserved c =
    let b = c.args.bytes.now in
    (simp length-set (search rules), put_turn _ c.loop-i.out _ _ c.loop-i.i _ c.loop-i.invariant.1 (omega arith) (omega (arith, lowered_length b)) (c.lower.ensures ∙ sym (lower_at b c.loop-i.i)))

pub returns : goal.returns
returns c =
    let e : c.loop-i.i ≡ c.min-room.result = omega arith in
    rw (← e) (put_end _ c.loop-i.out _ _ c.loop-i.i c.loop-i.invariant.1 (omega (arith, lowered_length c.args.bytes.now)))
