-- Each way by what is known there. Assumes nothing.
use mathlib.Core.Bool.{Bool, true}
use mathlib.Core.List.{List}
use mathlib.Core.Path.{◌≡◌, sym, ap₂, ◌∙◌}
use Prim.Native.Nat.{ℕ}
use Rattle.end_fields.specs.Found.{AreLines, both_in}
use Rattle.head.specs.Reading.{Says}
use Rattle.head.specs.declared.whole.HeadRead.{HeadRead}
use Rattle.ranges.specs.Extent.{range_in}
use Rattle.stream.specs.Ends.{all_fields, is_checked}
use Rattle.stream.specs.Head.{head_of, range_of}
use Rattle.stream.specs.Trailer.{is_trailer}
use Rattle.ends.proofs.FaultLaws.{all_there, range_there}
use Rattle.ends.proofs.JudgeLaws.{trailer_lines, judged_text, judged_head, judged_closed, judged_claimed}
use Rattle.ends.proofs.trailer.judge.Goals as goal

-- where it is asked whether an end is to be checked: the head was read, the trailer is one, and the call answers for both
module _ (text trailer : List ℕ) {said : HeadRead} {checked : Bool} (x : Says text said) (g : is_trailer trailer ≡ true)
    (e : AreLines trailer → checked ≡ is_checked (range_in said.extent) (both_in text said.fields trailer)) where
  checked_is : is_checked (range_of (head_of text)) (all_fields (head_of text) trailer) ≡ checked
  checked_is = ap₂ is_checked (sym (range_there text said x trailer)) (sym (all_there text said x trailer)) ∙ sym (e (trailer_lines trailer g))

pub returns-then-not-is_trailer : goal.returns-then-not-is_trailer
returns-then-not-is_trailer c = rw c.trailer_place-at.ensures (judged_text _ _ _ _ _ (sym c.is_trailer.ensures ∙ c.if-not-is_trailer.true))

pub returns-in_default : goal.returns-in_default
returns-in_default c =
    let x = c.in_default.ensures in
    rw c.plain.ensures (judged_head _ _ _ _ _ (sym c.is_trailer.ensures ∙ c.if-not-is_trailer.false) (λ k. x.1 (x.0 ∙ k)))

pub returns-then-not-is_checked : goal.returns-then-not-is_checked
returns-then-not-is_checked c =
    let a = c.args in
    let x = c.in-Ok.ensures in
    let g = sym c.is_trailer.ensures ∙ c.if-not-is_trailer.false in
    judged_closed _ _ _ _ _ g x.kept (checked_is a.head.now a.trailer.now x g c.is_checked.ensures ∙ c.if-not-is_checked.true)

pub answer-requires-clause-are_lines : goal.answer-requires-clause-are_lines
answer-requires-clause-are_lines c = trailer_lines _ (sym c.is_trailer.ensures ∙ c.if-not-is_trailer.false)

pub returns : goal.returns
returns c =
    let a = c.args in
    let x = c.in-Ok.ensures in
    let g = sym c.is_trailer.ensures ∙ c.if-not-is_trailer.false in
    rw c.answer.ensures (judged_claimed _ _ _ _ _ g x.kept (checked_is a.head.now a.trailer.now x g c.is_checked.ensures ∙ c.if-not-is_checked.false))
