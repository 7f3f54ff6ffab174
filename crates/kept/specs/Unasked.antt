-- Before request #105: no URI was asked for. What the caller fixed was the ring alone, and this reading is given nothing else: of the caller's
-- rules there were those of trust. All others stand as they are now. Assumes nothing.
use Rattle.std.specs.Prelude.{Bool, List, ◌++◌, ℕ}
use Rattle.sections.specs.Reading.{Log}
use Rattle.stream.specs.Events.{Question, Release, LastWord}
use Rattle.stream.specs.Head.{head_of, text_rules, trust_rules}
use Rattle.stream.specs.Places.{head_place}
use Rattle.stream.specs.Ring.{Ring}
use Rattle.stream.specs.Rule.{first_broken}
use Rattle.stream.specs.Stream.{Says, unless_broken, accept_head}
use Rattle.kept.specs.OtherHeads.{reading_with}

unfoldable pub unasked_fault : Ring → List ℕ → ℕ
unasked_fault ring l = first_broken (text_rules l (head_of l) ++ trust_rules ring (head_of l))

unfoldable pub unasked_head : Ring → List ℕ → Says
unasked_head ring l = unless_broken (unasked_fault ring l) (head_place l) (accept_head ring (head_of l))

unfoldable pub unasked_reading : Ring → List ℕ → List Bool → Bool → Log Question Release LastWord
unasked_reading ring stream answers told = reading_with (unasked_head ring) stream answers told
