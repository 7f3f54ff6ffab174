-- What a run of calls amounts to: its words and counts, the bytes that it took, the answers that it heard, and whether the end was
-- told; all read off what a caller sees. Assumes nothing.
use Rattle.std.specs.Prelude.{Bool, List, ℕ}
use Rattle.ring.specs.declared.KeyRing.{KeyRing}
use Rattle.sections.specs.Calls.{Out}
use Rattle.sections.specs.Resuming.{bytes_taken, answers_heard, end_heard}
use Rattle.stream.specs.Events.{Question, LastWord}
use Rattle.agreement.specs.Observation.{Told, outs}
use Rattle.agreement.specs.Run.{Invocation, run, plain_calls}

module _ (keys : KeyRing) (uri h b q : List ℕ) (ks : List Invocation) where
  abbrev pub words : List (Out Question Told LastWord)
  words = outs (run keys uri h b q ks)

  abbrev pub taken : List ℕ
  taken = bytes_taken (plain_calls keys h b q ks) words

  abbrev pub answers : List Bool
  answers = answers_heard (plain_calls keys h b q ks) words

  abbrev pub ended : Bool
  ended = end_heard (plain_calls keys h b q ks) words
