-- Document 000's example is asked about and handed out, and so is the show that was asked for. Assumes nothing.
use mathlib.Core.Bool.{Bool, true}
use mathlib.Core.List.{List, [], ◌++◌}
use mathlib.Core.Path.{refl, sym}
use Prim.Native.Nat.{ℕ}
use lib.ListN.{replicate}
use Rattle.stream.specs.Stream.{plain_reading}
use Rattle.stream.proofs.Example.{terms, example_head, example_body}
use Rattle.exactness.specs.AskedFor.{AsksFor}
use Rattle.exactness.specs.ShowEvents.{show_events}
use Rattle.exactness.proofs.AskedFor.{asked_for_only}
use Rattle.examples.proofs.Example.{example_whole}

abbrev pub stream : List ℕ
stream = example_head ++ example_body

pub example_asked : (told : Bool) → AsksFor terms stream (plain_reading terms stream (replicate 4 true) told)
unfolding show_events
example_asked told =
    asked_for_only terms stream (replicate 4 true) told _ _ (record { before = []; after = _; joined = sym (example_whole told) }) refl
