-- The day tally (paper 01, "The kit's log"): how each event changes it, and what it is after many. Assumes nothing.
use Rattle.std.specs.Prelude.{List, [], ◌∷◌, ℕ, ◌+◌, min}
use Rattle.octets.specs.Choice.{pick}
use Rattle.sections.specs.Calls.{is_of_call}
use Rattle.state.specs.declared.word.Word.{Word}
use Rattle.state.specs.declared.word.Word.TheVariants as W
use Rattle.tally.specs.declared.Tally.{Tally}

-- "four 64-bit counts"
abbrev pub largest : ℕ
largest = 0xffff_ffff_ffff_ffff

-- "A count that would pass its largest value becomes that value"
abbrev pub grown : ℕ → ℕ → ℕ
grown count more = min (count + more) largest

-- "blocks, bytes released, streams closed, streams finally refused"
abbrev pub no_counts : Tally
no_counts = record { blocks = 0; bytes = 0; closed = 0; refused = 0 }

abbrev pub with_block : Tally → ℕ → Tally
with_block t n = record { blocks = grown t.blocks 1; bytes = grown t.bytes n; closed = t.closed; refused = t.refused }

abbrev pub with_closed : Tally → Tally
with_closed t = record { blocks = t.blocks; bytes = t.bytes; closed = grown t.closed 1; refused = t.refused }

abbrev pub with_refused : Tally → Tally
with_refused t = record { blocks = t.blocks; bytes = t.bytes; closed = t.closed; refused = grown t.refused 1 }

abbrev pub refused_by : Tally → ℕ → Tally
refused_by t n = pick (is_of_call n) t (with_refused t)

-- "changed in place after each event"; "No other event changes it". Request #101, of *complete*: "it is final and the log counts it as closed"
unfoldable pub tallied_after : Tally → Word → Tally
tallied_after t W.More = t
tallied_after t (W.Question n key) = t
tallied_after t (W.Head status) = t
tallied_after t (W.Block offset n) = with_block t n
tallied_after t (W.Closed total) = with_closed t
tallied_after t (W.Complete total) = with_closed t
tallied_after t (W.Refused why) = refused_by t why.number

-- the tally after the words of many calls, in their order
unfoldable pub tallied : Tally → List Word → Tally
tallied t [] = t
tallied t (w ∷ ws) = tallied (tallied_after t w) ws
