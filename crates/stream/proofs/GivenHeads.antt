-- A stream that a table gives as its head and the rest is read as the plain reading reads the two joined, where the head has no end before its
-- last byte. Assumes nothing.
use mathlib.Core.Bool.{Bool, false}
use mathlib.Core.List.{List, [], ◌++◌}
use mathlib.Core.Path.{◌≡◌, sym, ap}
use Prim.Native.Nat.{ℕ}
use Rattle.sections.specs.Reading.{cut, cut_at, reading}
use Rattle.sections.proofs.Cuts.{cut_is, cut_at_lem}
use Rattle.sections.proofs.Scans.{section_read}
use Rattle.stream.specs.Head.{is_whole_head}
use Rattle.stream.specs.Stream.{head, is_whole, rules, plain_reading}
use Rattle.stream.specs.Terms.{Terms}
use Rattle.stream.proofs.Cases.{events, events_from}

-- what comes after a head does not move its end
cut_before : (first rest : List ℕ) → cut is_whole_head first ≡ cut_at first [] → cut is_whole_head (first ++ rest) ≡ cut_at first rest
cut_before first rest c = let k = rw c at (cut_is is_whole_head first) in cut_at_lem is_whole_head first rest k.1 k.2 k.3

pub given_head : (terms : Terms) (first rest : List ℕ) (answers : List Bool) → cut is_whole_head first ≡ cut_at first []
    → events_from terms first rest answers ≡ events (plain_reading terms (first ++ rest) answers false)
unfolding events_from plain_reading reading rules is_whole
given_head terms first rest answers c =
    ap events (sym (rw (cut_before first rest c) at (section_read (rules terms) head 0 (first ++ rest) answers false)))
