-- THAT THE CLAIMS SPEAK OF SOMETHING: what they assume is met, here by an example of each. (Every honest show meets what is assumed of runs,
-- by Reached; document 000's example is one, crate examples, `example_honest`, and with its trailer, by which it claims its end, `claimed_honest`.
-- Its readings by the older rules are as Kept assumes, crate kept, `example_never`, `example_uri`, `example_under_paper_lem` and
-- `honest_unclaimed`; another URI is refused, `example_refused`.) Assumes nothing.
use Rattle.std.specs.Prelude.{◌≡◌, Bool, true, List, ℕ, ◌≤◌, leb, length}
use Rattle.ring.specs.declared.KeyRing.{KeyRing}
use Rattle.sections.specs.Resuming.{events}
use Rattle.stream.specs.Limits.{head_limit, block_limit, ring_limit}
use Rattle.agreement.specs.Loans.{have_room}
use Rattle.claims.specs.Ordinary.{ordinary_calls}
use Rattle.claims.specs.Runs.{words}

-- buffers and a ring that will do: of the named sizes or longer, and of at most 16 records
abbrev pub LoansWillDo : Type 0
LoansWillDo =
    (keys : KeyRing) (h b q : List ℕ) → head_limit ≤ length h → block_limit ≤ length b → head_limit ≤ length q → keys.count ≤ ring_limit
    → (have_room h b q ≡ true) × (leb keys.count ring_limit ≡ true)

-- what TwoCuttings assumes of two runs: any two cuttings of any stream by the ordinary caller, with answers enough, are such runs
abbrev pub CallersCuttings : Type 0
CallersCuttings =
    (keys : KeyRing) (uri h b q : List ℕ) → have_room h b q ≡ true → leb keys.count ring_limit ≡ true
    → (given : List Bool) (stream lengths lengths' : List ℕ) → length stream ≤ length given
    → events (words keys uri h b q (ordinary_calls keys uri h b q lengths given stream)) ≡ events (words keys uri h b q (ordinary_calls keys uri h b q lengths' given stream))
