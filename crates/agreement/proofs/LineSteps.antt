-- A byte of the first chunk line; where a line leads. Assumes nothing.
use mathlib.Core.Path.{◌≡◌, refl}
use mathlib.Core.Bool.{Bool, true, false, ◌&&◌}
use mathlib.Core.List.{List, [], ◌∷◌, ◌++◌}
use Prim.Native.Nat.{ℕ, zero, suc, ◌+◌, ◌/◌, ◌≤◌, ◌<◌}
use native.Mathlib.Omega.{arith}
use borrow.Author.Tests.{ne_eqb, le-leb, lt-leb, not-true}
use lib.Dec.{leb}
use lib.ListN.{length, set, length-set}
use Rattle.octets.specs.Choice.{pick}
use Rattle.sections.specs.Reading.{go}
use Rattle.sections.specs.Machine.{running, ruling, gathered, step}
use Rattle.sha256.specs.Midstate.{Holds}
use Rattle.chunk.specs.Judging.{line_judged, unless_fault, good_line, carried_by}
use Rattle.stream.specs.Blocks.{is_whole_line, carries_signature, carries_hash, chunk_size, line_hash, is_hash_due, line_rules, line_fault}
use Rattle.stream.specs.Limits.{line_limit}
use Rattle.stream.specs.Lines.{Field}
use Rattle.stream.specs.Places.{line_place}
use Rattle.stream.specs.Range.{first_byte}
use Rattle.stream.specs.Stream.{Show, range, Past, nothing, start_from, start_of, is_whole, announced, unless_broken, judge, judge_first_line, rules}
use Rattle.stream.specs.Stream as C
use Rattle.stream.specs.Terms.{Terms}
use Rattle.stream.proofs.Aligned.{some_block}
use Rattle.stream.proofs.RulesHold.{rules_hold}
use Rattle.stream.proofs.Sound.{SoundShow, Sound, not_whole_empty}
use Rattle.stream.proofs.SoundJudge.{SoundSays, judge_sound}
use Rattle.state.specs.Configuration.{Configuration, on, moved, lined}
use Rattle.line_steps.specs.FirstLine.{starting, first_answered, first_judged, first_gathered, push_first_line}
use Rattle.line_steps.specs.FirstLine as Line
use Rattle.state.specs.declared.phase.Phase.{Phase}
use Rattle.state.specs.declared.phase.Phase.TheVariants as P
use Rattle.state.specs.declared.reader.Chain.{Chain}
use Rattle.state.specs.declared.reader.Reader.{Reader}
use Rattle.agreement.proofs.Stands.{Gathered, Keeps, Counts, Lent, At, Follows}
use Rattle.agreement.proofs.Stands as F
use Rattle.agreement.proofs.Gathering.{none_gathered, gather, short, at_most, still}
use Rattle.agreement.proofs.Refusals.{refuses, line_number}

-- the phase that a line of so many bytes announces stands for the context that it announces
pub announced_at : {terms : Terms} (d : Configuration) (s : Show) (p : Past) (total n : ℕ) → Keeps d.reader.fixed d.head s → Counts d.reader.chain p
    → Sound (announced s p total n) → At terms d (Line.announced n total) (running (announced s p total n) [])
announced_at d s p total zero k c h = F.trailer k c h (none_gathered d.block) (not_whole_empty (C.trailer s p total) h)
announced_at d s p total (suc n) k c h = rw (ne_eqb (suc n) 0 (λ e. omega arith)) (F.block_data k c h (none_gathered d.block) (not_whole_empty (C.block_data s p (suc n)) h))

-- the same where the reader has counted the total
pub announced_by : {terms : Terms} (d : Configuration) (s : Show) (p : Past) (t total n : ℕ) → t ≡ total → Keeps d.reader.fixed d.head s → Counts d.reader.chain p
    → Sound (announced s p total n) → At terms d (Line.announced n t) (running (announced s p total n) [])
announced_by d s p t total n e k c h = rw e (announced_at d s p total n k c h)

-- the first line is judged by what the head said
pub first_judged_lem : (r : Reader) (s : Show) (l : List ℕ) {room : List ℕ} → Keeps r.fixed room s
    → first_judged r l ≡ line_judged s.size (range s) false true (first_byte (range s)) l
unfolding first_judged
first_judged_lem r s l k = λ i. line_judged (k.size i) (k.extent i) false true (first_byte (k.extent i)) l

-- A first line of a part that begins in the middle carries the hash before its first block, which is not the show's first.
started : (s : Show) (c : Chain) (l : List ℕ) (a : ℕ) → SoundShow s → first_byte (range s) ≡ suc a
    → line_fault s.size (range s) false true (first_byte (range s)) l ≡ 0 → Holds c.body []
    → Counts (record { number = record { 0 = suc a / s.size }; hash = carried_by l; body = c.body }) (start_from (suc a) s.size (line_hash l))
unfolding start_from line_fault line_rules is_hash_due
started s c l a sound q e body =
    let rules = rules_hold (line_rules s.size (range s) false true (first_byte (range s)) l) refl e in
    let unsigned : carries_signature l ≡ false = not-true (carries_signature l) rules.1.0 in
    let due : leb 1 (first_byte (range s)) && true ≡ true = rw (q, le-leb 1 (suc a) (omega arith)) in
    let hashed : carries_hash l ≡ true = rw due at rules.1.1.0 in
    let some : 1 ≤ suc a / s.size = some_block s.size (suc a) (rw q at sound.aligned) (omega arith) in
    record { blocks = refl; hash = rw (ne_eqb (suc a / s.size) 0 (λ z. omega arith), unsigned, hashed); body = body }

module _ (terms : Terms) (fields : List Field) (d : Configuration) (x : ℕ) (lent : Lent d fields) (none : d.reader.released ≡ 0) where
  module _ (s : Show) (k : Keeps d.reader.fixed d.head s) (sound : SoundShow s) (zero_blocks : Counts d.reader.chain nothing) (have : ℕ) (g : List ℕ) where
    abbrev l : List ℕ
    l = g ++ x ∷ []

    abbrev d' : Configuration
    d' = lined d (P.FirstLine (have + 1)) (set d.reader.line have x)

    lent' : (q : Phase) → Lent (moved d' q) fields
    lent' q = still lent _ refl refl refl refl (length-set d.reader.line have x)

    -- where the answer's bytes begin
    abbrev a₀ : ℕ
    a₀ = first_byte (range s)

    -- the chain that the first line starts is the reading's
    starts : line_fault s.size (range s) false true a₀ l ≡ 0 → Counts (starting d'.reader (carried_by l)) (start_of s l)
    unfolding start_of start_from
    starts e = by a₀ refl
      where
        by : (a : ℕ) → a₀ ≡ a → Counts (starting d'.reader (carried_by l)) (start_from a s.size (line_hash l))
        by zero q = rw (k.extent, q) zero_blocks
        by (suc a) q = rw (k.extent, q, ne_eqb (suc a) 0 (λ z. omega arith), k.size) (started s d.reader.chain l a sound q e zero_blocks.body)

    answered : (fault : ℕ) → line_fault s.size (range s) false true a₀ l ≡ fault
        → SoundSays (unless_broken fault (line_place l) (go (announced s (start_of s l) 0 (chunk_size l))))
        → Follows terms fields
        (first_answered d' (unless_fault fault l (good_line (chunk_size l) (carried_by l))))
        (ruling (unless_broken fault (line_place l) (go (announced s (start_of s l) 0 (chunk_size l)))))
    unfolding first_answered
    answered zero e h =
        F.on
        (record {
          stands = announced_at _ s (start_of s l) 0 (chunk_size l) k (starts e) h;
          lent = still (lent' (P.FirstLine (have + 1))) _ refl refl refl refl refl;
          taken = none;
        })
    answered (suc n) e h = refuses _ 0 d' (line_number s.size (range s) false true a₀ l n e) (lent' (P.FirstLine (have + 1))) none

    by : (t : Bool) → is_whole (C.first_line s) l ≡ t → length l ≤ line_limit
        → Gathered (set d.reader.line have x) (have + 1) l
        → Follows terms fields (pick t (first_answered d' (first_judged d'.reader l)) (on d'))
        (gathered (rules terms) t (C.first_line s) l)
    unfolding rules judge judge_first_line line_judged
    by true e m a =
        rw (first_judged_lem d'.reader s l k) (answered (line_fault s.size (range s) false true a₀ l) refl (judge_sound terms (C.first_line s) l sound e m))
    by false e m a =
        F.on (record { stands = F.first_line k sound zero_blocks a e; lent = lent' _; taken = none })

    pub first_step : Gathered d.reader.line have g → is_whole (C.first_line s) g ≡ false
        → Follows terms fields (push_first_line d have x) (step (rules terms) (C.first_line s) g x)
    unfolding push_first_line first_gathered step rules is_whole
    first_step a e =
        let m : have < line_limit = rw a.count at (short (C.first_line s) g e) in
        let b = gather d.reader.line g have x a (rw lent.line m) in
        rw (lt-leb line_limit have m, b.bytes) (by (is_whole_line l) refl (at_most (C.first_line s) g x e) b)
