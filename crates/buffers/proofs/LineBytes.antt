-- What a byte of a chunk line leaves: lines go into no buffer, and a good line after a block writes the block's question. Assumes nothing.
use mathlib.Core.Path.{◌≡◌, refl, sym, ap, ◌∙◌}
use mathlib.Core.Bool.{Bool, true, false}
use mathlib.Core.List.{List, [], ◌∷◌, ◌++◌}
use Prim.Native.Nat.{ℕ, zero, suc, ◌+◌, ◌<◌}
use native.Mathlib.Omega.{arith}
use borrow.Author.Tests.{lt-leb}
use lib.Dec.{eqb}
use lib.ListN.{length, set}
use Rattle.octets.specs.Choice.{pick}
use Rattle.sections.specs.Reading.{go}
use Rattle.sections.proofs.Marks.{mark_of, ruling_on, gathered_on, move}
use Rattle.chunk.specs.Judging.{line_judged, unless_fault, good_line, carried_by}
use Rattle.number.specs.Writing.{Written}
use Rattle.stream.specs.Blocks.{is_whole_line, chunk_size, line_fault, chained, block_message}
use Rattle.stream.specs.Buffers.{Buffers, front, with_section, with_message, pending, effects}
use Rattle.stream.specs.Limits.{line_limit}
use Rattle.stream.specs.Lines.{Field}
use Rattle.stream.specs.Places.{line_place}
use Rattle.stream.specs.Range.{first_byte}
use Rattle.stream.specs.Stream.{Show, range, Past, start_of, is_whole, announced, unless_broken, judge, judge_first_line, judge_next_line, block_offset, body_with, block_question, accept_block, rules}
use Rattle.stream.specs.Stream as C
use Rattle.stream.specs.Terms.{Terms}
use Rattle.state.specs.Configuration.{Configuration, on, lined}
use Rattle.state.specs.declared.phase.Phase.TheVariants as P
use Rattle.line_steps.specs.FirstLine.{first_answered, first_judged, first_gathered, push_first_line}
use Rattle.line_steps.specs.NextLine.{next_judged, message_now, next_answered, next_gathered, push_next_line}
use Rattle.line_steps.specs.NextLine as Line
use Rattle.agreement.proofs.Stands.{Gathered, Keeps, Lent, Under}
use Rattle.agreement.proofs.Gathering.{gather, short}
use Rattle.agreement.proofs.LineSteps.{first_judged_lem}
use Rattle.agreement.proofs.NextSteps.{message_is, judged_is}
use Rattle.buffers.specs.Left.{buffers, buffers_in}
use Rattle.buffers.proofs.Fronts.{within}
use Rattle.buffers.proofs.Leaves.{Left, after_next, begins, refuses}

module _ (terms : Terms) (fields : List Field) (d : Configuration) (x : ℕ) (lent : Lent d fields) (b : Buffers) (f : buffers_in d ≡ b) (have : ℕ) (g : List ℕ) where
  abbrev l : List ℕ
  l = g ++ x ∷ []

  abbrev line : List ℕ
  line = set d.reader.line have x

  -- ---- the first line

  module _ (s : Show) (k : Keeps d.reader.fixed d.head s) where
    abbrev first : Configuration
    first = lined d (P.FirstLine (have + 1)) line

    first_answered_lem : (fault : ℕ)
        → Left terms
        (after_next (first_answered first (unless_fault fault l (good_line (chunk_size l) (carried_by l)))))
        (mark_of (ruling_on (rules terms) effects (C.first_line s) l (unless_broken fault (line_place l) (go (announced s (start_of s l) 0 (chunk_size l)))) b))
    unfolding first_answered pending
    first_answered_lem zero = begins _ b f _
    first_answered_lem (suc n) = refuses first b f _ 0 (C.first_line s) l refl (omega arith)

    first_by : (t : Bool)
        → Left terms (after_next (pick t (first_answered first (first_judged first.reader l)) (on first)))
        (mark_of (gathered_on (rules terms) effects t (C.first_line s) l b))
    unfolding rules judge judge_first_line line_judged with_section
    first_by true =
        rw (first_judged_lem first.reader s l k) (first_answered_lem (line_fault s.size (range s) false true (first_byte (range s)) l))
    first_by false = record { same = f; waits = tt }

    pub first_leaves : Gathered d.reader.line have g → is_whole (C.first_line s) g ≡ false
        → Left terms (after_next (push_first_line d have x)) (mark_of (move (rules terms) effects (C.first_line s) g b x))
    unfolding push_first_line first_gathered move rules is_whole
    first_leaves a e =
        let m : have < line_limit = rw a.count at (short (C.first_line s) g e) in
        let c = gather d.reader.line g have x a (rw lent.line m) in
        rw (lt-leb line_limit have m, c.bytes) (first_by (is_whole_line l))

  -- ---- the line after a block

  module _ (none : d.reader.released ≡ 0) (s : Show) (p : Past) (size : ℕ) (block : List ℕ) (u : Under d s p size block) where
    abbrev next : Configuration
    next = lined d (P.NextLine (have + 1) size) line

    abbrev message : List ℕ
    message = block_message s.id (block_offset s p) (chained p.hash block)

    -- the message lies at the front of the question buffer, with nothing after it
    written_is : (message_now next size).bytes ≡ front message b.question
    written_is =
        ap (λ (w : Written). w.bytes) (message_is terms fields d x lent none s p size block u have g)
        ∙ ap (λ (t : Buffers). front message t.question) f

    asked_left : Left terms (after_next (Line.asked next size (chunk_size l) (carried_by l)))
        (mark_of (ruling_on (rules terms) effects (C.next_line s p block) l (accept_block s p block l) b))
    unfolding Line.asked accept_block block_question with_message pending
    asked_left =
        let w = written_is in
        record { same = λ i. buffers (f i).head (f i).block (w i); waits = sym u.bytes.count }

    next_answered_lem : (fault : ℕ)
        → Left terms
        (after_next (next_answered next size (unless_fault fault l (good_line (chunk_size l) (carried_by l)))))
        (mark_of (ruling_on (rules terms) effects (C.next_line s p block) l (unless_broken fault (line_place l) (accept_block s p block l)) b))
    unfolding next_answered pending
    next_answered_lem zero = asked_left
    next_answered_lem (suc n) = refuses next b f _ size (C.next_line s p block) l (sym u.bytes.count) (within u.bytes)

    next_by : (t : Bool)
        → Left terms
        (after_next (pick t (next_answered next size (next_judged next.reader size l)) (on next)))
        (mark_of (gathered_on (rules terms) effects t (C.next_line s p block) l b))
    unfolding rules judge judge_next_line line_judged with_section
    next_by true =
        rw (judged_is terms fields d x lent none s p size block u have g)
        (next_answered_lem (line_fault s.size (range s) true (eqb (length block) s.size) (body_with s p block) l))
    next_by false = record { same = f; waits = tt }

    pub next_leaves : Gathered d.reader.line have g → is_whole (C.next_line s p block) g ≡ false
        → Left terms (after_next (push_next_line d have size x)) (mark_of (move (rules terms) effects (C.next_line s p block) g b x))
    unfolding push_next_line next_gathered move rules is_whole
    next_leaves a e =
        let m : have < line_limit = rw a.count at (short (C.next_line s p block) g e) in
        let c = gather d.reader.line g have x a (rw lent.line m) in
        rw (lt-leb line_limit have m, c.bytes) (next_by (is_whole_line l))
