-- What a byte of a block's data, and of the CR LF after it, leaves. Assumes nothing.
use mathlib.Core.Path.{◌≡◌, sym, ◌∙◌}
use mathlib.Core.Bool.{Bool, true, false}
use mathlib.Core.List.{List, [], ◌∷◌, ◌++◌}
use Prim.Native.Nat.{ℕ, zero, suc, ◌<◌}
use native.Mathlib.Omega.{arith}
use borrow.Author.Tests.{lt-leb}
use lib.ListN.{length, get_or}
use lib.Seq.{take-suc}
use Rattle.octets.specs.Choice.{pick}
use Rattle.sections.specs.Reading.{go, stop}
use Rattle.sections.proofs.Marks.{mark_of, ruling_on, gathered_on, move}
use Rattle.refusals.specs.Refusals.{placed}
use Rattle.stream.specs.Buffers.{Buffers, into_block, with_section, pending, effects}
use Rattle.stream.specs.Bytes.{same}
use Rattle.stream.specs.Events.{refused}
use Rattle.stream.specs.Lines.{Field, crlf}
use Rattle.stream.specs.Places.{data_end_place}
use Rattle.stream.specs.Stream.{Show, Past, is_whole, judge, judge_data_end, rules}
use Rattle.stream.specs.Stream as C
use Rattle.stream.specs.Terms.{Terms}
use Rattle.stream.proofs.Sound.{SoundBlock}
use Rattle.state.specs.Configuration.{Configuration, on, moved, refuse}
use Rattle.state.specs.declared.phase.Phase.TheVariants as P
use Rattle.body_steps.specs.Data.{push_data, push_data_end}
use Rattle.agreement.proofs.Stands.{Gathered, Lent, Under}
use Rattle.agreement.proofs.Gathering.{gather, short}
use Rattle.buffers.specs.Left.{buffers_in}
use Rattle.buffers.proofs.Fronts.{within, block_more}
use Rattle.buffers.proofs.Leaves.{Left, after_next, begins, refuses}

module _ (terms : Terms) (fields : List Field) (d : Configuration) (x : ℕ) (lent : Lent d fields) (b : Buffers) where
  -- ---- data

  module _ (s : Show) (p : Past) (have size : ℕ) (g : List ℕ) where
    data_by : (t : Bool) (d' : Configuration) → buffers_in d' ≡ into_block (g ++ x ∷ []) b
        → Left terms d' (mark_of (gathered_on (rules terms) effects t (C.block_data s p size) (g ++ x ∷ []) b))
    unfolding rules judge with_section
    data_by true d' e = begins d' _ e _
    data_by false d' e = record { same = e; waits = tt }

    pub data_leaves : SoundBlock s p size → Gathered d.block have g → is_whole (C.block_data s p size) g ≡ false
        → buffers_in d ≡ with_section (C.block_data s p size) g b
        → Left terms (after_next (push_data d have size x)) (mark_of (move (rules terms) effects (C.block_data s p size) g b x))
    unfolding push_data move with_section rules is_whole
    data_leaves sound a e f =
        let m : have < size = rw a.count at (short (C.block_data s p size) g e) in
        let h : have < length d.block = omega (arith, lent.block, sound.most, sound.show.most) in
        rw (lt-leb (length d.block) have h)
        (data_by (is_whole (C.block_data s p size) (g ++ x ∷ [])) _ (block_more (buffers_in d) b g have x f a.count h))

  -- ---- the CR LF after it

  module _ (s : Show) (p : Past) (size : ℕ) (block : List ℕ) (u : Under d s p size block) where
    end_by : (t : Bool) (l : List ℕ) → buffers_in d ≡ b
        → Left terms (after_next (pick t (on (moved d (P.NextLine 0 size))) (refuse (placed 6 (data_end_place l)) size d)))
        (mark_of (ruling_on (rules terms) effects (C.data_end s p block) l (elim t [ true ↦ go (C.next_line s p block) | false ↦ stop (refused 6 (data_end_place l)) ]) b))
    unfolding pending
    end_by true l f = begins _ b f _
    end_by false l f = refuses d b f _ size (C.data_end s p block) l (sym u.bytes.count) (within u.bytes)

    pub end_leaves : (have : ℕ) (g : List ℕ) → Gathered d.reader.line have g → is_whole (C.data_end s p block) g ≡ false
        → buffers_in d ≡ with_section (C.data_end s p block) g b
        → Left terms (after_next (push_data_end d have size x)) (mark_of (move (rules terms) effects (C.data_end s p block) g b x))
    unfolding push_data_end move rules is_whole judge judge_data_end with_section
    end_leaves zero g a e f =
        let c = gather d.reader.line g 0 x a (rw lent.line (omega arith)) in
        rw c.count (record { same = f; waits = tt })
    end_leaves (suc zero) g a e f =
        let h : 0 < length d.reader.line = rw lent.line (omega arith) in
        let k : g ≡ get_or d.reader.line 0 0 ∷ [] = sym a.bytes ∙ take-suc d.reader.line 0 0 h in
        rw k (end_by (same (get_or d.reader.line 0 0 ∷ x ∷ []) crlf) _ f)
    end_leaves (suc (suc n)) g a e f = absurd (omega (arith, short (C.data_end s p block) g e, a.count))
