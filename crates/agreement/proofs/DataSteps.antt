-- A byte of a block's data, and of the CR LF after it. Assumes nothing.
use mathlib.Core.Path.{◌≡◌, refl, sym, ◌∙◌}
use mathlib.Core.Bool.{Bool, true, false}
use mathlib.Core.List.{List, [], ◌∷◌, ◌++◌}
use Prim.Native.Nat.{ℕ, zero, suc, ◌+◌, ◌<◌}
use native.Mathlib.Omega.{arith}
use borrow.Author.Tests.{leb-true, lt-leb}
use lib.Dec.{leb}
use lib.ListN.{length, set, get_or, length-set}
use lib.Seq.{take-suc}
use Rattle.octets.specs.Choice.{pick}
use Rattle.sections.specs.Reading.{go, stop}
use Rattle.sections.specs.Machine.{ruling, gathered, step}
use Rattle.refusals.specs.Refusals.{placed}
use Rattle.stream.specs.Bytes.{same}
use Rattle.stream.specs.Events.{refused}
use Rattle.stream.specs.Lines.{Field, crlf}
use Rattle.stream.specs.Places.{data_end_place}
use Rattle.stream.specs.Stream.{Show, Past, is_whole, judge, judge_data_end, rules}
use Rattle.stream.specs.Stream as C
use Rattle.stream.specs.Terms.{Terms}
use Rattle.stream.proofs.Sound.{SoundBlock, not_whole_empty}
use Rattle.state.specs.Configuration.{Configuration, configuration, in_phase, on, moved, refuse}
use Rattle.body_steps.specs.Data.{push_data, push_data_end}
use Rattle.state.specs.declared.phase.Phase.{Phase}
use Rattle.state.specs.declared.phase.Phase.TheVariants as P
use Rattle.agreement.proofs.Stands.{Gathered, Keeps, Counts, Lent, Under, Follows}
use Rattle.agreement.proofs.Stands as F
use Rattle.agreement.proofs.Gathering.{none_gathered, gather, short, still, under_on}
use Rattle.agreement.proofs.Refusals.{refuses}

module _ (terms : Terms) (fields : List Field) (d : Configuration) (x : ℕ) (lent : Lent d fields) (none : d.reader.released ≡ 0) (s : Show) (p : Past) where
  -- ---- data

  module _ (have size : ℕ) (g : List ℕ) (k : Keeps d.reader.fixed d.head s) (c : Counts d.reader.chain p) (sound : SoundBlock s p size) where
    abbrev filled : Phase → Configuration
    filled q = configuration (in_phase d.reader q) d.head (set d.block have x) d.question

    data_by : (t : Bool) → leb size (have + 1) ≡ t → have < size → length (g ++ x ∷ []) ≡ have + 1 → Gathered (set d.block have x) (have + 1) (g ++ x ∷ [])
        → Follows terms fields (on (filled (pick t (P.DataEnd 0 size) (P.Data (have + 1) size)))) (gathered (rules terms) t (C.block_data s p size) (g ++ x ∷ []))
    unfolding rules judge is_whole
    data_by true e m n a =
        let z : have + 1 ≡ size = omega (arith, leb-true size (have + 1) e) in
        F.on
        (record {
          stands =
              F.data_end {b = g ++ x ∷ []}
              (record { keeps = k; counts = c; sound = rw (n, z) sound; bytes = rw z at a })
              (none_gathered d.reader.line) refl;
          lent = still lent _ refl refl (length-set d.block have x) refl refl;
          taken = none;
        })
    data_by false e m n a =
        F.on
        (record {
          stands = F.block_data k c sound a (rw n e);
          lent = still lent _ refl refl (length-set d.block have x) refl refl;
          taken = none;
        })

    pub data_step : Gathered d.block have g → is_whole (C.block_data s p size) g ≡ false
        → Follows terms fields (push_data d have size x) (step (rules terms) (C.block_data s p size) g x)
    unfolding push_data step rules is_whole
    data_step a e =
        let m : have < size = rw a.count at (short (C.block_data s p size) g e) in
        let h : have < length d.block = omega (arith, lent.block, sound.most, sound.show.most) in
        let b = gather d.block g have x a h in
        rw (lt-leb (length d.block) have h, b.count) (data_by (leb size (have + 1)) refl m b.count b)

  -- ---- the CR LF after it

  module _ (size : ℕ) (b : List ℕ) (u : Under d s p size b) where
    end_by : (l : List ℕ) (t : Bool) → Follows terms fields (pick t (on (moved d (P.NextLine 0 size))) (refuse (placed 6 (data_end_place l)) size d))
        (ruling (elim t [ true ↦ go (C.next_line s p b) | false ↦ stop (refused 6 (data_end_place l)) ]))
    unfolding is_whole
    end_by l true =
        F.on
        (record {
          stands = F.next_line (under_on _ _ _ refl refl refl u) (none_gathered d.reader.line) (not_whole_empty (C.next_line s p b) u.sound);
          lent = still lent _ refl refl refl refl refl;
          taken = none;
        })
    end_by l false = refuses _ size d (omega arith) lent none

    pub end_step : (have : ℕ) (g : List ℕ) → Gathered d.reader.line have g → is_whole (C.data_end s p b) g ≡ false
        → Follows terms fields (push_data_end d have size x) (step (rules terms) (C.data_end s p b) g x)
    unfolding push_data_end step rules is_whole judge judge_data_end
    end_step zero g a e =
        let c = gather d.reader.line g 0 x a (rw lent.line (omega arith)) in
        rw c.count
        (F.on
        (record {
          stands = F.data_end (under_on _ _ _ refl refl refl u) c (rw c.count refl);
          lent = still lent _ refl refl refl refl (length-set d.reader.line 0 x);
          taken = none;
        }))
    end_step (suc zero) g a e =
        let h : 0 < length d.reader.line = rw lent.line (omega arith) in
        let f : g ≡ get_or d.reader.line 0 0 ∷ [] = sym a.bytes ∙ take-suc d.reader.line 0 0 h in
        rw f (end_by (get_or d.reader.line 0 0 ∷ x ∷ []) (same (get_or d.reader.line 0 0 ∷ x ∷ []) crlf))
    end_step (suc (suc n)) g a e = absurd (omega (arith, short (C.data_end s p b) g e, a.count))
