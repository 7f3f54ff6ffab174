-- Laws on gathered bytes, and on what stays as it is while bytes are taken. Assumes nothing.
use mathlib.Core.Path.{◌≡◌, refl, sym, ◌∙◌}
use mathlib.Core.Bool.{Bool, true, false, true≢false}
use mathlib.Core.List.{List, [], ◌∷◌, ◌++◌}
use Prim.Native.Nat.{ℕ, ◌+◌, ◌≤◌, ◌<◌}
use native.Mathlib.Numerals.{add-one}
use native.Mathlib.Omega.{arith}
use borrow.Author.Tests.{leb-true, leb-false}
use lib.Dec.{leb}
use lib.ListN.{length, set, length-append}
use lib.Seq.{take-suc-set}
use Rattle.stream.specs.Lines.{Field}
use Rattle.stream.specs.Stream.{Show, Past, Context, is_whole}
use Rattle.stream.proofs.Sound.{limit_of, whole_at_limit}
use Rattle.state.specs.Configuration.{Configuration, renewed}
use Rattle.state.specs.declared.phase.Phase.{Phase}
use Rattle.agreement.proofs.Stands.{Gathered, Lent, Under}

pub none_gathered : (buffer : List ℕ) → Gathered buffer 0 []
none_gathered buffer = record { bytes = refl; count = refl }

-- a byte more
pub gather : (buffer g : List ℕ) (n x : ℕ) → Gathered buffer n g → n < length buffer → Gathered (set buffer n x) (n + 1) (g ++ x ∷ [])
gather buffer g n x a h =
    record {
      bytes = rw (add-one n, take-suc-set buffer n x h, a.bytes);
      count = rw (length-append g (x ∷ []), a.count);
    }

-- a section that is not whole is shorter than its limit
pub short : (c : Context) (g : List ℕ) → is_whole c g ≡ false → length g < limit_of c
short c g e = by (leb (limit_of c) (length g)) refl
  where
    by : (t : Bool) → leb (limit_of c) (length g) ≡ t → length g < limit_of c
    by true h = absurd (true≢false (sym (whole_at_limit c g (leb-true (limit_of c) (length g) h)) ∙ e))
    by false h = leb-false (limit_of c) (length g) h

-- with the byte that makes it whole it has at most so many
pub at_most : (c : Context) (g : List ℕ) (x : ℕ) → is_whole c g ≡ false → length (g ++ x ∷ []) ≤ limit_of c
at_most c g x e = rw (length-append g (x ∷ [])) (omega (arith, short c g e))

-- another desk with the same head, and buffers of the same lengths
pub still : {d : Configuration} {fields : List Field} → Lent d fields → (d' : Configuration) → d'.head ≡ d.head → d'.reader.fixed.accepted ≡ d.reader.fixed.accepted
    → length d'.block ≡ length d.block → length d'.question ≡ length d.question → length d'.reader.line ≡ length d.reader.line
    → Lent d' fields
still l d' h a b q n =
    record {
      head = rw h l.head;
      block = rw b l.block;
      question = rw q l.question;
      line = n ∙ l.line;
      handed = rw (h, a) l.handed;
    }

-- the block under way, of which no byte changes
pub under_on : {d : Configuration} {s : Show} {past : Past} {size : ℕ} {b : List ℕ} (p : Phase) (line : List ℕ) (d' : Configuration)
    → d'.reader ≡ renewed d.reader p line d.reader.chain → d'.head ≡ d.head → d'.block ≡ d.block → Under d s past size b → Under d' s past size b
under_on {d} p line d' e h f u =
    record {
      keeps = rw (e, h) u.keeps;
      counts = rw e u.counts;
      sound = u.sound;
      bytes = rw f u.bytes;
    }
