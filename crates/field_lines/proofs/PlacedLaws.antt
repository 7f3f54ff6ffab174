-- The lines of a text with their places, one after the other. Assumes nothing.
use mathlib.Core.Path.{◌≡◌, refl, sym, ap, ◌∙◌}
use mathlib.Core.List.{List, [], ◌∷◌, map}
use Prim.Native.Nat.{ℕ, ◌+◌, ◌-◌, ◌≤◌, ◌<◌}
use native.Mathlib.Omega.{arith}
use lib.ListN.{length, take, drop, length-take, length-drop}
use Rattle.std.specs.Borrow.{Bor}
use Rattle.std.specs.Prelude.{None, Some}
use Rattle.std.proofs.lemmas.Iterator.{YieldsList}
use Rattle.std.proofs.lemmas.Iterator.Consumers.{YieldsList-from_shown}
use Rattle.places.specs.Place.{part_of}
use Rattle.stream.specs.Lines.{text_lines}
use Rattle.text.specs.Line.{line_length}
use Rattle.text.proofs.LineLaws.{line_le, text_none, text_end, text_first}
use Rattle.field_lines.specs.Placed.{placed_from, placed_lines, line_item, lines_left, GivesLine}
use Rattle.field_lines.specs.declared.lines.Lines.{Lines}

no_more : (l : List ℕ) → line_length l ≡ 0 → text_lines l ≡ []
no_more [] e = text_none [] 0 (omega arith)
no_more (b ∷ l) e = text_end (b ∷ l) 0 0 (omega arith) (omega (arith, e)) refl

-- the line from i up to e
module _ (s : List ℕ) (i e : ℕ) (f : e ≡ i + line_length (drop i s)) where
  pub placed_end : e ≡ i → placed_lines s i ≡ []
  unfolding placed_lines placed_from
  placed_end h = rw (no_more (drop i s) (omega (arith, f)))

  module _ (h : e ≡ i → ⊥) where
    pub line_part : (i < e) × (i < length s) × (e ≤ length s)
    line_part = (omega (arith, h, f), omega (arith, h, f, line_le (drop i s), length-drop i s), omega (arith, f, line_le (drop i s), length-drop i s))

    pub placed_first : placed_lines s i ≡ (i, take (e - i) (drop i s)) ∷ placed_lines s (e + 2)
    unfolding placed_lines placed_from
    placed_first =
        let n : i + length (take (e - i) (drop i s)) + 2 ≡ e + 2 = omega (arith, length-take (e - i) (drop i s), length-drop i s, line_part) in
        rw (text_first s i e line_part.1 f line_part.0, n)

-- a call of `next`, where a line ends at e
module _ (l : Lines) (e : ℕ) (f : e ≡ l.next + line_length (drop l.next l.text.now)) where
  pub gives_none : e ≡ l.next → GivesLine l None l
  gives_none h = let n = placed_end l.text.now l.next e f h in record { first = (n, n); same_text = refl; lies = tt }

  pub gives_line : (e ≡ l.next → ⊥) → (line : Bor (List ℕ)) → line.now ≡ take (e - l.next) (drop l.next l.text.now) → GivesLine l (Some (l.next, line)) (record { text = l.text; next = e + 2 })
  unfolding part_of
  gives_line h line q =
      let w = line_part l.text.now l.next e f h in
      let k : length line.now ≡ e - l.next = rw q (omega (arith, length-take (e - l.next) (drop l.next l.text.now), length-drop l.next l.text.now, w)) in
      let n : l.next + (e - l.next) ≡ e = omega (arith, w) in
      record { first = rw q (placed_first l.text.now l.next e f h); same_text = refl; lies = (omega (arith, k, w), rw (k, n) q) }

-- what an iterator over them gives, from where those are left
pub lines_given : (l : Lines) (s : List ℕ) (i : ℕ) → l.text.now ≡ s → l.next ≡ i → YieldsList GivesLine line_item l (placed_lines s i)
lines_given l s i p q =
    let e : lines_left l ≡ placed_lines s i = rw (p, q) in
    rw (← e) (YieldsList-from_shown GivesLine line_item lines_left (λ a b g. ap length g.first.0) (λ a x b g. g.first) l)

-- ---- what a turn over them learns of the lines

lines_placed : (i : ℕ) (ls : List (List ℕ)) → map (λ (p : ℕ × List ℕ). p.1) (placed_from i ls) ≡ ls
unfolding placed_from
lines_placed i [] = refl
lines_placed i (l ∷ ls) = ap (λ (ks : List (List ℕ)). l ∷ ks) (lines_placed (i + length l + 2) ls)

abbrev pub lines_in : Lines → List (List ℕ)
lines_in l = text_lines (drop l.next l.text.now)

module _ (l m : Lines) where
  in_lines : (k : Lines) → map (λ (p : ℕ × List ℕ). p.1) (lines_left k) ≡ lines_in k
  unfolding placed_lines
  in_lines k = lines_placed k.next (lines_in k)

  pub line_given : (x : ℕ × Bor (List ℕ)) → GivesLine l (Some x) m → lines_in l ≡ x.1.now ∷ lines_in m
  line_given x g = sym (in_lines l) ∙ ap (map (λ (p : ℕ × List ℕ). p.1)) g.first ∙ ap (λ (ks : List (List ℕ)). x.1.now ∷ ks) (in_lines m)

  pub no_line_given : GivesLine l None m → lines_in l ≡ []
  no_line_given g = sym (in_lines l) ∙ ap (map (λ (p : ℕ × List ℕ). p.1)) g.first.0
