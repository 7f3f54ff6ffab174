-- Blanks taken off the ends of a text, and what is left. Assumes nothing.
use mathlib.Core.Path.{◌≡◌, sym, ap, ◌∙◌}
use mathlib.Core.List.{List, ◌++◌, reverse, reverse-append, reverse-reverse}
use Prim.Native.Nat.{ℕ, ◌-◌, ◌≤◌}
use native.Mathlib.Omega.{arith}
use lib.ListN.{length, take, drop, length-drop, length-reverse, take-append-drop}
use lib.Seq.{drop_at}
use Rattle.stream.specs.Bytes.{is_blank}
use Rattle.stream.specs.Lines.{trimmed}
use Rattle.stream.specs.Template.{run, past}
use Rattle.classes.specs.Span.{span_of}
use Rattle.places.specs.declared.Span.{Span}
use Rattle.classes.proofs.RunLaws.{past_drop, run_le}

abbrev pub span : ℕ → ℕ → Span
span start end = record { start = start; end = end }

-- the span's part of the text is the trimmed text

reverse_drop : (m : List ℕ) (k : ℕ) → k ≤ length m → reverse (drop k (reverse m)) ≡ take (length m - k) m
reverse_drop m k h =
    let j = length m - k in
    let e : length (reverse (drop j m)) ≡ k = omega (arith, length-reverse (drop j m), length-drop j m) in
    let f : reverse m ≡ reverse (drop j m) ++ reverse (take j m) = ap reverse (sym (take-append-drop j m)) ∙ reverse-append (take j m) (drop j m) in
    rw (f, drop_at (reverse (drop j m)) (reverse (take j m)) k e) (reverse-reverse (take j m))

module _ (l : List ℕ) where
  abbrev rest : List ℕ
  rest = past is_blank l

  -- how many bytes come after the blanks in front
  rest_long : length rest ≡ length l - length (run is_blank l)
  rest_long = ap length (past_drop is_blank l) ∙ length-drop (length (run is_blank l)) l

  blanks_fit : length (run is_blank (reverse rest)) ≤ length rest
  blanks_fit = omega (arith, run_le is_blank (reverse rest), length-reverse rest)

  pub span_order : (span_of l).start ≤ (span_of l).end
  unfolding span_of
  span_order = omega (arith, rest_long, blanks_fit, run_le is_blank l)

  pub span_within : (span_of l).end ≤ length l
  unfolding span_of
  span_within = omega arith

  pub span_trims : take ((span_of l).end - (span_of l).start) (drop (span_of l).start l) ≡ trimmed l
  unfolding span_of trimmed
  span_trims =
      let k = length (run is_blank (reverse rest)) in
      let n = length (run is_blank l) in
      let e : length l - k - n ≡ length rest - k = omega (arith, rest_long) in
      rw (e, ← past_drop is_blank l) (sym (ap reverse (past_drop is_blank (reverse rest)) ∙ reverse_drop rest k blanks_fit))
