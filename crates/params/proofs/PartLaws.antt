-- Parts of a value: what the functions of `parts` answer is what a template's scan makes of those parts. Assumes nothing.
use mathlib.Core.Bool.{Bool, true, false}
use mathlib.Core.List.{List, [], ◌∷◌, ◌++◌, append_assoc}
use mathlib.Core.Path.{◌≡◌, ap, ◌∙◌}
use Prim.Native.Nat.{ℕ, ◌+◌, ◌≤◌, ◌<◌}
use native.Mathlib.Omega.{arith}
use lib.ListN.{length, drop, length-drop}
use Rattle.std.specs.Prelude.{Some, None}
use Rattle.stream.specs.Bytes.{is_blank}
use Rattle.stream.specs.Template.{Part, text, bytes, gap, Scanned, parts, unlike, keep, scan, run, starts_with}
use Rattle.classes.proofs.RunLaws.{run_le}
use Rattle.text.proofs.SameLaws.{starts_within}
use Rattle.classes.proofs.ScanLaws.{scan_text, scan_unlike, scan_bytes_to, scan_gap_to, scan_end, scan_over}
use Rattle.params.specs.Parts.{Inside, onward, Reads, GoesOn}
use Rattle.places.specs.Place.{part_of}
use Rattle.params.specs.declared.parts.Run.{Run}

-- a text at a place, and a run of a class after it
module _ (value : List ℕ) (at : ℕ) (t : List ℕ) where
  abbrev start : ℕ
  start = at + length t

  run_within : at ≤ length value → starts_with t (drop at value) ≡ true → (p : ℕ → Bool) (end : ℕ) → end ≡ start + length (run p (drop start value)) → end ≤ length value
  run_within h e p end f = omega (arith, run_le p (drop start value), length-drop start value, starts_within t value at e h)

  pub run_missing : (p : ℕ → Bool) → starts_with t (drop at value) ≡ false → Reads (text t ∷ bytes p ∷ []) value at None
  run_missing p e = record { meaning = λ ps. scan_unlike (bytes p ∷ ps) value at t e; inside = tt }

  pub run_there : at ≤ length value → starts_with t (drop at value) ≡ true → (p : ℕ → Bool) (end : ℕ) → end ≡ start + length (run p (drop start value))
      → Reads (text t ∷ bytes p ∷ []) value at (Some (record { start = start; end = end; next = end }))
  unfolding part_of
  run_there h e p end f =
      let w = run_within h e p end f in
      record {
        meaning = λ ps. scan_text (bytes p ∷ ps) value at t e ∙ scan_bytes_to ps value start p end f;
        inside = record { ordered = omega arith; ends = w; goes_on = w };
      }

-- a text and a gap after the run r
module _ (value : List ℕ) (r : Run) (t : List ℕ) where
  abbrev with_mark : List Part → List Part
  with_mark first = first ++ text t ∷ gap ∷ []

  -- what the parts make of the value, with what the text and the gap make of the rest of it
  marked : (first : List Part) (at : ℕ) → Reads first value at (Some r) → (ps : List Part) → scan (with_mark first ++ ps) (drop at value) ≡ onward value (Some r) (text t ∷ gap ∷ ps)
  marked first at h ps = rw (append_assoc first (text t ∷ gap ∷ []) ps) (h.meaning (text t ∷ gap ∷ ps))

  mark_scanned : starts_with t (drop r.next value) ≡ true → (end : ℕ) → end ≡ r.next + length t + length (run is_blank (drop (r.next + length t) value))
      → (ps : List Part) → scan (text t ∷ gap ∷ ps) (drop r.next value) ≡ scan ps (drop end value)
  mark_scanned e end f ps = scan_text (gap ∷ ps) value r.next t e ∙ scan_gap_to ps value (r.next + length t) end f

  moved : Inside value r → (end : ℕ) → end ≤ length value → Inside value (record { start = r.start; end = r.end; next = end })
  moved i end h = record { ordered = i.ordered; ends = i.ends; goes_on = h }

  pub mark_missing : starts_with t (drop r.next value) ≡ false → GoesOn value r t None
  mark_missing e = record { meaning = λ first at h. record { meaning = λ ps. marked first at h ps ∙ rw (scan_unlike (gap ∷ ps) value r.next t e); inside = tt }; inside = tt }

  pub mark_there : Inside value r → starts_with t (drop r.next value) ≡ true → (end : ℕ) → end ≡ r.next + length t + length (run is_blank (drop (r.next + length t) value))
      → GoesOn value r t (Some (record { start = r.start; end = r.end; next = end }))
  mark_there i e end f =
      let j = moved i end (run_within value r.next t i.goes_on e is_blank end f) in
      record { meaning = λ first at h. record { meaning = λ ps. marked first at h ps ∙ rw (mark_scanned e end f ps); inside = j }; inside = j }

-- where the first parts are not there, nothing goes on
pub none_on : {first : List Part} {value : List ℕ} {at : ℕ} → Reads first value at None → (more : List Part) → Reads (first ++ more) value at None
none_on {first} h more = record { meaning = λ ps. rw (append_assoc first more ps) (h.meaning (more ++ ps)); inside = tt }

-- ---- what the answers say of a scan

-- two answers, one after the other, and the end of the value
module _ (first second : List Part) (value : List ℕ) where
  abbrev both : Scanned
  both = scan (first ++ (second ++ [])) value

  pub first_none : Reads first value 0 None → both ≡ unlike
  first_none h = h.meaning (second ++ [])

  module _ {r : Run} (h : Reads first value 0 (Some r)) where
    abbrev kept₁ : List ℕ
    kept₁ = part_of value r.start r.end

    pub second_none : Reads second value r.next None → both ≡ unlike
    second_none k = h.meaning (second ++ []) ∙ ap (keep kept₁) (k.meaning [])

    pub second_over : {s : Run} → Reads second value r.next (Some s) → s.next < length value → both ≡ unlike
    second_over {s} k l = h.meaning (second ++ []) ∙ rw (k.meaning [], scan_over value s.next l)

    pub both_read : {s : Run} → Reads second value r.next (Some s) → length value ≤ s.next → both ≡ parts (kept₁ ∷ part_of value s.start s.end ∷ [])
    both_read {s} k l = h.meaning (second ++ []) ∙ rw (k.meaning [], scan_end value s.next l)
