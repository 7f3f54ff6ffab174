-- The names of some spans. Assumes nothing.
use mathlib.Core.Bool.{Bool, true, false, ◌&&◌, ◌||◌}
use mathlib.Core.List.{List, [], ◌∷◌, ◌++◌, map}
use mathlib.Core.Path.{◌≡◌, refl, ap}
use Prim.Native.Nat.{ℕ, zero, suc, ◌+◌, ◌≤◌, ◌<◌}
use native.Mathlib.Omega.{arith}
use borrow.Author.Tests.{eqb-true, eqb-false}
use lib.Dec.{eqb}
use lib.ListN.{length, get_or, set, take, drop, length-map, length-take}
use lib.Seq.{get_or-set_same, get_or-set_other}
use Rattle.std.proofs.lemmas.List.{take_more_set, map-append}
use Rattle.std.specs.List.{list_all, list_any}
use Rattle.stream.specs.Bytes.{same_name}
use Rattle.stream.specs.Fields.{among, has_field, is_doubled}
use Rattle.stream.specs.Lines.{Field}
use Rattle.stream.specs.Signatures.{are_fields}
use Rattle.places.specs.declared.Span.{Span}
use Rattle.names.specs.NameList.{span_bytes, no_span, SpansWithin}

-- ---- searches over the names of spans

module _ (l : List ℕ) where
  abbrev pub names_of : List Span → List (List ℕ)
  names_of spans = map (span_bytes l) spans

  pub any_name : (name : List ℕ) (spans : List Span) → list_any (λ (s : Span). same_name name (span_bytes l s)) spans ≡ among name (names_of spans)
  unfolding among
  any_name name [] = refl
  any_name name (s ∷ spans) = ap (λ (t : Bool). same_name name (span_bytes l s) || t) (any_name name spans)

  pub all_names : (fs : List Field) (spans : List Span) → list_all (λ (s : Span). has_field (span_bytes l s) fs) spans ≡ are_fields fs (names_of spans)
  unfolding are_fields
  all_names fs [] = refl
  all_names fs (s ∷ spans) = ap (λ (t : Bool). has_field (span_bytes l s) fs && t) (all_names fs spans)

  pub names_dropped : (k : ℕ) (spans : List Span) → names_of (drop k spans) ≡ drop k (names_of spans)
  names_dropped zero spans = refl
  names_dropped (suc k) [] = refl
  names_dropped (suc k) (s ∷ spans) = names_dropped k spans

  pub name_of : (spans : List Span) (i : ℕ) (s : Span) → i < length spans → s ≡ get_or spans i s → get_or (names_of spans) i [] ≡ span_bytes l s
  name_of [] i s h e = absurd (omega arith)
  name_of (t ∷ spans) zero s h e = rw e
  name_of (t ∷ spans) (suc i) s h e = name_of spans i s (omega arith) e

  pub none_doubled : is_doubled (names_of []) ≡ false
  unfolding is_doubled
  none_doubled = refl

  pub doubled_on : (s : Span) (spans : List Span) (t : Bool) → t ≡ among (span_bytes l s) (names_of spans) → is_doubled (names_of (s ∷ spans)) ≡ t || is_doubled (names_of spans)
  unfolding is_doubled
  doubled_on s spans t h = rw h

  pub among_past : (n : List ℕ) (s : Span) (spans : List Span) (t : Bool) → t ≡ same_name n (span_bytes l s) → among n (names_of (s ∷ spans)) ≡ t || among n (names_of spans)
  unfolding among
  among_past n s spans t h = rw h

  pub none_among : (n : List ℕ) → among n (names_of []) ≡ false
  unfolding among
  none_among n = refl

-- ---- one span more

abbrev pub first_names : List ℕ → List Span → ℕ → List (List ℕ)
first_names l spans k = names_of l (take k spans)

pub names_length : (l : List ℕ) (spans : List Span) (k : ℕ) → k ≤ length spans → length (first_names l spans k) ≡ k
names_length l spans k h = omega (arith, length-map (take k spans) (span_bytes l), length-take k spans)

module _ (l : List ℕ) (spans : List Span) (x : Span) (at : ℕ) (h : at < length spans) where
  pub names_more : first_names l (set spans at x) (at + 1) ≡ first_names l spans at ++ (span_bytes l x ∷ [])
  names_more = rw (take_more_set spans at x h, map-append)

  -- span i after the write, by whether it was written
  by_place : (P : Span → Type 0) → P x → ((i : ℕ) → P (get_or spans i no_span)) → (i : ℕ) → P (get_or (set spans at x) i no_span)
  by_place P p q i = go (eqb i at) refl
    where
      go : (t : Bool) → eqb i at ≡ t → P (get_or (set spans at x) i no_span)
      go true e =
          let f : i ≡ at = eqb-true i at e in
          rw (f, get_or-set_same spans at x no_span h) p
      go false e = rw (get_or-set_other spans at i x no_span (eqb-false i at e)) (q i)

  pub within_set : SpansWithin l spans → x.start ≤ x.end → x.end ≤ length l → SpansWithin l (set spans at x)
  within_set w p q =
      record {
        ordered = by_place (λ (s : Span). s.start ≤ s.end) p w.ordered;
        ends = by_place (λ (s : Span). s.end ≤ length l) q w.ends;
      }
