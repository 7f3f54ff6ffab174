-- A text split at its spaces, name by name. Assumes nothing.
use mathlib.Core.Bool.{Bool, true, false}
use mathlib.Core.List.{List, [], ◌∷◌, ◌++◌}
use mathlib.Core.Path.{Path, ◌≡◌, refl, ap, ◌∙◌}
use Prim.Native.Nat.{ℕ, zero, suc, ◌+◌, ◌≤◌, ◌<◌, min}
use native.Mathlib.Nat.{suc-add, add-sub_cancel_left}
use native.Mathlib.Omega.{arith}
use borrow.Author.Tests.{le-leb, lt-leb}
use lib.Dec.{eqb}
use lib.ListN.{length, get_or, set, take, drop, replicate, length-append, length-drop, length-take}
use lib.Seq.{drop-drop, append_snoc}
use Rattle.std.specs.Prelude.{Option, None, Some}
use Rattle.std.specs.List.{prefix_len}
use Rattle.stream.specs.Lines.{in_front}
use Rattle.stream.specs.Signatures.{split_names}
use Rattle.stream.specs.Template.{run}
use Rattle.places.specs.declared.Span.{Span}
use Rattle.classes.proofs.RunLaws.{run_cons, run_le}
use Rattle.names.specs.NameList.{is_name_byte, no_span, names_in, name_list_of, SpansWithin}
use Rattle.places.specs.Place.{part_of}
use Rattle.names.proofs.SpanLaws.{first_names, names_length, names_more, within_set}

-- ---- the first name of a text: n bytes, and what comes after the space

abbrev name_length : List ℕ → ℕ
name_length l = length (run is_name_byte l)

split_space : (b : ℕ) (l : List ℕ) → eqb b 32 ≡ true → split_names (b ∷ l) ≡ [] ∷ split_names l
unfolding split_names
split_space b l e = rw (e, split_names)

split_byte : (b : ℕ) (l : List ℕ) → eqb b 32 ≡ false → split_names (b ∷ l) ≡ in_front b (split_names l)
unfolding split_names
split_byte b l e = rw (e, split_names)

space_ends : (b : ℕ) (l : List ℕ) → eqb b 32 ≡ true → name_length (b ∷ l) ≡ 0
space_ends b l e = rw (run_cons is_name_byte b l false (rw e))

byte_goes_on : (b : ℕ) (l : List ℕ) → eqb b 32 ≡ false → name_length (b ∷ l) ≡ suc (name_length l)
byte_goes_on b l e = rw (run_cons is_name_byte b l true (rw e))

split_last : (l : List ℕ) → length l ≤ name_length l → split_names l ≡ take (name_length l) l ∷ []
unfolding split_names run
split_last [] h = refl
split_last (b ∷ l) h = go (eqb b 32) refl (split_last l)
  where
    go : (t : Bool) → eqb b 32 ≡ t → (length l ≤ name_length l → split_names l ≡ take (name_length l) l ∷ []) → split_names (b ∷ l) ≡ take (name_length (b ∷ l)) (b ∷ l) ∷ []
    go true e ih = absurd (omega (arith, space_ends b l e))
    go false e ih = rw (byte_goes_on b l e, split_byte b l e, ih (omega (arith, byte_goes_on b l e)))

split_more : (l : List ℕ) → name_length l < length l → split_names l ≡ take (name_length l) l ∷ split_names (drop (name_length l + 1) l)
unfolding run
split_more [] h = absurd (omega arith)
split_more (b ∷ l) h = go (eqb b 32) refl (split_more l)
  where
    go : (t : Bool) → eqb b 32 ≡ t → (name_length l < length l → split_names l ≡ take (name_length l) l ∷ split_names (drop (name_length l + 1) l)) → split_names (b ∷ l) ≡ take (name_length (b ∷ l)) (b ∷ l) ∷ split_names (drop (name_length (b ∷ l) + 1) (b ∷ l))
    go true e ih = rw (space_ends b l e, split_space b l e)
    go false e ih = rw (byte_goes_on b l e, suc-add, split_byte b l e, ih (omega (arith, byte_goes_on b l e)))

-- the name from start on, which goes up to end
module _ (l : List ℕ) (start end : ℕ) (f : end ≡ start + name_length (drop start l)) where
  name_within : start ≤ length l → end ≤ length l
  name_within h = omega (arith, run_le is_name_byte (drop start l), length-drop start l)

  name_last : length l ≤ end → split_names (drop start l) ≡ part_of l start end ∷ []
  unfolding part_of
  name_last h = rw (f, add-sub_cancel_left) (split_last (drop start l) (omega (arith, length-drop start l)))

  name_more : end < length l → split_names (drop start l) ≡ part_of l start end ∷ split_names (drop (end + 1) l)
  unfolding part_of
  name_more h =
      let n = name_length (drop start l) in
      let e : start + (n + 1) ≡ start + n + 1 = omega arith in
      rw (f, add-sub_cancel_left, ← e, ← drop-drop (n + 1) start l) (split_more (drop start l) (omega (arith, length-drop start l)))

-- ---- a turn: the name from start up to end becomes span `count`

module _ (l : List ℕ) (spans : List Span) (count start end : ℕ) (f : end ≡ start + name_length (drop start l)) (room : count < length spans) where
  abbrev spans' : List Span
  spans' = set spans count (record { start = start; end = end })

  pub turn_within : start ≤ length l → SpansWithin l spans → SpansWithin l spans'
  turn_within h w = within_set l spans _ count room w (omega arith) (name_within l start end f h)

  module _ (e : split_names l ≡ first_names l spans count ++ split_names (drop start l)) where
    pub turn_last : length l ≤ end → split_names l ≡ first_names l spans' (count + 1)
    turn_last h = e ∙ rw (name_last l start end f h, names_more l spans (record { start = start; end = end }) count room)

    pub turn_more : end < length l → split_names l ≡ first_names l spans' (count + 1) ++ split_names (drop (end + 1) l)
    turn_more h = e ∙ rw (name_more l start end f h, names_more l spans (record { start = start; end = end }) count room, append_snoc)

-- ---- the answers

some_name : (l : List ℕ) → 1 ≤ length (split_names l)
unfolding split_names
some_name [] = omega arith
some_name (b ∷ l) = go (eqb b 32) refl
  where
    front : (ls : List (List ℕ)) → 1 ≤ length (in_front b ls)
    front [] = omega arith
    front (m ∷ ls) = omega arith

    go : (t : Bool) → eqb b 32 ≡ t → 1 ≤ length (split_names (b ∷ l))
    go true e = rw (split_space b l e) (omega arith)
    go false e = rw (split_byte b l e) (front (split_names l))

module _ (l : List ℕ) (spans : List Span) (count : ℕ) (w : length spans ≡ 32) (c : count ≤ 32) where
  -- all names are read
  pub list_good : split_names l ≡ first_names l spans count → Path (Option (List (List ℕ))) (Some (names_in l (record { count = count; spans = spans }))) (name_list_of l)
  unfolding names_in name_list_of
  list_good e =
      let m : min count 32 ≡ count = omega arith in
      let k : length (split_names l) ≤ 32 = omega (arith, ap length e, names_length l spans count (omega arith)) in
      rw (m, le-leb (length (split_names l)) 32 k, e)

  -- there are 32, and more after them
  pub list_long : (rest : List ℕ) → split_names l ≡ first_names l spans count ++ split_names rest → 32 ≤ count → Path (Option (List (List ℕ))) None (name_list_of l)
  unfolding name_list_of
  list_long rest e h =
      let k : 32 < length (split_names l) =
      omega (arith, ap length e, length-append (first_names l spans count) (split_names rest), names_length l spans count (omega arith), some_name rest) in
      rw (lt-leb (length (split_names l)) 32 k)

-- the spans at the start, none of which is used
none_at : (n i : ℕ) → get_or (replicate n no_span) i no_span ≡ no_span
none_at zero i = refl
none_at (suc n) zero = refl
none_at (suc n) (suc i) = none_at n i

pub none_within : (l : List ℕ) (n : ℕ) → SpansWithin l (replicate n no_span)
none_within l n = record { ordered = λ i. rw (none_at n i) (omega arith); ends = λ i. rw (none_at n i) (omega arith) }

-- ---- how far a name goes

name_prefix : (l : List ℕ) → prefix_len is_name_byte l ≡ length (run is_name_byte l)
unfolding run
name_prefix [] = refl
name_prefix (b ∷ l) = go (is_name_byte b) refl (name_prefix l)
  where
    go : (t : Bool) → is_name_byte b ≡ t → prefix_len is_name_byte l ≡ length (run is_name_byte l) → prefix_len is_name_byte (b ∷ l) ≡ length (run is_name_byte (b ∷ l))
    go true e h = rw (e, run) (omega (arith, h))
    go false e h = rw (e, run)

pub name_taken : (l : List ℕ) → length (take (prefix_len is_name_byte l) l) ≡ length (run is_name_byte l)
name_taken l = omega (arith, length-take (prefix_len is_name_byte l) l, name_prefix l, run_le is_name_byte l)
