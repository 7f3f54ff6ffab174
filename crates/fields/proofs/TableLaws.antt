-- Fields looked up by their names, among the entries that stand for them. Assumes nothing.
use mathlib.Core.Path.{◌≡◌, refl, sym, ap, ◌∙◌}
use mathlib.Core.Bool.{Bool, true, false, ◌&&◌, ◌||◌}
use mathlib.Core.List.{List, [], ◌∷◌, map}
use Prim.Native.Nat.{ℕ}
use lib.ListN.{length}
use Rattle.std.specs.List.{filter, find, list_any}
use Rattle.std.specs.Prelude.{Option, None, Some, MatchOption}
use Rattle.std.specs.Borrow.{Bor}
use Rattle.std.specs.Option.{option_map}
use Rattle.stream.specs.Bytes.{same_name}
use Rattle.stream.specs.Fields.{among, count_of, has_field, is_protected, is_protected_doubled, names_of, value_of, values_of}
use Rattle.places.specs.declared.Span.{Span}
use Rattle.places.specs.Place.{Clips, part_of}
use Rattle.fields.specs.Answers.{Finds}
use Rattle.field_lines.specs.Entries.{entry_name, entry_value, entry_field}
use Rattle.field_lines.specs.declared.entry.Entry.{Entry}

module _ (text name : List ℕ) where
  abbrev pub is_named : Entry → Bool
  is_named e = same_name name (entry_name text e)

  abbrev pub values : List Entry → List (List ℕ)
  values es = values_of name (map (entry_field text) es)

  pub any_named : (es : List Entry) → list_any is_named es ≡ among name (names_of (map (entry_field text) es))
  unfolding among names_of entry_field
  any_named [] = refl
  any_named (e ∷ es) = ap (λ (t : Bool). is_named e || t) (any_named es)

  -- ---- the values of that name, entry by entry

  module _ (e : Entry) (es : List Entry) where
    pub values_hit : is_named e ≡ true → values (e ∷ es) ≡ entry_value text e ∷ values es
    unfolding values_of entry_field
    values_hit t = rw (values_of, t)

    pub values_next : is_named e ≡ false → values (e ∷ es) ≡ values es
    unfolding values_of entry_field
    values_next t = rw (values_of, t)

  pub count_named : (es : List Entry) → length (filter is_named es) ≡ count_of name (map (entry_field text) es)
  unfolding values_of
  count_named [] = refl
  count_named (e ∷ es) = go (is_named e) refl (count_named es)
    where
      go : (t : Bool) → is_named e ≡ t → length (filter is_named es) ≡ length (values es) → length (filter is_named (e ∷ es)) ≡ length (values (e ∷ es))
      go true t k = rw (values_hit e es t, t, k)
      go false t k = rw (values_next e es t, t, k)

  -- ---- the first of that name

  abbrev pub Found : List Entry → Entry → Type 0
  Found es e = (has_field name (map (entry_field text) es) ≡ true) × (value_of name (map (entry_field text) es) ≡ entry_value text e)

  abbrev pub Missed : List Entry → Type 0
  Missed es = (has_field name (map (entry_field text) es) ≡ false) × (value_of name (map (entry_field text) es) ≡ [])

  -- an entry of another name in front changes nothing
  found_on : (e : Entry) (es : List Entry) → is_named e ≡ false → (r : Option Entry) → MatchOption r (Missed es) (Found es) → MatchOption r (Missed (e ∷ es)) (Found (e ∷ es))
  unfolding has_field among names_of value_of entry_field
  found_on e es t None k = (rw t k.0, rw (value_of, t) k.1)
  found_on e es t (Some x) k = (rw t k.0, rw (value_of, t) k.1)

  missed_all : Missed []
  unfolding has_field among names_of value_of
  missed_all = (refl, refl)

  found_first : (e : Entry) (es : List Entry) → is_named e ≡ true → Found (e ∷ es) e
  unfolding has_field among names_of value_of entry_field
  found_first e es t = (rw t, rw (value_of, t))

  find_named : (es : List Entry) → MatchOption (find is_named es) (Missed es) (Found es)
  find_named [] = missed_all
  find_named (e ∷ es) = go (is_named e) refl (find_named es)
    where
      go : (t : Bool) → is_named e ≡ t → MatchOption (find is_named es) (Missed es) (Found es) → MatchOption (find is_named (e ∷ es)) (Missed (e ∷ es)) (Found (e ∷ es))
      go true t k = rw t (found_first e es t)
      go false t k = rw t (found_on e es t (find is_named es) k)

  -- what a search among them gave
  found_is : (es : List Entry) (r : Option (Bor Entry)) → option_map (λ x. x.now) r ≡ find is_named es → MatchOption r (Missed es) (λ x. Found es x.now)
  found_is es None e = rw (← e) at (find_named es)
  found_is es (Some x) e = rw (← e) at (find_named es)

  -- and the places of its value
  module _ (es : List Entry) where
    abbrev FindsFirst : Option Span → Type 0
    FindsFirst v = Finds text (has_field name (map (entry_field text) es)) (value_of name (map (entry_field text) es)) v

    pub finds_none : (r : Option (Bor Entry)) → option_map (λ x. x.now) r ≡ find is_named es → r ≡ None → FindsFirst None
    finds_none r e h = let m = rw h at (found_is es r e) in record { found = sym m.0; content = sym m.1; ordered = tt; within = tt }

    pub finds_first : (r : Option (Bor Entry)) → option_map (λ x. x.now) r ≡ find is_named es → (x : Bor Entry) → r ≡ Some x → (s : Span) → Clips text x.now.value.start x.now.value.end s → FindsFirst (Some s)
    finds_first r e x h s i = let m = rw h at (found_is es r e) in record { found = sym m.0; content = i.content ∙ sym m.1; ordered = i.ordered; within = i.within }

pub value_found : {text : List ℕ} {there : Bool} {bytes : List ℕ} (r : Option Span) (v : List ℕ) → Finds text there bytes r → MatchOption r (v ≡ []) (λ s. v ≡ part_of text s.start s.end) → v ≡ bytes
value_found None v x h = h ∙ x.content
value_found (Some s) v x h = h ∙ x.content

-- ---- pairs of one protected name

module _ (text : List ℕ) where
  abbrev pub doubled : List Entry → Bool
  doubled es = is_protected_doubled (names_of (map (entry_field text) es))

  pub none_doubled : doubled [] ≡ false
  unfolding is_protected_doubled names_of
  none_doubled = refl

  pub doubled_on : (e : Entry) (es : List Entry) (t : Bool) → t ≡ is_protected (entry_name text e) && among (entry_name text e) (names_of (map (entry_field text) es)) → doubled (e ∷ es) ≡ t || doubled es
  unfolding is_protected_doubled names_of entry_field
  doubled_on e es t h = rw h

  pub among_past : (n : List ℕ) (e : Entry) (es : List Entry) (t : Bool) → t ≡ same_name n (entry_name text e)
      → among n (names_of (map (entry_field text) (e ∷ es))) ≡ t || among n (names_of (map (entry_field text) es))
  unfolding among names_of entry_field
  among_past n e es t h = rw h

  pub none_among : (n : List ℕ) → false ≡ among n (names_of (map (entry_field text) []))
  unfolding among names_of
  none_among n = refl

  -- a name that is not protected is compared with none
  pub compared_on : (e : Entry) (es rest : List Entry) (n : List ℕ) → n ≡ entry_name text e → (is_protected n ≡ true → rest ≡ es) → (is_protected n ≡ false → rest ≡ [])
      → doubled (e ∷ es) ≡ among n (names_of (map (entry_field text) rest)) || doubled es
  compared_on e es rest n a h k = doubled_on e es _ (by (is_protected n) refl ∙ ap (λ (m : List ℕ). is_protected m && among m (names_of (map (entry_field text) es))) a)
    where
      by : (p : Bool) → is_protected n ≡ p → among n (names_of (map (entry_field text) rest)) ≡ is_protected n && among n (names_of (map (entry_field text) es))
      by true q = rw (q, h q)
      by false q = rw (q, k q) (sym (none_among n))
