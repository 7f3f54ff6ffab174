-- The list of signed names (paper 01, "The head"): "names with one space between", at most 32. Assumes nothing.
use Rattle.std.specs.Prelude.{Bool, true, false, Option, None, Some, IfSome, List, map, ◌≡◌, ℕ, ◌≤◌, min, eqb, leb, length, take, get_or}
use Rattle.std.specs.Option.{option_map}
use Rattle.octets.specs.Choice.{pick}
use Rattle.stream.specs.Limits.{name_limit}
use Rattle.stream.specs.Signatures.{split_names}
use Rattle.places.specs.declared.Span.{Span}
use Rattle.places.specs.Place.{part_of}
use Rattle.names.specs.declared.reading.Names.{Names}

-- a name goes up to the next space
abbrev pub is_name_byte : ℕ → Bool
is_name_byte b = pick (eqb b 32) false true

-- ---- the names of a struct, by the bytes at its places

abbrev pub span_bytes : List ℕ → Span → List ℕ
span_bytes l s = part_of l s.start s.end

-- span i stands for no bytes where there is none
abbrev pub no_span : Span
no_span = record { start = 0; end = 0 }

-- the first `count` spans are names, or all 32 if there are fewer
abbrev pub used_spans : Names → List Span
used_spans n = take (min n.count name_limit) n.spans

unfoldable pub names_in : List ℕ → Names → List (List ℕ)
names_in l n = map (span_bytes l) (used_spans n)

-- ---- a text read as a list of names

-- the names of a list that is not too long, none of any other
unfoldable pub name_list_of : List ℕ → Option (List (List ℕ))
name_list_of l = pick (leb (length (split_names l)) name_limit) (Some (split_names l)) None

-- each span's places are those of a part of the text
pub record SpansWithin (l : List ℕ) (spans : List Span) : Type 0 where
  pub ordered : (i : ℕ) → (get_or spans i no_span).start ≤ (get_or spans i no_span).end
  pub ends : (i : ℕ) → (get_or spans i no_span).end ≤ length l

pub record ReadsNames (l : List ℕ) (r : Option Names) : Type 0 where
  pub meaning : option_map (names_in l) r ≡ name_list_of l
  pub within : IfSome r (λ n. SpansWithin l n.spans)
