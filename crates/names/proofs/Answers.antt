-- What a caller learns from a list that was read: whether it is good, and its names. Assumes nothing.
use mathlib.Core.Bool.{Bool, true, false}
use mathlib.Core.List.{List}
use mathlib.Core.Path.{◌≡◌, refl, sym}
use Prim.Native.Nat.{ℕ}
use lib.Dec.{leb}
use lib.ListN.{length}
use Rattle.std.specs.Prelude.{Option, None, Some, MatchOption, is_some}
use Rattle.std.specs.Option.{option_map}
use Rattle.octets.specs.Choice.{pick}
use Rattle.stream.specs.Signatures.{split_names}
use Rattle.names.specs.NameList.{name_list_of, names_in, ReadsNames}
use Rattle.names.specs.declared.reading.Names.{Names}

told : {A B : Type 0} (f : A → B) (r : Option A) (t : Bool) (b : B) → option_map f r ≡ pick t (Some b) None → MatchOption r (t ≡ false) (λ a. (t ≡ true) × (f a ≡ b))
told f None true b e = absurd (cc)
told f None false b e = refl
told f (Some a) true b e = (refl, cc)
told f (Some a) false b e = absurd (cc)

module _ {l : List ℕ} where
  pub names_tell : (r : Option Names) → ReadsNames l r → MatchOption r (leb (length (split_names l)) 32 ≡ false) (λ n. (leb (length (split_names l)) 32 ≡ true) × (names_in l n ≡ split_names l))
  unfolding name_list_of
  names_tell r h = told (names_in l) r (leb (length (split_names l)) 32) (split_names l) h.meaning

  pub names_say : (r : Option Names) → ReadsNames l r → is_some r ≡ leb (length (split_names l)) 32
  names_say None h = sym (names_tell None h)
  names_say (Some n) h = sym (names_tell (Some n) h).0

  pub names_are : (n : Names) → ReadsNames l (Some n) → names_in l n ≡ split_names l
  names_are n h = (names_tell (Some n) h).1
