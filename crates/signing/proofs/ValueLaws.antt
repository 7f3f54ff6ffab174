-- The values of a field, one by one, with comma and space between. Assumes nothing.
use mathlib.Core.Bool.{Bool, true, false, not}
use mathlib.Core.List.{List, [], ◌∷◌, ◌++◌}
use mathlib.Core.Path.{◌≡◌, refl, sym, ap, ◌∙◌}
use Prim.Native.Nat.{ℕ}
use borrow.Author.Tests.{not-true, not-false}
use lib.ListN.{length}
use Rattle.octets.specs.Octets.{octets}
use Rattle.stream.specs.Signing.{separated}
use Rattle.places.specs.Writing.{Placed, placed, wrote}
use Rattle.places.proofs.WritingLaws.{same_size, wrote_more, wrote_nil}
use Rattle.signing.specs.Writing.{led_by}
use Rattle.signing.proofs.StringLaws.{joined_is}

-- the values that are left to write: the first of all has no comma in front
abbrev pub values_left : Bool → List (List ℕ) → List ℕ
values_left true vs = separated (octets ", ") vs
values_left false vs = led_by (octets ", ") vs

none_left : (first : Bool) → values_left first [] ≡ []
unfolding separated led_by
none_left true = refl
none_left false = refl

-- a buffer of that size, where what is written up to a place makes the whole together with the values that are left
pub record Kept (size : ℕ) (whole : Placed) (d : List ℕ) (at : ℕ) (first : Bool) (vs : List (List ℕ)) : Type 0 where
  pub sized : length d ≡ size
  pub makes : wrote d at (values_left first vs) ≡ whole

-- the same where the next value needs no comma any more
pub record Due (size : ℕ) (whole : Placed) (d : List ℕ) (at : ℕ) (value : List ℕ) (vs : List (List ℕ)) : Type 0 where
  pub sized : length d ≡ size
  pub makes : wrote d at (value ++ values_left false vs) ≡ whole

module _ {size : ℕ} {whole : Placed} {d : List ℕ} {at : ℕ} {first : Bool} where
  module _ {value : List ℕ} {vs : List (List ℕ)} (k : Kept size whole d at first (value ∷ vs)) (n : ℕ) (b : List ℕ) where
    pub comma_written : not first ≡ true → placed n b ≡ wrote d at (octets ", ") → Due size whole b n value vs
    unfolding led_by
    comma_written h e =
        record {
          sized = same_size d at (octets ", ") n b e ∙ k.sized;
          makes = wrote_more d at (octets ", ") n b e (value ++ values_left false vs) ∙ (rw (not-true first h) at k.makes);
        }

    pub no_comma : not first ≡ false → n ≡ at → b ≡ d → Due size whole b n value vs
    no_comma h p q =
        record {
          sized = ap length q ∙ k.sized;
          makes = rw (p, q, ← joined_is (octets ", ") value vs) (rw (not-false first h) at k.makes);
        }

  -- the same of what the ways of a branch leave
  pub kept_as : {vs : List (List ℕ)} → Kept size whole d at first vs → (n : ℕ) (b : List ℕ) (g : Bool) → n ≡ at → b ≡ d → g ≡ first → Kept size whole b n g vs
  kept_as k n b g p q r = rw (p, q, r) k

  pub values_end : Kept size whole d at first [] → placed at d ≡ whole
  values_end k = wrote_nil d at ∙ ap (wrote d at) (sym (none_left first)) ∙ k.makes

pub value_written : {size : ℕ} {whole : Placed} {d : List ℕ} {at : ℕ} {value : List ℕ} {vs : List (List ℕ)} → Due size whole d at value vs → (n : ℕ) (b : List ℕ) → placed n b ≡ wrote d at value → Kept size whole b n false vs
value_written {size} {whole} {d} {at} {value} {vs} k n b e =
    record { sized = same_size d at value n b e ∙ k.sized; makes = wrote_more d at value n b e (values_left false vs) ∙ k.makes }
