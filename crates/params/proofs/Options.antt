-- What an answer that may be absent tells of the test that it comes of. Assumes nothing.
use mathlib.Core.Bool.{Bool, true, false}
use mathlib.Core.Path.{◌≡◌, refl, sym}
use Rattle.octets.specs.Choice.{pick}
use Rattle.std.specs.Prelude.{is_some, Some, None}
use Rattle.std.proofs.lemmas.Option.{none-some, same_Some}

module _ {A : Type 0} where
  pub is_picked : (t : Bool) (x : A) → is_some (pick t (Some x) None) ≡ t
  is_picked true x = refl
  is_picked false x = refl

  pub picked : (t : Bool) (x : A) {v : A} → Some v ≡ pick t (Some x) None → (t ≡ true) × (v ≡ x)
  picked true x e = (refl, same_Some _ _ e)
  picked false x e = absurd (none-some _ (sym e))

  pub unpicked : (t : Bool) (x : A) → None ≡ pick t (Some x) None → t ≡ false
  unpicked true x e = absurd (none-some _ e)
  unpicked false x e = refl
