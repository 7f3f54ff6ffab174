-- A group as the code reads it: what the tests of its four characters say of `group_of`. Assumes nothing.
use mathlib.Core.Bool.{true, false}
use mathlib.Core.Path.{◌≡◌}
use Prim.Native.Nat.{ℕ, ◌+◌, ◌*◌, ◌%◌}
use Rattle.base64_text.specs.Base64.{letter_value, joined_letters}
use Rattle.base64_text.specs.Groups.{leading4, group_of}
use Rattle.base64_text.specs.Places.{stands_as}
use Rattle.base64_text.specs.declared.Group.{Group}

module _ (left a b c d : ℕ) {p q r s : ℕ} (ep : p ≡ letter_value a) (eq : q ≡ letter_value b) (er : r ≡ letter_value c) (es : s ≡ letter_value d) where
  abbrev grouped : ℕ → Group
  grouped n = record { standing = n; bits = ((p % 64 * 64 + q % 64) * 64 + r % 64) * 64 + s % 64 }

  group_is : (n : ℕ) → leading4 (stands_as left 0 a p) (stands_as left 1 b q) (stands_as left 2 c r) (stands_as left 3 d s) ≡ n → grouped n ≡ group_of left a b c d
  unfolding group_of joined_letters
  group_is n e = rw (← e, ep, eq, er, es)

  pub stops_at_0 : stands_as left 0 a p ≡ false → grouped 0 ≡ group_of left a b c d
  stops_at_0 e = group_is 0 (rw e)

  pub stops_at_1 : stands_as left 0 a p ≡ true → stands_as left 1 b q ≡ false → grouped 1 ≡ group_of left a b c d
  stops_at_1 e f = group_is 1 (rw (e, f))

  pub stops_at_2 : stands_as left 0 a p ≡ true → stands_as left 1 b q ≡ true → stands_as left 2 c r ≡ false → grouped 2 ≡ group_of left a b c d
  stops_at_2 e f g = group_is 2 (rw (e, f, g))

  pub stops_at_3 : stands_as left 0 a p ≡ true → stands_as left 1 b q ≡ true → stands_as left 2 c r ≡ true → stands_as left 3 d s ≡ false → grouped 3 ≡ group_of left a b c d
  stops_at_3 e f g h = group_is 3 (rw (e, f, g, h))

  pub stands_whole : stands_as left 0 a p ≡ true → stands_as left 1 b q ≡ true → stands_as left 2 c r ≡ true → stands_as left 3 d s ≡ true → grouped 4 ≡ group_of left a b c d
  stands_whole e f g h = group_is 4 (rw (e, f, g, h))
