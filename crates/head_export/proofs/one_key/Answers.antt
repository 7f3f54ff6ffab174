-- The ring has a record where the text is a key's. Assumes nothing.
use mathlib.Core.Path.{◌≡◌, refl, sym, ◌∙◌}
use mathlib.Core.Bool.{true, false}
use mathlib.Core.List.{List, []}
use Prim.Native.Nat.{ℕ}
use Rattle.base64_text.specs.Base64.{is_base64, base64_bytes}
use Rattle.base64_text.proofs.Laws.{answer_is, buffer_read}
use Rattle.ring.specs.Keys.{ring_with}
use Rattle.stream.specs.Ring.{Ring}
use Rattle.head_export.specs.Export.{one_key}
use Rattle.head_export.proofs.one_key.Goals as goal

module _ (t : List ℕ) (first last : ℕ) where
  no_key : is_base64 32 t ≡ false → [] ≡ one_key t first last
  unfolding one_key
  no_key h = rw h refl

  a_key : (ring : Ring) (key : List ℕ) → ring ≡ [] → is_base64 32 t ≡ true → key ≡ base64_bytes 32 t → ring_with ring (record { key = key; first = first; last = last }) ≡ one_key t first last
  unfolding one_key ring_with
  a_key ring key e h k = rw (e, h, k) refl

pub returns-then-not-key : goal.returns-then-not-key
returns-then-not-key c = c.empty.ensures.ring ∙ no_key _ _ _ (sym (answer_is 32 _ _ c.key.ensures) ∙ c.if-not-key.true)

pub returns : goal.returns
returns c =
    let h = sym (answer_is 32 _ _ c.key.ensures) ∙ c.if-not-key.false in
    c.added.ensures.ring ∙ a_key _ _ _ _ _ c.empty-2.ensures.ring h (buffer_read 32 _ _ c.key.ensures h)
