-- The key and the size of `X-Ouinet-BSigs` judged, test by test. Assumes nothing.
use mathlib.Core.Bool.{true, false}
use mathlib.Core.List.{List, [], ◌∷◌}
use mathlib.Core.Path.{◌≡◌}
use Prim.Native.Nat.{ℕ}
use Rattle.octets.specs.Octets.{octets}
use Rattle.base64_text.specs.Base64.{is_base64, base64_bytes}
use Rattle.stream.specs.Bytes.{is_digit}
use Rattle.stream.specs.GoodText.{is_count}
use Rattle.stream.specs.Numbers.{decimal_value}
use Rattle.stream.specs.Signatures.{is_bsigs}
use Rattle.stream.specs.Template.{Part, text, bytes, Scanned, parts, unlike}
use Rattle.std.specs.Prelude.{Some, None}
use Rattle.text.proofs.SameLaws.{both_false}
use Rattle.params.specs.BlockSigs.{bsigs_of}

-- the parts after the key
abbrev pub size_parts : List Part
size_parts = text (octets "size=") ∷ bytes is_digit ∷ []

pub bsigs_unlike : (s : Scanned) → s ≡ unlike → None ≡ bsigs_of s
unfolding bsigs_of is_bsigs
bsigs_unlike s e = rw e

module _ (key size : List ℕ) where
  abbrev scanned : Scanned
  scanned = parts (key ∷ size ∷ [])

  refused : is_bsigs scanned ≡ false → None ≡ bsigs_of scanned
  unfolding bsigs_of is_bsigs
  refused e = rw e

  pub key_bad : is_base64 32 key ≡ false → None ≡ bsigs_of scanned
  unfolding is_bsigs
  key_bad e = refused (rw e)

  pub size_bad : is_count 5 65536 size ≡ false → None ≡ bsigs_of scanned
  unfolding is_bsigs is_count
  size_bad e = refused (rw (e, both_false (is_base64 32 key)))

  pub bsigs_good : is_base64 32 key ≡ true → is_count 5 65536 size ≡ true → Some (record { key = base64_bytes 32 key; size = decimal_value size }) ≡ bsigs_of scanned
  unfolding bsigs_of is_bsigs is_count
  bsigs_good k d = rw (k, d)
