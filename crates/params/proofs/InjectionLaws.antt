-- The id and the time of an injection judged, test by test. Assumes nothing.
use mathlib.Core.Bool.{true, false, ◌&&◌}
use mathlib.Core.List.{List, [], ◌∷◌}
use mathlib.Core.Path.{◌≡◌}
use Prim.Native.Nat.{ℕ, ◌≤◌, ◌<◌}
use borrow.Author.Tests.{le-leb, lt-leb}
use lib.Dec.{leb}
use lib.ListN.{length}
use Rattle.octets.specs.Octets.{octets}
use Rattle.stream.specs.Bytes.{is_digit}
use Rattle.stream.specs.Numbers.{is_decimal, decimal_value}
use Rattle.stream.specs.Signatures.{is_injection}
use Rattle.stream.specs.Template.{Part, text, bytes, Scanned, parts, unlike}
use Rattle.std.specs.Prelude.{Some, None}
use Rattle.text.proofs.SameLaws.{both_false}
use Rattle.params.specs.Injection.{injection_of, padded}

-- the parts after the id
abbrev pub time_parts : List Part
time_parts = text (octets ",ts=") ∷ bytes is_digit ∷ []

pub injection_unlike : (s : Scanned) → s ≡ unlike → None ≡ injection_of s
unfolding injection_of is_injection
injection_unlike s e = rw e

module _ (id time : List ℕ) where
  abbrev scanned : Scanned
  scanned = parts (id ∷ time ∷ [])

  refused : is_injection scanned ≡ false → None ≡ injection_of scanned
  unfolding injection_of is_injection
  refused e = rw e

  pub id_missing : length id < 1 → None ≡ injection_of scanned
  unfolding is_injection
  id_missing h = refused (rw (lt-leb 1 (length id) h))

  pub id_long : 64 < length id → None ≡ injection_of scanned
  unfolding is_injection
  id_long h = refused (rw (lt-leb (length id) 64 h, both_false (leb 1 (length id))))

  pub time_bad : is_decimal 12 time ≡ false → None ≡ injection_of scanned
  unfolding is_injection
  time_bad e = refused (rw (e, both_false (leb 1 (length id) && leb (length id) 64)))

  pub injection_good : 1 ≤ length id → length id ≤ 64 → is_decimal 12 time ≡ true
      → Some (record { id_length = length id; id = padded 64 id; time = decimal_value time }) ≡ injection_of scanned
  unfolding injection_of is_injection
  injection_good h k e = rw (le-leb 1 (length id) h, le-leb (length id) 64 k, e)
