-- The digest and the size of a body, by the tests that the code makes. Assumes nothing.
use mathlib.Core.Bool.{false, true}
use mathlib.Core.List.{List}
use mathlib.Core.Path.{◌≡◌, refl}
use Prim.Native.Nat.{◌-◌, ℕ}
use native.Mathlib.Omega.{arith}
use lib.Dec.{lit≤}
use lib.ListN.{length, drop, length-drop}
use lib.Seq.{take_all}
use Rattle.std.specs.Prelude.{None, Result, Ok, Err}
use Rattle.std.specs.Result.{result_ok}
use Rattle.number.specs.Reading.{decimal_read}
use Rattle.number.proofs.Forms.{decimal_found, decimal_missed}
use Rattle.base64_text.specs.Decoding.{read_as}
use Rattle.places.specs.Place.{part_of}
use Rattle.stream.specs.Ends.{digest_label, is_digest, digest_bytes}
use Rattle.stream.specs.Template.{starts_with}
use Rattle.end_fields.specs.Texts.{digest_of, data_size_of}

module _ (v : List ℕ) where
  pub no_label : starts_with digest_label v ≡ false → None ≡ digest_of v
  unfolding digest_of is_digest
  no_label e = rw e

  rest : part_of v 8 (length v) ≡ drop 8 v
  unfolding part_of
  rest = take_all (length v - 8) (drop 8 v) (omega (arith, length-drop 8 v))

  pub digest_read : starts_with digest_label v ≡ true → read_as 32 (part_of v 8 (length v)) ≡ digest_of v
  unfolding digest_of is_digest digest_bytes
  digest_read e = rw (e, rest)

  pub size_read : (r : Result ℕ ℕ) → r ≡ decimal_read 10 v → result_ok r ≡ data_size_of v
  unfolding data_size_of
  size_read (Ok n) a = let f = decimal_found 10 v (lit≤ tt) a n refl in rw (f.0, f.1)
  size_read (Err p) a = rw (decimal_missed 10 v (lit≤ tt) a refl)
