-- The three fields read, one after the other, where each is there once. Assumes nothing.
use mathlib.Core.Bool.{true}
use mathlib.Core.List.{List}
use mathlib.Core.Path.{◌≡◌}
use Prim.Native.Nat.{ℕ}
use Rattle.std.specs.Prelude.{Some, None}
use Rattle.params.specs.HeadSig.{ReadsSig0}
use Rattle.params.specs.declared.sig0.Sig0.{Sig0}
use Rattle.params.proofs.Answers.{sig0_says}
use Rattle.params.proofs.Options.{picked, unpicked}
use Rattle.stream.specs.Ends.{digest_name, data_size_name, sig1_name, is_digest, is_data_size}
use Rattle.stream.specs.Fields.{value_of}
use Rattle.stream.specs.Lines.{Field}
use Rattle.stream.specs.Signatures.{sig0_scan}
use Rattle.end_fields.specs.Reading.{are_once, ReadsEnd}
use Rattle.end_fields.specs.Texts.{digest_of, data_size_of}

module _ (fs : List Field) (once : are_once fs ≡ true) where
  abbrev sig1_is : Sig0 → Type 0
  sig1_is g = ReadsSig0 (value_of sig1_name fs) (sig0_scan (value_of sig1_name fs)) (Some g)

  pub no_digest : None ≡ digest_of (value_of digest_name fs) → ReadsEnd fs None
  unfolding digest_of
  no_digest e = record { good = rw (once, unpicked _ _ e); says = tt }

  module _ {d : List ℕ} (digest : Some d ≡ digest_of (value_of digest_name fs)) where
    pub no_size : None ≡ data_size_of (value_of data_size_name fs) → ReadsEnd fs None
    unfolding digest_of data_size_of
    no_size e = record { good = rw (once, (picked (is_digest (value_of digest_name fs)) _ digest).0, unpicked _ _ e); says = tt }

    module _ {n : ℕ} (size : Some n ≡ data_size_of (value_of data_size_name fs)) where
      pub no_sig1 : ReadsSig0 (value_of sig1_name fs) (sig0_scan (value_of sig1_name fs)) None → ReadsEnd fs None
      unfolding digest_of data_size_of
      no_sig1 r =
          record { good = rw (once, (picked (is_digest (value_of digest_name fs)) _ digest).0, (picked (is_data_size (value_of data_size_name fs)) _ size).0, ← sig0_says r); says = tt }

      pub all_read : {g : Sig0} → sig1_is g → ReadsEnd fs (Some (record { digest = d; size = n; sig1 = g }))
      unfolding digest_of data_size_of
      all_read r =
          let k = picked (is_digest (value_of digest_name fs)) _ digest in
          let m = picked (is_data_size (value_of data_size_name fs)) _ size in
          record { good = rw (once, k.0, m.0, ← sig0_says r); says = record { digest = k.1; size = m.1; sig1 = r } }
