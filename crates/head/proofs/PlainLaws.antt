-- The version and the status, by the tests that the code makes. Assumes nothing.
use mathlib.Core.Bool.{true, false}
use mathlib.Core.List.{List}
use mathlib.Core.Path.{◌≡◌}
use Prim.Native.Nat.{ℕ}
use Rattle.octets.specs.Octets.{octets}
use Rattle.std.specs.Prelude.{Some, None}
use Rattle.stream.specs.Bytes.{same}
use Rattle.stream.specs.Fields.{has_field, value_of}
use Rattle.stream.specs.Head.{is_status}
use Rattle.stream.specs.Lines.{Field}
use Rattle.stream.specs.Numbers.{decimal_value}
use Rattle.stream.specs.Rule.{first_broken}
use Rattle.stream.specs.Signatures.{version_name}
use Rattle.stream.proofs.Truth.{same_equal}
use Rattle.head.specs.Steps.{version_rules, status_number}

-- ---- the version

module _ (fs : List Field) where
  pub no_version : has_field version_name fs ≡ false → 4 ≡ first_broken (version_rules fs)
  unfolding first_broken version_rules
  no_version h = rw h

  pub other_version : has_field version_name fs ≡ true → same (value_of version_name fs) (octets "4") ≡ false → 5 ≡ first_broken (version_rules fs)
  unfolding first_broken version_rules
  other_version h k = rw (h, k)

  pub our_version : has_field version_name fs ≡ true → same (value_of version_name fs) (octets "4") ≡ true → 0 ≡ first_broken (version_rules fs)
  unfolding first_broken version_rules
  our_version h k = rw (h, k)

-- ---- the status

-- d is the status k
pub is_number : (d k : List ℕ) → is_status k ≡ true → same d k ≡ true → Some (decimal_value k) ≡ status_number d
unfolding status_number
is_number d k h e = rw (same_equal d k e, h)

pub no_number : (d : List ℕ) → same d (octets "200") ≡ false → same d (octets "301") ≡ false → same d (octets "302") ≡ false
    → same d (octets "307") ≡ false → None ≡ status_number d
unfolding status_number
no_number d a b c e = rw (a, b, c, e)
