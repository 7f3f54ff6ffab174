-- What the values of `Digest` and `X-Ouinet-Data-Size` say (request #101). Assumes nothing.
use Rattle.std.specs.Prelude.{List, ℕ, Option, Some, None}
use Rattle.octets.specs.Choice.{pick}
use Rattle.stream.specs.Ends.{is_digest, digest_bytes, is_data_size}
use Rattle.stream.specs.Numbers.{decimal_value}

-- the bytes of a good value
unfoldable pub digest_of : List ℕ → Option (List ℕ)
digest_of v = pick (is_digest v) (Some (digest_bytes v)) None

unfoldable pub data_size_of : List ℕ → Option ℕ
data_size_of v = pick (is_data_size v) (Some (decimal_value v)) None
