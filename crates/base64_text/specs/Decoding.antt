-- What the code's decoding into a lent buffer answers and leaves there. Assumes nothing.
use Rattle.std.specs.Prelude.{Bool, true, false, List, ℕ, Option, Some, None}
use Rattle.octets.specs.Choice.{pick}
use Rattle.base64_text.specs.Base64.{is_base64, base64_bytes}

-- What decoding into a buffer answers, and what the buffer then holds.
pub record Decoded : Type 0 where
  pub ok : Bool
  pub buffer : List ℕ

abbrev pub answered : Bool → List ℕ → Decoded
answered ok buffer = record { ok = ok; buffer = buffer }

-- Decoding n bytes into a buffer: a text of n bytes is answered with yes and its bytes, anything else with no and the buffer as it was.
unfoldable pub decoded : ℕ → List ℕ → List ℕ → Decoded
decoded n t buffer = pick (is_base64 n t) (answered true (base64_bytes n t)) (answered false buffer)

-- The n bytes of a text, where it is a text of n bytes.
abbrev pub read_as : ℕ → List ℕ → Option (List ℕ)
read_as n t = pick (is_base64 n t) (Some (base64_bytes n t)) None
