-- What the value of `X-Ouinet-Injection` says (paper 01, "The head"). Assumes nothing.
use Rattle.std.specs.Prelude.{List, ◌++◌, ℕ, ◌-◌, length, replicate, Option, Some, None}
use Rattle.octets.specs.Choice.{pick}
use Rattle.stream.specs.Limits.{id_limit}
use Rattle.stream.specs.Numbers.{decimal_value}
use Rattle.stream.specs.Signatures.{is_injection, id_text, time_text}
use Rattle.stream.specs.Template.{Scanned}
use Rattle.params.specs.declared.injection.Injection.{Injection}

-- bytes, and zeros after them: so many in all
unfoldable pub padded : ℕ → List ℕ → List ℕ
padded n l = l ++ replicate (n - length l) 0

-- the id and the time of a good value
unfoldable pub injection_of : Scanned → Option Injection
injection_of s =
    pick (is_injection s) (Some (record { id_length = length (id_text s); id = padded id_limit (id_text s); time = decimal_value (time_text s) })) None
