-- What the value of `X-Ouinet-BSigs` says (paper 01, "The head"). Assumes nothing.
use Rattle.std.specs.Prelude.{Option, Some, None}
use Rattle.octets.specs.Choice.{pick}
use Rattle.base64_text.specs.Base64.{base64_bytes}
use Rattle.stream.specs.Numbers.{decimal_value}
use Rattle.stream.specs.Signatures.{is_bsigs, key_text, block_size_text}
use Rattle.stream.specs.Template.{Scanned}
use Rattle.params.specs.declared.bsigs.Bsigs.{Bsigs}

-- the key and the block size of a good value
unfoldable pub bsigs_of : Scanned → Option Bsigs
bsigs_of s = pick (is_bsigs s) (Some (record { key = base64_bytes 32 (key_text s); size = decimal_value (block_size_text s) })) None
