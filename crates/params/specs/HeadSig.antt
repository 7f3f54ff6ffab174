-- What the value of `X-Ouinet-Sig0` says (paper 01, "The head"), and of `X-Ouinet-Sig1`, which is "written as Sig0" (request #101). Assumes nothing.
use Rattle.std.specs.Prelude.{List, ◌≡◌, ℕ, ◌≤◌, length, Option, Some, None, IfSome, option_map}
use Rattle.octets.specs.Choice.{pick}
use Rattle.base64_text.specs.Base64.{base64_bytes}
use Rattle.stream.specs.Signatures.{is_sig0, key_text, created_text, names_text, head_signature_text}
use Rattle.stream.specs.Template.{Scanned}
use Rattle.places.specs.Place.{part_of}
use Rattle.params.specs.declared.sig0.Sig0.{Sig0}

-- a signature of a head, with its texts themselves
pub record HeadSig : Type 0 where
  pub key : List ℕ
  pub created : List ℕ
  pub names : List ℕ
  pub signature : List ℕ

-- the parameters of a good value
unfoldable pub head_sig_of : Scanned → Option HeadSig
head_sig_of s =
    pick (is_sig0 s)
    (Some (record { key = base64_bytes 32 (key_text s); created = created_text s; names = names_text s; signature = base64_bytes 64 (head_signature_text s) }))
    None

-- an answer, with the texts at its places in the value
unfoldable pub head_sig_in : List ℕ → Sig0 → HeadSig
head_sig_in value r =
    record {
      key = r.key;
      created = part_of value r.created_start r.created_end;
      names = part_of value r.names_start r.names_end;
      signature = r.signature;
    }

-- its places are those of parts of the value
pub record Places (value : List ℕ) (r : Sig0) : Type 0 where
  pub created_ordered : r.created_start ≤ r.created_end
  pub created_within : r.created_end ≤ length value
  pub names_ordered : r.names_start ≤ r.names_end
  pub names_within : r.names_end ≤ length value

-- r answers for a value of which s was made
pub record ReadsSig0 (value : List ℕ) (s : Scanned) (r : Option Sig0) : Type 0 where
  pub meaning : option_map (head_sig_in value) r ≡ head_sig_of s
  pub places : IfSome r (Places value)
