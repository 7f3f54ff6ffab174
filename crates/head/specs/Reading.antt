-- What reading a head finds (paper 01, "The head"): the first broken rule, and where none is, what the head says. Assumes nothing.
use Rattle.std.specs.Prelude.{List, ◌≡◌, ℕ, Result, Ok, Err, Some}
use Rattle.stream.specs.Bytes.{same}
use Rattle.stream.specs.Fields.{value_of}
use Rattle.stream.specs.Head.{head_of, status_digits, http_status_name, range_of, listed_names, text_rules}
use Rattle.stream.specs.Lines.{Field}
use Rattle.stream.specs.Numbers.{decimal_value}
use Rattle.stream.specs.Rule.{first_broken}
use Rattle.stream.specs.Signatures.{names_text}
use Rattle.fields.specs.Table.{fields_in}
use Rattle.octets.specs.Choice.{pick}
use Rattle.octets.specs.Octets.{octets}
use Rattle.ranges.specs.Extent.{extent_of}
use Rattle.params.specs.BlockSigs.{bsigs_of}
use Rattle.params.specs.HeadSig.{ReadsSig0}
use Rattle.params.specs.Injection.{injection_of}
use Rattle.names.specs.NameList.{names_in}
use Rattle.head.specs.declared.whole.HeadRead.{HeadRead}

-- the signed status by the digits of the status line and the fields
unfoldable pub signed_digits : List ℕ → List Field → List ℕ
signed_digits digits fs = pick (same digits (octets "206")) (value_of http_status_name fs) digits

-- a head that breaks no rule, and r keeps its contents, or their places
pub record Says (text : List ℕ) (r : HeadRead) : Type 0 where
  pub kept : first_broken (text_rules text (head_of text)) ≡ 0
  pub status : r.status ≡ decimal_value (status_digits (head_of text))
  pub extent : r.extent ≡ extent_of (range_of (head_of text))
  pub fields : fields_in text r.fields ≡ (head_of text).fields
  pub injection : Some r.signed.injection ≡ injection_of (head_of text).injection
  pub bsigs : Some r.signed.bsigs ≡ bsigs_of (head_of text).bsigs
  pub sig0 : ReadsSig0 text (head_of text).sig0 (Some r.signed.sig0)
  pub names : names_in (names_text (head_of text).sig0) r.signed.names ≡ listed_names (head_of text)

-- or the number of the first broken rule
abbrev pub Reads : List ℕ → Result HeadRead ℕ → Type 0
Reads text (Ok r) = Says text r
Reads text (Err n) = (n ≡ first_broken (text_rules text (head_of text))) × (n ≡ 0 → ⊥)
