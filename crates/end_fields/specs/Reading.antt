-- What reading the three fields finds (request #101). Assumes nothing.
use Rattle.std.specs.Prelude.{Bool, ◌&&◌, List, ◌≡◌, Option, Some, is_some, IfSome}
use Rattle.params.specs.HeadSig.{ReadsSig0}
use Rattle.stream.specs.Ends.{digest_name, data_size_name, sig1_name, is_once, is_digest, digest_bytes, is_data_size}
use Rattle.stream.specs.Fields.{value_of}
use Rattle.stream.specs.Lines.{Field}
use Rattle.stream.specs.Signatures.{sig0_scan, is_sig0}
use Rattle.stream.specs.Numbers.{decimal_value}
use Rattle.end_fields.specs.Texts.{digest_of, data_size_of}
use Rattle.end_fields.specs.declared.reading.EndParts.{EndParts}
use Rattle.end_fields.specs.declared.reading.EndRead.{EndRead}

abbrev pub are_once : List Field → Bool
are_once fs = is_once digest_name fs && (is_once data_size_name fs && is_once sig1_name fs)

-- what each says is good
abbrev pub are_good : List Field → Bool
are_good fs = is_digest (value_of digest_name fs) && (is_data_size (value_of data_size_name fs) && is_sig0 (sig0_scan (value_of sig1_name fs)))

-- each by itself, whether or not the others are good
pub record ReadsParts (fs : List Field) (r : EndParts) : Type 0 where
  pub once : r.once ≡ are_once fs
  pub digest : r.digest ≡ digest_of (value_of digest_name fs)
  pub size : r.size ≡ data_size_of (value_of data_size_name fs)
  pub sig1 : ReadsSig0 (value_of sig1_name fs) (sig0_scan (value_of sig1_name fs)) r.sig1

pub record Says (fs : List Field) (e : EndRead) : Type 0 where
  pub digest : e.digest ≡ digest_bytes (value_of digest_name fs)
  pub size : e.size ≡ decimal_value (value_of data_size_name fs)
  pub sig1 : ReadsSig0 (value_of sig1_name fs) (sig0_scan (value_of sig1_name fs)) (Some e.sig1)

pub record ReadsEnd (fs : List Field) (r : Option EndRead) : Type 0 where
  pub good : is_some r ≡ (are_once fs && are_good fs)
  pub says : IfSome r (Says fs)
