-- The rules of a head in the groups in which the code tests them. No public contract names these. Assumes nothing.
use Rattle.std.specs.Prelude.{Bool, ◌&&◌, not, List, [], ◌∷◌, ◌≡◌, ℕ, eqb, leb, length, is_some, Option, Some, None, IfSome, unwrap_or}
use Rattle.octets.specs.Choice.{pick}
use Rattle.octets.specs.Octets.{octets}
use Rattle.stream.specs.Bytes.{same, same_name}
use Rattle.stream.specs.Fields.{is_protected_doubled, names_of, has_field, value_of, count_of}
use Rattle.stream.specs.Head.{Head, head_of, ends_head, is_status, signed_status, is_ranged, status_digits, range_of}
use Rattle.stream.specs.Limits.{field_limit}
use Rattle.stream.specs.Lines.{Field, is_status_line, are_field_lines}
use Rattle.stream.specs.Numbers.{decimal_value}
use Rattle.stream.specs.Range.{content_range_name, range_scan}
use Rattle.stream.specs.Rule.{Rule, rule}
use Rattle.stream.specs.Signatures.{injection_scan, is_injection, bsigs_scan, is_bsigs, sig0_scan, names_text, is_sig0, split_names, is_name_list, version_name, uri_name, injection_name, bsigs_name, sig0_name}
use Rattle.stream.specs.Template.{Scanned}
use Rattle.fields.specs.Table.{fields_in}
use Rattle.params.specs.BlockSigs.{bsigs_of}
use Rattle.params.specs.HeadSig.{ReadsSig0}
use Rattle.params.specs.Injection.{injection_of}
use Rattle.names.specs.NameList.{names_in}
use Rattle.ranges.specs.Reading.{range_read}
use Rattle.ranges.specs.Extent.{extent_of}
use Rattle.ranges.specs.declared.extent.Extent.{Extent}
use Rattle.ranges.specs.declared.extent.Extent.TheVariants.{Whole}
use Rattle.fields.specs.declared.table.Fields.{Fields}
use Rattle.head.specs.declared.whole.HeadRead.{HeadRead}
use Rattle.names.specs.declared.reading.Names.{Names}
use Rattle.head.specs.declared.signed.Signed.{Signed}
use Rattle.head.specs.declared.signed.SignedParts.{SignedParts}
use Rattle.head.specs.declared.status.StatusRead.{StatusRead}
use Rattle.head.specs.Reading.{signed_digits}

-- ---- the rules of lines, which all have the number 3

unfoldable pub are_good_lines : List ℕ → Head → Bool
are_good_lines l h =
    ends_head l
    && (is_status_line h.status_line
    && (are_field_lines h.field_lines && (leb (length h.fields) field_limit && not (is_protected_doubled (names_of h.fields)))))

-- where they are kept the table has the head's fields
pub record ReadsLines (text : List ℕ) (r : Option Fields) : Type 0 where
  pub good : is_some r ≡ are_good_lines text (head_of text)
  pub fields : IfSome r (λ f. fields_in text f ≡ (head_of text).fields)

-- ---- the rules of fields that hold no parameters

unfoldable pub version_rules : List Field → List Rule
version_rules fs = rule 4 (has_field version_name fs) ∷ rule 5 (same (value_of version_name fs) (octets "4")) ∷ []

-- the number of a status that may be signed
unfoldable pub status_number : List ℕ → Option ℕ
status_number digits = pick (is_status digits) (Some (decimal_value digits)) None

unfoldable pub is_plain : List Field → Bool
is_plain fs =
    same_name (value_of (octets "transfer-encoding") fs) (octets "chunked")
    && (not (has_field (octets "content-length") fs) && leb 1 (length (value_of uri_name fs)))

-- ---- the fields that hold parameters

unfoldable pub are_signed : List Field → Scanned → Scanned → Scanned → Bool
are_signed fs injection bsigs sig0 = is_injection injection && (is_bsigs bsigs && (is_sig0 sig0 && is_name_list fs (split_names (names_text sig0))))

-- what each says, where all are good
pub record SignedSays (text : List ℕ) (fs : List Field) (s : Signed) : Type 0 where
  pub injection : Some s.injection ≡ injection_of (injection_scan (value_of injection_name fs))
  pub bsigs : Some s.bsigs ≡ bsigs_of (bsigs_scan (value_of bsigs_name fs))
  pub sig0 : ReadsSig0 text (sig0_scan (value_of sig0_name fs)) (Some s.sig0)
  pub names : names_in (names_text (sig0_scan (value_of sig0_name fs))) s.names ≡ split_names (names_text (sig0_scan (value_of sig0_name fs)))

pub record ReadsSigned (text : List ℕ) (fs : List Field) (r : Option Signed) : Type 0 where
  pub good : is_some r ≡ are_signed fs (injection_scan (value_of injection_name fs)) (bsigs_scan (value_of bsigs_name fs)) (sig0_scan (value_of sig0_name fs))
  pub says : IfSome r (SignedSays text fs)

-- the names that are listed, where the list is good
pub record ReadsList (fs : List Field) (sig0 : Scanned) (r : Option Names) : Type 0 where
  pub good : is_some r ≡ (is_sig0 sig0 && is_name_list fs (split_names (names_text sig0)))
  pub names : IfSome r (λ n. names_in (names_text sig0) n ≡ split_names (names_text sig0))

-- what each says by itself, whether or not the others are good
pub record SaysParts (text : List ℕ) (fs : List Field) (r : SignedParts) : Type 0 where
  pub injection : r.injection ≡ injection_of (injection_scan (value_of injection_name fs))
  pub bsigs : r.bsigs ≡ bsigs_of (bsigs_scan (value_of bsigs_name fs))
  pub sig0 : ReadsSig0 text (sig0_scan (value_of sig0_name fs)) r.sig0
  pub names : ReadsList fs (sig0_scan (value_of sig0_name fs)) r.names

-- ---- the status, with blocks of N bytes

-- the bytes that a part answer carries
unfoldable pub part_read : List Field → ℕ → Option Extent
part_read fs N = pick (eqb (count_of content_range_name fs) 1) (range_read N (range_scan (value_of content_range_name fs))) None

abbrev pub with_part : Option Extent → Option StatusRead
with_part None = None
with_part (Some e) = Some (record { number = 206; extent = e })

unfoldable pub status_read : List ℕ → List Field → ℕ → Option StatusRead
status_read digits fs N =
    pick (is_status (signed_digits digits fs))
    (pick (same digits (octets "206")) (with_part (part_read fs N)) (Some (record { number = decimal_value digits; extent = Whole })))
    None

-- the same, by whether the status that a part answer signs is good
abbrev pub part_kept : Bool → List Field → ℕ → Option StatusRead
part_kept signed fs N = pick signed (with_part (part_read fs N)) None

-- what a status says all the same where a rule is not kept
unfoldable pub part_said : List Field → ℕ → StatusRead
part_said fs N = record { number = 206; extent = unwrap_or (range_read N (range_scan (value_of content_range_name fs))) Whole }

unfoldable pub status_said : List ℕ → List Field → ℕ → StatusRead
status_said digits fs N =
    pick (same digits (octets "206")) (part_said fs N) (record { number = unwrap_or (status_number (signed_digits digits fs)) 0; extent = Whole })

-- ---- all rules

-- the rules after the version's, which have the number 4
unfoldable pub is_sound : Head → Bool
is_sound h =
    (is_status (signed_status h) && is_ranged h) && (is_plain h.fields && are_signed h.fields h.injection h.bsigs h.sig0)

-- what the rules after the version's leave
pub record RestSays (text : List ℕ) (r : HeadRead) : Type 0 where
  pub status : r.status ≡ decimal_value (status_digits (head_of text))
  pub extent : r.extent ≡ extent_of (range_of (head_of text))
  pub fields : fields_in text r.fields ≡ (head_of text).fields
  pub signed : SignedSays text (head_of text).fields r.signed

pub record ReadsRest (text : List ℕ) (r : Option HeadRead) : Type 0 where
  pub good : is_some r ≡ is_sound (head_of text)
  pub says : IfSome r (RestSays text)

-- the first broken rule, by whether the lines are good, the version's fault and whether the rest is sound
unfoldable pub fault_of : Bool → ℕ → Bool → ℕ
fault_of lines version sound = pick lines (pick (eqb version 0) (pick sound 0 4) version) 3
