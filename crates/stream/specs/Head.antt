-- The head: what it says, and the rules that it must keep, in the order in which they are tested (paper 01, "The head").
-- Assumes nothing.
use Rattle.std.specs.Prelude.{Bool, false, ◌&&◌, ◌||◌, not, List, [], ◌∷◌, ◌++◌, ℕ, eqb, leb, length, drop}
use Rattle.std.proofs.Math.Option.{Option}
use Rattle.octets.specs.Choice.{pick}
use Rattle.octets.specs.Octets.{octets}
use Rattle.base64_text.specs.Base64.{base64_bytes}
use Rattle.stream.specs.Bytes.{same, same_name}
use Rattle.stream.specs.Fields.{is_protected_doubled, names_of, has_field, value_of, count_of}
use Rattle.stream.specs.Limits.{head_limit, field_limit}
use Rattle.stream.specs.Lines.{crlf, ends_with, text_lines, Field, are_field_lines, fields_of, is_status_line, status_of}
use Rattle.stream.specs.Numbers.{decimal_value}
use Rattle.stream.specs.Range.{Range, whole, content_range_name, range_scan, range_said, is_content_range}
use Rattle.stream.specs.Ring.{Ring, found, is_found}
use Rattle.stream.specs.Rule.{Rule, rule, first_broken}
use Rattle.stream.specs.Signatures.{injection_scan, id_text, time_text, is_injection, bsigs_scan, key_text, block_size_text, is_bsigs, sig0_scan, created_text, names_text, head_signature_text, is_sig0, split_names, listed_fields, is_name_list, response_status_name, created_name, version_name, uri_name, injection_name, bsigs_name, sig0_name}
use Rattle.stream.specs.Signing.{signed_fields, joined_fields, signing_text}
use Rattle.stream.specs.Template.{Scanned, nth}
use Rattle.stream.specs.Terms.{Terms}

-- "at the first CR LF CR LF, or refused with 3 when 8,192 bytes have come without it"; request #108: "Head and trailer limit to 32,768"
unfoldable pub ends_head : List ℕ → Bool
ends_head l = ends_with (crlf ++ crlf) l

unfoldable pub is_whole_head : List ℕ → Bool
is_whole_head l = ends_head l || leb head_limit (length l)

-- ---- what a head says

pub record Head : Type 0 where
  -- the first line, and the lines after it
  pub status_line : List ℕ
  pub field_lines : List (List ℕ)
  pub fields : List Field
  -- the parameters: of `X-Ouinet-Injection` id and time, of `X-Ouinet-BSigs` key and size, of `X-Ouinet-Sig0` key,
  -- creation time, names and signature
  pub injection : Scanned
  pub bsigs : Scanned
  pub sig0 : Scanned

unfoldable pub head_with : List ℕ → List (List ℕ) → List Field → Head
head_with status_line field_lines fields =
    record {
      status_line = status_line;
      field_lines = field_lines;
      fields = fields;
      injection = injection_scan (value_of injection_name fields);
      bsigs = bsigs_scan (value_of bsigs_name fields);
      sig0 = sig0_scan (value_of sig0_name fields);
    }

unfoldable pub head_of : List ℕ → Head
head_of l = head_with (nth 0 (text_lines l)) (drop 1 (text_lines l)) (fields_of (drop 1 (text_lines l)))

-- the three digits of the status
unfoldable pub status_digits : Head → List ℕ
status_digits h = status_of h.status_line

-- request #104: a part answer, "status 206"
unfoldable pub is_partial : Head → Bool
is_partial h = same (status_digits h) (octets "206")

abbrev pub http_status_name : List ℕ
http_status_name = octets "x-ouinet-http-status"

-- the status that is signed: of a part answer `X-Ouinet-HTTP-Status` "stands for `(response-status)`"; "In other answers both are plain fields."
unfoldable pub signed_status : Head → List ℕ
signed_status h = pick (is_partial h) (value_of http_status_name h.fields) (status_digits h)

abbrev pub content_range : Head → Scanned
content_range h = range_scan (value_of content_range_name h.fields)

-- the bytes of the body that the answer carries
unfoldable pub range_of : Head → Range
range_of h = pick (is_partial h) (range_said (content_range h)) whole

unfoldable pub injection_id : Head → List ℕ
injection_id h = id_text h.injection

-- the show's URI, trimmed as every value is
abbrev pub head_uri : Head → List ℕ
head_uri h = value_of uri_name h.fields

-- `ts`, in seconds
unfoldable pub injection_time : Head → ℕ
injection_time h = decimal_value (time_text h.injection)

-- N
unfoldable pub block_size : Head → ℕ
block_size h = decimal_value (block_size_text h.bsigs)

unfoldable pub block_key : Head → List ℕ
block_key h = base64_bytes 32 (key_text h.bsigs)

unfoldable pub head_key : Head → List ℕ
head_key h = base64_bytes 32 (key_text h.sig0)

unfoldable pub listed_names : Head → List (List ℕ)
listed_names h = split_names (names_text h.sig0)

unfoldable pub head_signature : Head → List ℕ
head_signature h = base64_bytes 64 (head_signature_text h.sig0)

-- the fields whose values are handed out: "for fields in the signed list only", and a repeated one as often as it is there
unfoldable pub signed_of : Head → List Field
signed_of h = signed_fields h.fields (listed_fields (listed_names h))

-- "`(response-status)` is the three digits, `(created)` the digits as given"
unfoldable pub signing_string : Head → List ℕ
signing_string h =
    signing_text
    (record { name = response_status_name; value = signed_status h }
    ∷ record { name = created_name; value = created_text h.sig0 }
    ∷ joined_fields h.fields (listed_fields (listed_names h)))

-- the number of the record that trusts the key of `X-Ouinet-Sig0` at the time `ts`
unfoldable pub trusted_by : Ring → Head → Option ℕ
trusted_by ring h = found (head_key h) (injection_time h) ring

-- ---- the rules of a head

-- "Status 200, 301, 302 or 307"
abbrev pub statuses : List (List ℕ)
statuses = octets "200" ∷ octets "301" ∷ octets "302" ∷ octets "307" ∷ []

abbrev pub is_one : List (List ℕ) → List ℕ → Bool
is_one [] d = false
is_one (s ∷ []) d = same d s
is_one (s ∷ t ∷ ss) d = same d s || is_one (t ∷ ss) d

abbrev pub is_status : List ℕ → Bool
is_status d = is_one statuses d

-- request #104: "one `Content-Range`", with its rules
unfoldable pub is_ranged : Head → Bool
is_ranged h = not (is_partial h) || (eqb (count_of content_range_name h.fields) 1 && is_content_range (block_size h) (content_range h))

-- "All of 3 is tested first, then 4 and 5 in the order listed"; request #104, at the status's place: 206 with its range, and
-- "`X-Ouinet-HTTP-Status`, one of the four old statuses, is needed"
unfoldable pub text_rules : List ℕ → Head → List Rule
text_rules l h =
    rule 3 (ends_head l)
    ∷ rule 3 (is_status_line h.status_line)
    ∷ rule 3 (are_field_lines h.field_lines)
    ∷ rule 3 (leb (length h.fields) field_limit)
    ∷ rule 3 (not (is_protected_doubled (names_of h.fields)))
    ∷ rule 4 (has_field version_name h.fields)
    ∷ rule 5 (same (value_of version_name h.fields) (octets "4"))
    ∷ rule 4 (is_status (signed_status h))
    ∷ rule 4 (is_ranged h)
    ∷ rule 4 (same_name (value_of (octets "transfer-encoding") h.fields) (octets "chunked"))
    ∷ rule 4 (not (has_field (octets "content-length") h.fields))
    ∷ rule 4 (leb 1 (length (head_uri h)))
    ∷ rule 4 (is_injection h.injection)
    ∷ rule 4 (is_bsigs h.bsigs)
    ∷ rule 4 (is_sig0 h.sig0)
    ∷ rule 4 (is_name_list h.fields (listed_names h))
    ∷ []

-- "then 12": no record that fits, "or a BSigs key unlike Sig0's"
abbrev pub trust_rules : Ring → Head → List Rule
trust_rules ring h = rule 12 (is_found (trusted_by ring h)) ∷ rule 12 (same (block_key h) (head_key h)) ∷ []

-- What the caller's terms ask of a head. Request #105: one "whose `X-Ouinet-URI` differs in any byte is refused with 16, after all of 4 and 5
-- and before 12".
unfoldable pub caller_rules : Terms → Head → List Rule
caller_rules terms h = rule 16 (same (head_uri h) terms.uri) ∷ trust_rules terms.ring h

-- the number of the first broken rule, 0 where the head is good
unfoldable pub head_fault : Terms → List ℕ → ℕ
head_fault terms l = first_broken (text_rules l (head_of l) ++ caller_rules terms (head_of l))
