-- The fields `X-Ouinet-Injection`, `X-Ouinet-BSigs` and `X-Ouinet-Sig0` (paper 01, "The head"). Assumes nothing.
use Rattle.std.specs.Prelude.{Bool, true, false, ◌&&◌, not, List, [], ◌∷◌, ◌++◌, ℕ, eqb, leb, length, drop}
use Rattle.octets.specs.Octets.{octets}
use Rattle.base64_text.specs.Base64.{is_base64}
use Rattle.stream.specs.Bytes.{between, is_digit, is_id_byte, is_quoted, same_name}
use Rattle.stream.specs.Fields.{among, is_doubled, has_field}
use Rattle.stream.specs.Limits.{id_limit, time_digits, block_limit, block_digits, name_limit}
use Rattle.stream.specs.Lines.{Field, in_front}
use Rattle.stream.specs.Numbers.{is_decimal, decimal_value}
use Rattle.stream.specs.Template.{Part, text, bytes, gap, Scanned, scan, is_like, kept, nth}

-- ---- `X-Ouinet-Injection`: "`id=` 1 to 64 letters, digits, `-`, `_`; then `,ts=` and 1 to 12 digits"

unfoldable pub injection_scan : List ℕ → Scanned
injection_scan l = scan (text (octets "id=") ∷ bytes is_id_byte ∷ text (octets ",ts=") ∷ bytes is_digit ∷ []) l

-- its parameters: the id, and `ts`
abbrev pub id_text : Scanned → List ℕ
id_text s = kept 0 s

abbrev pub time_text : Scanned → List ℕ
time_text s = kept 1 s

unfoldable pub is_injection : Scanned → Bool
is_injection s = is_like s && (between 1 id_limit (length (id_text s)) && is_decimal time_digits (time_text s))

-- ---- the two signature fields: "spaces and tabs may follow a comma between parameters"

-- `keyId` and `algorithm`, with which both begin; the key is kept, as the first of both
abbrev pub key_parts : List Part
key_parts = text (octets "keyId=\"ed25519=") ∷ bytes is_quoted ∷ text (octets "\",") ∷ gap ∷ text (octets "algorithm=\"hs2019\",") ∷ gap ∷ []

abbrev pub key_text : Scanned → List ℕ
key_text s = kept 0 s

-- `X-Ouinet-BSigs`: the key and the block size are kept
unfoldable pub bsigs_scan : List ℕ → Scanned
bsigs_scan l = scan (key_parts ++ text (octets "size=") ∷ bytes is_digit ∷ []) l

abbrev pub block_size_text : Scanned → List ℕ
block_size_text s = kept 1 s

-- "K is 44 characters for 32 bytes"; "N from 1 to 65,536 without leading zero"
unfoldable pub is_bsigs : Scanned → Bool
is_bsigs s =
    is_like s && (is_base64 32 (key_text s) && (is_decimal block_digits (block_size_text s) && between 1 block_limit (decimal_value (block_size_text s))))

-- `X-Ouinet-Sig0`: the key, `created`, the listed names and the signature are kept
unfoldable pub sig0_scan : List ℕ → Scanned
sig0_scan l =
    scan
    (key_parts
    ++ text (octets "created=")
    ∷ bytes is_digit
    ∷ text (octets ",")
    ∷ gap
    ∷ text (octets "headers=\"")
    ∷ bytes is_quoted
    ∷ text (octets "\",")
    ∷ gap
    ∷ text (octets "signature=\"")
    ∷ bytes is_quoted
    ∷ text (octets "\"")
    ∷ [])
    l

abbrev pub created_text : Scanned → List ℕ
created_text s = kept 1 s

abbrev pub names_text : Scanned → List ℕ
names_text s = kept 2 s

abbrev pub head_signature_text : Scanned → List ℕ
head_signature_text s = kept 3 s

-- "digits as `ts`"; "a signature 88 for 64"
unfoldable pub is_sig0 : Scanned → Bool
is_sig0 s = is_like s && (is_base64 32 (key_text s) && (is_decimal time_digits (created_text s) && is_base64 64 (head_signature_text s)))

-- ---- `headers`: "names with one space between"

-- a text split at each space: one name more than there are spaces
unfoldable pub split_names : List ℕ → List (List ℕ)
split_names [] = [] ∷ []
split_names (b ∷ l) = elim (eqb b 32) [ true ↦ [] ∷ split_names l | false ↦ in_front b (split_names l) ]

abbrev pub response_status_name : List ℕ
response_status_name = octets "(response-status)"

abbrev pub created_name : List ℕ
created_name = octets "(created)"

abbrev pub version_name : List ℕ
version_name = octets "x-ouinet-version"

abbrev pub uri_name : List ℕ
uri_name = octets "x-ouinet-uri"

abbrev pub injection_name : List ℕ
injection_name = octets "x-ouinet-injection"

abbrev pub bsigs_name : List ℕ
bsigs_name = octets "x-ouinet-bsigs"

abbrev pub sig0_name : List ℕ
sig0_name = octets "x-ouinet-sig0"

-- each is a field of this head
unfoldable pub are_fields : List Field → List (List ℕ) → Bool
are_fields fs [] = true
are_fields fs (n ∷ ns) = has_field n fs && are_fields fs ns

-- the listed names that stand for fields: all but the first two
abbrev pub listed_fields : List (List ℕ) → List (List ℕ)
listed_fields ns = drop 2 ns

-- "at most 32 in all, none twice"; "first `(response-status)`, then `(created)`, then fields of this head,
-- among them version, URI and injection, never `X-Ouinet-Sig0`"
unfoldable pub is_name_list : List Field → List (List ℕ) → Bool
is_name_list fs ns =
    leb (length ns) name_limit
    && (not (is_doubled ns)
    && (same_name (nth 0 ns) response_status_name
    && (same_name (nth 1 ns) created_name
    && (are_fields fs (listed_fields ns)
    && (among version_name ns && (among uri_name ns && (among injection_name ns && not (among sig0_name ns))))))))
