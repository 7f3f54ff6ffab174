-- The end of the show (request #101): "Read `Digest` .., `X-Ouinet-Data-Size` .. and `X-Ouinet-Sig1` .., each from the head or the trailer." What
-- the three say, the rules that they must keep, in the order of the request's words, and the signing string over Sig1. Assumes nothing.
use Rattle.std.specs.Prelude.{Bool, true, false, ◌&&◌, ◌||◌, not, List, [], ◌∷◌, ◌++◌, ℕ, eqb, length, drop}
use Rattle.octets.specs.Octets.{octets}
use Rattle.base64_text.specs.Base64.{is_base64, base64_bytes}
use Rattle.stream.specs.Bytes.{same, same_name}
use Rattle.stream.specs.Fields.{among, has_field, value_of, count_of}
use Rattle.stream.specs.Head.{Head, status_digits, head_key, listed_names}
use Rattle.stream.specs.Limits.{data_size_digits}
use Rattle.stream.specs.Lines.{Field, text_lines, fields_of}
use Rattle.stream.specs.Numbers.{is_decimal, decimal_value}
use Rattle.stream.specs.Range.{Range, whole, part}
use Rattle.stream.specs.Rule.{Rule, rule, first_broken}
use Rattle.stream.specs.Signatures.{sig0_scan, key_text, created_text, names_text, head_signature_text, is_sig0, split_names, listed_fields, response_status_name, created_name}
use Rattle.stream.specs.Signing.{joined_fields, signing_text}
use Rattle.stream.specs.Template.{Scanned, starts_with}

-- ---- the three fields

abbrev pub digest_name : List ℕ
digest_name = octets "digest"

abbrev pub data_size_name : List ℕ
data_size_name = octets "x-ouinet-data-size"

abbrev pub sig1_name : List ℕ
sig1_name = octets "x-ouinet-sig1"

-- the fields of a head, and of the trailer l after it
unfoldable pub all_fields : Head → List ℕ → List Field
all_fields h l = h.fields ++ fields_of (text_lines l)

-- there is any of the three, by its name: of "none of the three" is *closed* as before
unfoldable pub is_claimed : List Field → Bool
is_claimed fs = has_field digest_name fs || (has_field data_size_name fs || has_field sig1_name fs)

-- the end that they claim is to be checked; request #104, of a part answer: "The end checks of #101 are skipped and the last word is *closed*."
unfoldable pub is_checked : Range → List Field → Bool
is_checked whole fs = is_claimed fs
is_checked (part a b t) fs = false

-- ---- what each says

abbrev pub digest_label : List ℕ
digest_label = octets "SHA-256="

-- "`SHA-256=` and 44 base64 characters"
unfoldable pub is_digest : List ℕ → Bool
is_digest v = starts_with digest_label v && is_base64 32 (drop (length digest_label) v)

unfoldable pub digest_bytes : List ℕ → List ℕ
digest_bytes v = base64_bytes 32 (drop (length digest_label) v)

-- "1 to 10 digits, no leading zero unless it is `0`"
abbrev pub is_data_size : List ℕ → Bool
is_data_size v = is_decimal data_size_digits v

-- what head and trailer say of the end, where each of the three is there; "written as Sig0"
pub record Ends : Type 0 where
  pub digest : List ℕ
  pub data_size : List ℕ
  pub sig1 : Scanned

unfoldable pub ends_in : List Field → Ends
ends_in fs =
    record { digest = value_of digest_name fs; data_size = value_of data_size_name fs; sig1 = sig0_scan (value_of sig1_name fs) }

abbrev pub end_signature : Ends → List ℕ
end_signature e = base64_bytes 64 (head_signature_text e.sig1)

-- ---- the rules of the end

-- "some but not all, one given twice anywhere" is neither
abbrev pub is_once : List ℕ → List Field → Bool
is_once n fs = eqb (count_of n fs) 1

-- the names of Sig1, after those of Sig0
abbrev pub added_names : List (List ℕ)
added_names = digest_name ∷ data_size_name ∷ []

-- two lists, item by item, "without case"
unfoldable pub same_names : List (List ℕ) → List (List ℕ) → Bool
same_names [] [] = true
same_names [] (n ∷ ns) = false
same_names (m ∷ ms) [] = false
same_names (m ∷ ms) (n ∷ ns) = same_name m n && same_names ms ns

-- "Sig1's list is, without case, Sig0's list with `digest` and `x-ouinet-data-size` added at its end". So it has two names more than Sig0's,
-- 34 at most.
unfoldable pub is_end_list : Head → Ends → Bool
is_end_list h e = same_names (split_names (names_text e.sig1)) (listed_names h ++ added_names)

-- "in this order: .. some but not all, one given twice anywhere, wrong text or list, or either name already in Sig0's list, refusal 13; size
-- unlike the bytes released, 14; SHA-256 of the body unlike the digest, 15; then a question over Sig1, its key as Sig0's or 12". The body has
-- `total` bytes, and `hash` is its SHA-256.
unfoldable pub end_rules : Head → List Field → ℕ → List ℕ → List Rule
end_rules h fs total hash =
    let e = ends_in fs in
    rule 13 (is_once digest_name fs)
    ∷ rule 13 (is_once data_size_name fs)
    ∷ rule 13 (is_once sig1_name fs)
    ∷ rule 13 (is_digest e.digest)
    ∷ rule 13 (is_data_size e.data_size)
    ∷ rule 13 (is_sig0 e.sig1)
    ∷ rule 13 (is_end_list h e)
    ∷ rule 13 (not (among digest_name (listed_names h)))
    ∷ rule 13 (not (among data_size_name (listed_names h)))
    ∷ rule 14 (eqb (decimal_value e.data_size) total)
    ∷ rule 15 (same (digest_bytes e.digest) hash)
    ∷ rule 12 (same (base64_bytes 32 (key_text e.sig1)) (head_key h))
    ∷ []

-- the number of the first broken rule, 0 where the end is good
unfoldable pub end_fault : Head → List Field → ℕ → List ℕ → ℕ
end_fault h fs total hash = first_broken (end_rules h fs total hash)

-- ---- the question about the end

-- The signing string over Sig1: `(created)` is Sig1's own, the two names that it adds take the value that head or trailer gives, and all
-- others the head's. Names are written in lower case, so that it does not matter in which case Sig1 lists those of Sig0.
unfoldable pub end_string : Head → Ends → List ℕ
end_string h e =
    signing_text
    (record { name = response_status_name; value = status_digits h }
    ∷ record { name = created_name; value = created_text e.sig1 }
    ∷ (joined_fields h.fields (listed_fields (listed_names h))
    ++ record { name = digest_name; value = e.digest }
    ∷ record { name = data_size_name; value = e.data_size }
    ∷ []))
