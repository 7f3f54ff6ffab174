-- Chunk lines, the block rule, the hash chain and the block message (paper 01, "Blocks"). Assumes nothing.
use Rattle.std.specs.Prelude.{Bool, true, false, ◌&&◌, ◌||◌, not, List, [], ◌∷◌, ◌++◌, ℕ, ◌+◌, ◌-◌, ◌*◌, eqb, leb, length, drop, take}
use Rattle.octets.specs.Octets.{octets}
use Rattle.base64_text.specs.Base64.{is_base64, base64_bytes}
use Rattle.hash.specs.Sha512.{sha512}
use Rattle.stream.specs.Bytes.{is_hex}
use Rattle.stream.specs.Limits.{line_limit, size_digits, body_limit}
use Rattle.stream.specs.Lines.{crlf, ends_with}
use Rattle.stream.specs.Numbers.{is_hex_number, hex_value, decimal}
use Rattle.stream.specs.Range.{Range, first_byte, is_within}
use Rattle.stream.specs.Rule.{Rule, rule, first_broken}
use Rattle.stream.specs.Template.{run, past, starts_with}

-- ---- a chunk line

-- "judged at its CR LF, or refused with 6 when 128 bytes have come without it"
unfoldable pub is_whole_line : List ℕ → Bool
is_whole_line l = ends_with crlf l || leb line_limit (length l)

-- the line without its CR LF
abbrev pub line_text : List ℕ → List ℕ
line_text l = take (length l - 2) l

abbrev pub size_text : List ℕ → List ℕ
size_text l = run is_hex (line_text l)

-- what comes after the size
abbrev pub extension : List ℕ → List ℕ
extension l = past is_hex (line_text l)

abbrev pub ouisig : List ℕ
ouisig = octets ";ouisig="

abbrev pub ouihash : List ℕ
ouihash = octets ";ouihash="

-- Which of the two stands after the size. Whether 88 characters follow is not asked: 6 is tested before 8.
unfoldable pub carries_signature : List ℕ → Bool
carries_signature l = starts_with ouisig (extension l)

unfoldable pub carries_hash : List ℕ → Bool
carries_hash l = starts_with ouihash (extension l)

abbrev pub signature_text : List ℕ → List ℕ
signature_text l = drop (length ouisig) (extension l)

abbrev pub hash_text : List ℕ → List ℕ
hash_text l = drop (length ouihash) (extension l)

-- "then nothing or `;ouisig=` and 88 characters"; request #104: or "`;ouihash=` and 88 characters". A line with both is longer than a line may be.
unfoldable pub is_extension : List ℕ → Bool
is_extension e =
    not (leb 1 (length e))
    || ((starts_with ouisig e && is_base64 64 (drop (length ouisig) e)) || (starts_with ouihash e && is_base64 64 (drop (length ouihash) e)))

-- "1 to 8 hex digits of either case", and what may come after them
unfoldable pub is_chunk_line : List ℕ → Bool
is_chunk_line l = ends_with crlf l && (is_hex_number size_digits (size_text l) && is_extension (extension l))

unfoldable pub chunk_size : List ℕ → ℕ
chunk_size l = hex_value (size_text l)

unfoldable pub line_signature : List ℕ → List ℕ
line_signature l = base64_bytes 64 (signature_text l)

-- the hash of the block before the first one of a part
unfoldable pub line_hash : List ℕ → List ℕ
line_hash l = base64_bytes 64 (hash_text l)

-- ---- the block rule

abbrev pub same_bool : Bool → Bool → Bool
same_bool true b = b
same_bool false b = not b

-- Request #104: "If a is above 0 the first chunk line carries `;ouihash=` ..; absent there, or so written on any other line of any answer, it is 8."
-- The first line is the one on which no signature is due.
unfoldable pub is_hash_due : Range → Bool → Bool
is_hash_due r due = leb 1 (first_byte r) && not due

-- What a line must keep, in the paper's order: 6, 8, 7, 9. N is the block size, and the answer carries the bytes r of the body; a signature is
-- due on all lines but the first; `full` says that the block before, if any, has N bytes; `sofar` bytes of the body come before the line's chunk.
unfoldable pub line_rules : ℕ → Range → Bool → Bool → ℕ → List ℕ → List Rule
line_rules N r due full sofar l =
    rule 6 (is_chunk_line l)
    ∷ rule 8 (same_bool due (carries_signature l))
    ∷ rule 8 (same_bool (is_hash_due r due) (carries_hash l))
    ∷ rule 7 (leb (chunk_size l) N && (full || eqb (chunk_size l) 0))
    ∷ rule 7 (is_within r sofar (chunk_size l))
    ∷ rule 9 (leb (sofar + chunk_size l) body_limit)
    ∷ []

unfoldable pub line_fault : ℕ → Range → Bool → Bool → ℕ → List ℕ → ℕ
line_fault N r due full sofar l = first_broken (line_rules N r due full sofar l)

-- ---- the hash chain and the message of a block

-- hash(i), from hash(i-1), which is nothing where i is 0, and block i
unfoldable pub chained : List ℕ → List ℕ → List ℕ
chained before block = sha512 (before ++ block)

-- "id, zero byte, offset in decimal, zero byte, 64 bytes of hash(i)"
unfoldable pub block_message : List ℕ → ℕ → List ℕ → List ℕ
block_message id offset hash = id ++ 0 ∷ (decimal offset ++ 0 ∷ hash)

-- "Offset is i times N"
abbrev pub offset_of : ℕ → ℕ → ℕ
offset_of i N = i * N
