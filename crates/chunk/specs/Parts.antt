-- What the private functions' contracts name: a line's text by its parts, and the rules after the text's. No public
-- contract names these. Assumes nothing.
use Rattle.std.specs.Prelude.{Bool, true, false, ◌&&◌, ◌||◌, List, [], ◌∷◌, ℕ, zero, suc, ◌+◌, eqb, leb, length, drop, Option, Some, None, option_map}
use Rattle.base64_text.specs.Decoding.{read_as}
use Rattle.octets.specs.Choice.{pick}
use Rattle.stream.specs.Blocks.{ouisig, ouihash, is_chunk_line, carries_signature, carries_hash, chunk_size, line_signature, line_hash, same_bool, is_hash_due}
use Rattle.stream.specs.Bytes.{is_hex}
use Rattle.stream.specs.Limits.{size_digits, body_limit}
use Rattle.stream.specs.Numbers.{is_hex_number, hex_value}
use Rattle.stream.specs.Range.{Range, is_within}
use Rattle.stream.specs.Rule.{Rule, rule}
use Rattle.stream.specs.Template.{run, past, starts_with}
use Rattle.chunk.specs.Judging.{zeros}
use Rattle.chunk.specs.declared.reading.Carried.{Carried}
use Rattle.chunk.specs.declared.reading.Carried.TheVariants.{Nothing, Signature, Hash}
use Rattle.chunk.specs.declared.reading.ChunkText.{ChunkText}

-- ---- the text

abbrev pub text_of : ℕ → Carried → ChunkText
text_of size carried = record { size = size; carried = carried }

-- the signature, or the hash, that a line carries
abbrev pub carried_of : List ℕ → Carried
carried_of l = pick (carries_signature l) (Signature (line_signature l)) (pick (carries_hash l) (Hash (line_hash l)) Nothing)

unfoldable pub line_read : List ℕ → Option ChunkText
line_read l = pick (is_chunk_line l) (Some (text_of (chunk_size l) (carried_of l))) None

-- what comes after the size: nothing, or the name of a signature or a hash, and its 64 bytes in base64
unfoldable pub extension_read : List ℕ → Option Carried
extension_read e =
    pick (eqb (length e) 0)
    (Some Nothing)
    (pick (starts_with ouisig e)
    (option_map Signature (read_as 64 (drop (length ouisig) e)))
    (pick (starts_with ouihash e) (option_map Hash (read_as 64 (drop (length ouihash) e))) None))

-- the text of a line without its CR LF
unfoldable pub text_read : List ℕ → Option ChunkText
text_read t =
    pick (is_hex_number size_digits (run is_hex t))
    (option_map (text_of (hex_value (run is_hex t))) (extension_read (past is_hex t)))
    None

-- ---- the rules 8, 7 and 9, in their order

abbrev pub is_signature : Carried → Bool
is_signature Nothing = false
is_signature (Signature bytes) = true
is_signature (Hash bytes) = false

abbrev pub is_hash : Carried → Bool
is_hash Nothing = false
is_hash (Signature bytes) = false
is_hash (Hash bytes) = true

-- both rules of 8
unfoldable pub is_due : Range → Bool → Carried → Bool
is_due r due c = same_bool due (is_signature c) && same_bool (is_hash_due r due) (is_hash c)

unfoldable pub size_rules : ℕ → Range → Bool → ℕ → ℕ → List Rule
size_rules N r full sofar size =
    rule 7 (leb size N && (full || eqb size 0))
    ∷ rule 7 (is_within r sofar size)
    ∷ rule 9 (leb (sofar + size) body_limit)
    ∷ []

-- none for the 0 that says that all hold
abbrev pub number_of : ℕ → Option ℕ
number_of zero = None
number_of (suc n) = Some (suc n)

-- ---- what a good line hands on

-- the bytes that are carried, or zeros
abbrev pub bytes_in : Carried → List ℕ
bytes_in Nothing = zeros
bytes_in (Signature bytes) = bytes
bytes_in (Hash bytes) = bytes
