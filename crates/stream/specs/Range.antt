-- Which bytes of the body an answer carries (request #104: "Accept status 206 with one `Content-Range: bytes a-b/t`"), and what that field must be
-- like. Assumes nothing.
use Rattle.std.specs.Prelude.{Bool, true, ◌&&◌, ◌||◌, List, [], ◌∷◌, ℕ, suc, ◌+◌, ◌%◌, eqb, leb, ltb}
use Rattle.octets.specs.Octets.{octets}
use Rattle.stream.specs.Bytes.{is_digit}
use Rattle.stream.specs.Limits.{time_digits, body_limit}
use Rattle.stream.specs.Numbers.{is_decimal, decimal_value}
use Rattle.stream.specs.Template.{text, bytes, Scanned, scan, is_like, kept}

-- a whole answer; or a part answer, `bytes a-b/t`: the first byte, the last one, and how many the whole body has
pub data Range : Type 0 where
  whole : Range
  part : ℕ → ℕ → ℕ → Range

-- "Offsets start at a"
unfoldable pub first_byte : Range → ℕ
first_byte whole = 0
first_byte (part a b t) = a

-- ---- a chunk of n bytes after `sofar` bytes of the body

-- "A 0 line before b-a+1 bytes, or a chunk past them, is 7": all of them came before a 0 line, and no chunk goes past the last one
unfoldable pub is_within : Range → ℕ → ℕ → Bool
is_within whole sofar n = true
is_within (part a b t) sofar n = leb (sofar + n) (suc b) && (leb 1 n || leb (suc b) sofar)

-- ---- `Content-Range`

abbrev pub content_range_name : List ℕ
content_range_name = octets "content-range"

-- its three numbers are kept
unfoldable pub range_scan : List ℕ → Scanned
range_scan l =
    scan (text (octets "bytes ") ∷ bytes is_digit ∷ text (octets "-") ∷ bytes is_digit ∷ text (octets "/") ∷ bytes is_digit ∷ []) l

unfoldable pub range_said : Scanned → Range
range_said s = part (decimal_value (kept 0 s)) (decimal_value (kept 1 s)) (decimal_value (kept 2 s))

abbrev pub is_multiple_of : ℕ → ℕ → Bool
is_multiple_of N n = eqb (n % N) 0

-- "a at most b, b below t, t within the body limit, a divisible by N, and b+1 equal to t or divisible by N"
unfoldable pub is_aligned : ℕ → Range → Bool
is_aligned N whole = true
is_aligned N (part a b t) =
    leb a b && (ltb b t && (leb t body_limit && (is_multiple_of N a && (eqb (suc b) t || is_multiple_of N (suc b)))))

-- "digits as `ts`"; N is the block size
unfoldable pub is_content_range : ℕ → Scanned → Bool
is_content_range N s =
    is_like s
    && (is_decimal time_digits (kept 0 s) && (is_decimal time_digits (kept 1 s) && (is_decimal time_digits (kept 2 s) && is_aligned N (range_said s))))
