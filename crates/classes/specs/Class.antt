-- The classes of bytes that heads, lines and trailers are scanned by, as the code names them. Assumes nothing.
use Rattle.std.specs.Prelude.{Bool, true, ℕ}
use Rattle.stream.specs.Bytes.{is_tchar, is_text, is_digit, is_hex, is_id_byte, is_quoted, is_blank}
use Rattle.classes.specs.declared.Class.{Class}
use Rattle.classes.specs.declared.Class.TheVariants.{Tchar, Text, Digit, Hex, Id, Quoted, Blank, Any}

-- each class is one of the definitions' tests; `Any` has every byte
unfoldable pub class_of : Class → ℕ → Bool
class_of Tchar = is_tchar
class_of Text = is_text
class_of Digit = is_digit
class_of Hex = is_hex
class_of Id = is_id_byte
class_of Quoted = is_quoted
class_of Blank = is_blank
class_of Any = λ b. true
