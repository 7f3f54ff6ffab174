-- The texts of a stream as forms, "however long as a whole and with its line ends" (request #106): what may stand where, by text alone. Neither
-- the number of fields, nor two of one name, nor whether a signature is due, belongs to the text. That each form has just the good texts of
-- the rules is proved (crate text_forms). Assumes nothing.
use Rattle.std.specs.Prelude.{Bool, true, false, ◌&&◌, ◌≡◌, refl, ℕ, zero, suc, ◌+◌, ◌*◌, ◌%◌, eqb, leb}
use Rattle.std.proofs.Math.Option.{Option, none, some}
use Rattle.octets.specs.Choice.{pick}
use Rattle.octets.specs.Octets.{octets}
use Rattle.base64_text.specs.Base64.{letter_value, is_base64_letter}
use Rattle.scanner.specs.Form.{Class, Form, done, one, up_to, many, either, each, text, times, after}
use Rattle.scanner.specs.Scanner.{Scanner}
use Rattle.stream.specs.Bytes.{between, is_hex, is_digit, is_tchar, is_text}
use Rattle.stream.specs.Lines.{crlf}
use Rattle.stream.specs.Numbers.{decimal_digit}

-- ---- classes of bytes

abbrev pub hex_byte : Class
hex_byte = record { has = is_hex; sample = 48; member = refl }

abbrev pub digit : Class
digit = record { has = is_digit; sample = 48; member = refl }

abbrev pub is_positive : ℕ → Bool
is_positive b = between 49 57 b

abbrev pub positive_digit : Class
positive_digit = record { has = is_positive; sample = 49; member = refl }

abbrev pub name_byte : Class
name_byte = record { has = is_tchar; sample = 97; member = refl }

-- letters of base64 whose value is a multiple of m: the last letter before padding has no other bits
abbrev pub is_multiple : ℕ → ℕ → Bool
is_multiple m b = is_base64_letter b && eqb (letter_value b % m) 0

pub first_letter : is_base64_letter 65 ≡ true
unfolding letter_value
first_letter = refl

pub first_multiple : is_multiple 16 65 ≡ true
unfolding letter_value
first_multiple = refl

abbrev pub letter : Class
letter = record { has = is_base64_letter; sample = 65; member = first_letter }

abbrev pub last_letter : Class
last_letter = record { has = is_multiple 16; sample = 65; member = first_multiple }

-- ---- chunk lines, and the end of a block's data

-- "88 characters": 64 bytes in base64
unfoldable pub signature_form : Form
signature_form = times 85 letter (one last_letter (text (octets "==") done))

-- `;ouisig=` or `;ouihash=`, whose first four bytes are the same, and 88 characters
unfoldable pub extension_form : Form
extension_form = text (octets ";oui") (either (text (octets "sig=") signature_form) (text (octets "hash=") signature_form))

-- "1 to 8 hex digits of either case, then nothing or `;ouisig=` and 88 characters"; request #104: or "`;ouihash=` and 88 characters"
unfoldable pub size_form : Form
size_form = one hex_byte (up_to 7 is_hex (either extension_form done))

unfoldable pub chunk_form : Form
chunk_form = after size_form (text crlf done)

unfoldable pub data_end_form : Form
data_end_form = text crlf done

-- ---- heads and trailers

-- "name of one or more `tchar`"
unfoldable pub name_form : Form
name_form = one name_byte (many is_tchar done)

-- "name of one or more `tchar`, colon, value"
unfoldable pub field_form : Form
field_form = after name_form (text (octets ":") (many is_text done))

unfoldable pub field_line_form : Form
field_line_form = after field_form (text crlf done)

-- "CR LF at once, or field lines up to the first CR LF CR LF"
unfoldable pub trailer_form : Form
trailer_form = each field_line_form (text crlf done)

-- "`HTTP/1.1`, space, three digits, space, reason (may be empty)"
unfoldable pub status_form : Form
status_form = text (octets "HTTP/1.1 ") (times 3 digit (text (octets " ") (many is_text done)))

unfoldable pub status_line_form : Form
status_line_form = after status_form (text crlf done)

unfoldable pub head_form : Form
head_form = after status_form (text crlf trailer_form)

-- ---- numbers

-- a decimal of at most n + 1 digits, "no leading zero unless it is `0`"
unfoldable pub decimal_form : ℕ → Form
decimal_form n = either (text (octets "0") done) (one positive_digit (up_to n is_digit done))

-- 1 to n + 1 hex digits
unfoldable pub hex_form : ℕ → Form
hex_form n = one hex_byte (up_to n is_hex done)

-- A number from 1 to a limit, of at most n + 1 digits: what may come depends on the number that is written already, so no template has it.
-- First no digit has come; then at most so many may still come, after some that wrote this number.
pub data Count : Type 0 where
  fresh : Count
  wrote : ℕ → ℕ → Count

unfoldable pub step_count : ℕ → ℕ → Count → ℕ → Option Count
step_count limit n fresh b = pick (is_positive b && leb (decimal_digit b) limit) (some (wrote n (decimal_digit b))) none
step_count limit n (wrote zero v) b = none
step_count limit n (wrote (suc k) v) b = pick (is_digit b && leb (v * 10 + decimal_digit b) limit) (some (wrote k (v * 10 + decimal_digit b))) none

unfoldable pub may_end_count : Count → Bool
may_end_count fresh = false
may_end_count (wrote k v) = true

abbrev pub count_up_to : ℕ → ℕ → Scanner Count
count_up_to limit n = record { start = fresh; step = step_count limit n; may_end = may_end_count }
