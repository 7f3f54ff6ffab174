-- What the states of the loop stand for: the form of what is still to come. Every number in a state stands for something, forged ones too. No public
-- contract names these. Assumes nothing.
use Rattle.std.specs.Prelude.{Bool, true, false, List, ℕ, drop, Option as Maybe, Some, None}
use Rattle.std.proofs.Math.Option.{Option, none, some}
use Rattle.octets.specs.Octets.{octets}
use Rattle.places.specs.declared.Checked.{Checked}
use Rattle.scanner.specs.Form.{Form, done, one, only, up_to, many, either, text, times, accepts_form, reach_form}
use Rattle.stream.specs.Bytes.{is_hex, is_tchar, is_text}
use Rattle.stream.specs.Forms.{letter, last_letter, digit, chunk_form, data_end_form, name_form, field_line_form, trailer_form}
use Rattle.stream.specs.Lines.{crlf}
use Rattle.scanning.specs.declared.state.State.{State}
use Rattle.scanning.specs.declared.state.State.TheVariants.{Line, Digits, Mark, Sig, Hash, Letters, Pads, Pad, Return, Version, Status, Lines, Field, FieldName, Value, LineFeed, Name, NameRest, End}

-- ---- the rest of a chunk line

unfoldable pub letters_form : ℕ → Form
letters_form n = times n letter (one last_letter (text (octets "==") data_end_form))

unfoldable pub sig_form : ℕ → Form
sig_form k = text (drop k (octets "sig=")) (letters_form 85)

unfoldable pub hash_form : ℕ → Form
hash_form k = text (drop k (octets "hash=")) (letters_form 85)

unfoldable pub mark_form : ℕ → Form
mark_form k = text (drop k (octets ";oui")) (either (sig_form 0) (hash_form 0))

unfoldable pub digits_form : ℕ → Form
digits_form n = up_to n is_hex (either (mark_form 0) data_end_form)

-- ---- the rest of a line of a head or a trailer

-- what follows the line
abbrev pub follow_form : Bool → Form
follow_form true = trailer_form
follow_form false = done

unfoldable pub feed_form : Bool → Form
feed_form follows = one (only 10) (follow_form follows)

unfoldable pub value_form : Bool → Form
value_form follows = many is_text (text crlf (follow_form follows))

unfoldable pub field_name_form : Bool → Form
field_name_form follows = many is_tchar (text (octets ":") (value_form follows))

abbrev pub version : List ℕ
version = octets "HTTP/1.1 "

unfoldable pub status_digits_form : Bool → ℕ → Form
status_digits_form follows n = times n digit (text (octets " ") (value_form follows))

unfoldable pub version_form : Bool → ℕ → Form
version_form follows k = text (drop k version) (status_digits_form follows 3)

-- ---- by the state

abbrev pub form_at : State → Form
form_at Line = chunk_form
form_at (Digits n) = digits_form n
form_at (Mark k) = mark_form k
form_at (Sig k) = sig_form k
form_at (Hash k) = hash_form k
form_at (Letters n) = letters_form n
form_at Pads = text (octets "==") data_end_form
form_at Pad = text (octets "=") data_end_form
form_at Return = data_end_form
form_at (Version follows k) = version_form follows k
form_at (Status follows n) = status_digits_form follows n
form_at Lines = trailer_form
form_at Field = field_line_form
form_at (FieldName follows) = field_name_form follows
form_at (Value follows) = value_form follows
form_at (LineFeed follows) = feed_form follows
form_at Name = name_form
form_at NameRest = many is_tchar done
form_at End = done

abbrev pub meant : Maybe State → Option Form
meant (Some s) = some (form_at s)
meant None = none

-- what the loop answers
unfoldable pub scanned : Form → List ℕ → Checked
scanned form l = record { good = accepts_form form l; at = reach_form form l }
