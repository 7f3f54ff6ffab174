-- Before request #104: no part answers, and no `ouihash`. "Paper 01's status rule, first-line rule and chain start are amended"; as they were they
-- stand here, with what a chunk line could be, in the midst of all others as they are now. Assumes nothing.
use Rattle.std.specs.Prelude.{Bool, true, false, ◌&&◌, ◌||◌, not, List, [], ◌∷◌, ◌++◌, ℕ, ◌+◌, eqb, leb, length, take, drop}
use Rattle.base64_text.specs.Base64.{is_base64}
use Rattle.scanner.specs.Form.{Form, done, one, up_to, either, text, after as before}
use Rattle.sections.specs.Reading.{Log, go, ask, stop, granted, final, Rules, reading}
use Rattle.sha256.specs.Sha256.{sha256}
use Rattle.stream.specs.Blocks.{size_text, extension, ouisig, chunk_size, same_bool}
use Rattle.stream.specs.Bytes.{is_hex}
use Rattle.stream.specs.Ends.{all_fields, is_claimed, end_fault}
use Rattle.stream.specs.Events.{Question, Release, head_accepted, block, LastWord, closed, complete, refused}
use Rattle.stream.specs.Forms.{hex_byte, signature_form}
use Rattle.stream.specs.Head.{Head, head_of, status_digits, head_signature, listed_names, signed_of, trusted_by, is_status, text_rules, caller_rules}
use Rattle.stream.specs.Limits.{size_digits, body_limit}
use Rattle.stream.specs.Lines.{crlf, ends_with, Field}
use Rattle.stream.specs.Numbers.{is_hex_number, decimal_value}
use Rattle.stream.specs.Places.{place_in, head_place, trailer_place}
use Rattle.stream.specs.Ring.{Ring, number_of}
use Rattle.stream.specs.Rule.{Rule, rule, first_broken}
use Rattle.stream.specs.Signatures.{created_text, listed_fields, response_status_name, created_name}
use Rattle.stream.specs.Signing.{joined_fields, signing_text}
use Rattle.stream.specs.Stream.{Show, Past, nothing, after, Context, head, first_line, block_data, data_end, next_line, trailer, is_whole, Says, unless_broken, announced, show_of, judge_data_end, block_offset, body_with, block_question, end_question}
use Rattle.stream.specs.Template.{starts_with}
use Rattle.stream.specs.Terms.{Terms}
use Rattle.stream.specs.Trailer.{is_trailer}

-- ---- the head

-- the eighth rule: "Status 200, 301, 302 or 307", where there are two rules now
unfoldable pub whole_only_rules : List ℕ → Head → List Rule
whole_only_rules l h = take 7 (text_rules l h) ++ (rule 4 (is_status (status_digits h)) ∷ drop 9 (text_rules l h))

unfoldable pub whole_only_fault : Terms → List ℕ → ℕ
whole_only_fault terms l = first_broken (whole_only_rules l (head_of l) ++ caller_rules terms (head_of l))

-- "`(response-status)` is the three digits"
unfoldable pub whole_only_string : Head → List ℕ
whole_only_string h =
    signing_text
    (record { name = response_status_name; value = status_digits h }
    ∷ record { name = created_name; value = created_text h.sig0 }
    ∷ joined_fields h.fields (listed_fields (listed_names h)))

unfoldable pub whole_only_question : Ring → Head → Question
whole_only_question ring h = record { message = whole_only_string h; signature = head_signature h; key_number = number_of (trusted_by ring h) }

unfoldable pub whole_only_accept : Ring → Head → Says
whole_only_accept ring h =
    ask (whole_only_question ring h) (granted (head_accepted (decimal_value (status_digits h)) (signed_of h)) (first_line (show_of ring h)))

unfoldable pub whole_only_head : Terms → List ℕ → Says
whole_only_head terms l = unless_broken (whole_only_fault terms l) (head_place l) (whole_only_accept terms.ring (head_of l))

-- ---- chunk lines

-- Anything after the size counted as a signature: 6 is tested before 8, and then nothing but `;ouisig=` and 88 characters can stand there.
unfoldable pub carries_any : List ℕ → Bool
carries_any l = leb 1 (length (extension l))

-- "then nothing or `;ouisig=` and 88 characters"
unfoldable pub is_signed : List ℕ → Bool
is_signed e = not (leb 1 (length e)) || (starts_with ouisig e && is_base64 64 (drop (length ouisig) e))

-- "1 to 8 hex digits of either case", and what might come after them
unfoldable pub is_whole_only_line : List ℕ → Bool
is_whole_only_line l = ends_with crlf l && (is_hex_number size_digits (size_text l) && is_signed (extension l))

-- in the paper's order: 6, 8, 7, 9
unfoldable pub whole_only_line_rules : ℕ → Bool → Bool → ℕ → List ℕ → List Rule
whole_only_line_rules N due full sofar l =
    rule 6 (is_whole_only_line l)
    ∷ rule 8 (same_bool due (carries_any l))
    ∷ rule 7 (leb (chunk_size l) N && (full || eqb (chunk_size l) 0))
    ∷ rule 9 (leb (sofar + chunk_size l) body_limit)
    ∷ []

unfoldable pub whole_only_line_fault : ℕ → Bool → Bool → ℕ → List ℕ → ℕ
whole_only_line_fault N due full sofar l = first_broken (whole_only_line_rules N due full sofar l)

-- the text of such a line as a form, and so the place where it went wrong
unfoldable pub whole_only_form : Form
whole_only_form = before (one hex_byte (up_to 7 is_hex (either (text ouisig signature_form) done))) (text crlf done)

unfoldable pub whole_only_place : List ℕ → ℕ
whole_only_place l = place_in whole_only_form (ends_with crlf l) l

-- ---- what each whole section said

-- "The first line carries no `ouisig`": the body begins here, and so does the chain, with nothing before it
unfoldable pub whole_only_first : Show → List ℕ → Says
whole_only_first s l = unless_broken (whole_only_line_fault s.size false true 0 l) (whole_only_place l) (go (announced s nothing 0 (chunk_size l)))

-- the total is that of the body
unfoldable pub whole_only_block : Show → Past → List ℕ → List ℕ → Says
whole_only_block s p b l =
    ask (block_question s p b l)
    (granted (block (block_offset s p) b) (announced s (after p b) (body_with s p b) (chunk_size l)))

unfoldable pub whole_only_next : Show → Past → List ℕ → List ℕ → Says
whole_only_next s p b l =
    unless_broken (whole_only_line_fault s.size true (eqb (length b) s.size) (body_with s p b) l) (whole_only_place l) (whole_only_block s p b l)

-- the end that is claimed was always checked
unfoldable pub whole_only_end : Show → ℕ → List ℕ → List Field → Says
whole_only_end s total hash fs =
    elim (is_claimed fs) [
      | true ↦ unless_broken (end_fault s.head fs total hash) 0 (ask (end_question s fs) (final (complete total)))
      | false ↦ stop (closed total)
    ]

unfoldable pub whole_only_trailer : Show → Past → ℕ → List ℕ → Says
whole_only_trailer s p total l =
    elim (is_trailer l) [
      | true ↦ whole_only_end s total (sha256 p.body) (all_fields s.head l)
      | false ↦ stop (refused 6 (trailer_place l))
    ]

unfoldable pub judge_whole_only : Terms → Context → List ℕ → Says
judge_whole_only terms head l = whole_only_head terms l
judge_whole_only terms (first_line s) l = whole_only_first s l
judge_whole_only terms (block_data s p n) l = go (data_end s p l)
judge_whole_only terms (data_end s p b) l = judge_data_end s p b l
judge_whole_only terms (next_line s p b) l = whole_only_next s p b l
judge_whole_only terms (trailer s p total) l = whole_only_trailer s p total l

-- ---- the reading

abbrev pub rules_whole_only : Terms → Rules Context Question Release LastWord
rules_whole_only terms = record { whole = is_whole; judge = judge_whole_only terms; denied = refused 10 0; unfinished = refused 11 0 }

unfoldable pub whole_only_reading : Terms → List ℕ → List Bool → Bool → Log Question Release LastWord
whole_only_reading terms stream answers told = reading (rules_whole_only terms) head stream answers told
