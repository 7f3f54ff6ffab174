-- What a final refusal clears, and what it leaves: cases of paper 01's sentence ("When the reader says no"), as one table about the definitions.
-- Each row but the last is the block buffer after a short stream that begins at its first chunk line; the last has all three buffers, joined,
-- after the beginning of a head. Assumes nothing.
use mathlib.Core.Bool.{Bool, true, false}
use mathlib.Core.List.{List, [], ◌∷◌, ◌++◌, map}
use mathlib.Core.Path.{◌≡◌, refl}
use Prim.Native.Nat.{ℕ}
use Prim.Native.String.{String}
use lib.ListN.{replicate}
use Rattle.octets.specs.Octets.{octets}
use Rattle.base64_text.specs.Base64.{is_base64, letter_value, holds_three, holds_two, holds_one}
use Rattle.sections.specs.Reading.{cut}
use Rattle.sections.specs.Leaving.{after_sections, leaving}
use Rattle.stream.specs.Blocks.{is_whole_line, carries_signature, is_chunk_line, chunk_size, line_rules, line_fault, carries_hash, is_extension, is_hash_due}
use Rattle.stream.specs.Buffers.{Buffers, with_section, with_message, pending, with_last_word, effects}
use Rattle.stream.specs.Bytes.{all, same}
use Rattle.stream.specs.Ends.{all_fields, is_claimed, is_checked}
use Rattle.stream.specs.Fields.{among, names_of, has_field}
use Rattle.stream.specs.Head.{head_of, head_with, ends_head, is_whole_head, is_partial, range_of, status_digits}
use Rattle.stream.specs.Lines.{ends_with, lines, before_empty, text_lines, field_scan, is_field_line, are_field_lines, fields_of, status_of, status_scan}
use Rattle.stream.specs.Numbers.{number_from, is_hex_number}
use Rattle.stream.specs.Range.{first_byte, is_within}
use Rattle.stream.specs.Rule.{first_broken}
use Rattle.stream.specs.Stream.{head, first_line, is_whole, judge_first_line, judge_data_end, accept_block, judge_next_line, judge_end, judge_trailer, judge, rules, released_with, start_from, start_of}
use Rattle.stream.specs.Template.{run, past, starts_with, scan}
use Rattle.stream.specs.Trailer.{ends_trailer, is_whole_trailer, is_trailer}
use Rattle.stream.proofs.Cases.{Case}
use Rattle.stream.proofs.Example.{signed_line, terms, show}

abbrev first : Buffers
first = record { head = []; block = octets "abcdefgh"; question = [] }

block_after : List ℕ → List Bool → Bool → List ℕ
block_after stream answers told = (leaving (rules terms) effects (first_line show) stream answers told first).block

joined_after : List ℕ → Bool → List ℕ
joined_after stream told =
    let b = leaving (rules terms) effects head stream [] told (record { head = octets "ABCD"; block = octets "abcd"; question = octets "1234" }) in
    b.head ++ (b.block ++ b.question)

abbrev row : String → List ℕ → List ℕ → Case
row name got due = record { name = name; got = got; due = due }

-- a block of five bytes, and the line after it, which asks about it
abbrev asking : List ℕ
asking = octets "5\r\nHello\r\n" ++ signed_line (octets "0")

pub table : List Case
table =
    row "data under way" (block_after (octets "5\r\nHel") [] false) (octets "Heldefgh")
    ∷ row "its end told" (block_after (octets "5\r\nHel") [] true) (replicate 3 0 ++ octets "defgh")
    ∷ row "end told in the data end" (block_after (octets "5\r\nHello\r") [] true) (replicate 5 0 ++ octets "fgh")
    ∷ row "wrong data end" (block_after (octets "5\r\nHello\rx") [] false) (replicate 5 0 ++ octets "fgh")
    ∷ row "end told in the next line" (block_after (octets "5\r\nHello\r\n0") [] true) (replicate 5 0 ++ octets "fgh")
    ∷ row "next line without a signature" (block_after (octets "5\r\nHello\r\n0\r\n") [] false) (replicate 5 0 ++ octets "fgh")
    ∷ row "question open" (block_after asking [] false) (octets "Hellofgh")
    ∷ row "no" (block_after asking (false ∷ []) false) (replicate 5 0 ++ octets "fgh")
    ∷ row "yes, then the end told: the block is released" (block_after asking (true ∷ []) true) (octets "Hellofgh")
    ∷ row "end told in the trailer" (block_after (asking ++ octets "x:") (true ∷ []) true) (replicate 2 0 ++ octets "llofgh")
    ∷ row "wrong trailer" (block_after (asking ++ octets "x\r\n\r\n") (true ∷ []) false) (replicate 5 0 ++ octets "fgh")
    ∷ row "closed" (block_after (asking ++ octets "\r\n") (true ∷ []) false) (octets "\r\nllofgh")
    ∷ row "end told in the head" (joined_after (octets "HT") true) (octets "HTCDabcd1234")
    ∷ []

pub cleared_cases : map (λ (c : Case). c.got) table ≡ map (λ (c : Case). c.due) table
unfolding table block_after joined_after ends_head is_whole_head is_base64 letter_value holds_three holds_two holds_one cut after_sections leaving with_section with_message pending with_last_word is_whole_line carries_signature is_chunk_line chunk_size line_rules line_fault all same ends_with lines before_empty text_lines field_scan is_field_line are_field_lines fields_of head_of head_with among names_of has_field number_from is_hex_number first_broken is_whole judge_first_line judge_data_end accept_block judge_next_line all_fields is_claimed judge_end judge_trailer judge rules run past starts_with scan ends_trailer is_whole_trailer is_trailer carries_hash is_extension is_hash_due first_byte is_within range_of is_partial start_from start_of released_with is_checked status_digits status_of status_scan
cleared_cases = refl
