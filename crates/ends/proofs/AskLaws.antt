-- The question of an end without fault. Assumes nothing.
use mathlib.Core.List.{List, [], ◌∷◌, ◌++◌, append_assoc}
use mathlib.Core.Path.{◌≡◌, sym, ap, ◌∙◌}
use Prim.Native.Nat.{ℕ, ◌≤◌}
use native.Mathlib.Nat.{le_trans}
use lib.ListN.{length, drop}
use Rattle.places.specs.Place.{part_of}
use Rattle.places.specs.Writing.{Placed, placed, wrote}
use Rattle.places.proofs.WritingLaws.{wrote_more, wrote_front}
use Rattle.stream.specs.Ends.{digest_name, data_size_name, sig1_name, all_fields, ends_in, end_fault, end_string}
use Rattle.stream.specs.Fields.{value_of}
use Rattle.stream.specs.Head.{head_of}
use Rattle.stream.specs.Lines.{Field}
use Rattle.stream.specs.Signatures.{created_text, listed_fields, response_status_name, created_name}
use Rattle.stream.specs.Signing.{joined_fields}
use Rattle.stream.proofs.EndString.{end_fits, short_ends}
use Rattle.fields.specs.Table.{fields_in}
use Rattle.names.specs.NameList.{names_in}
use Rattle.params.proofs.Answers.{sig0_created, sig0_signature}
use Rattle.end_fields.specs.Found.{both_in}
use Rattle.end_fields.specs.Reading.{ReadsEnd}
use Rattle.end_fields.specs.declared.reading.EndRead.{EndRead}
use Rattle.head.specs.Reading.{Says}
use Rattle.head.specs.declared.whole.HeadRead.{HeadRead}
use Rattle.head.proofs.ContentLaws.{digits_there, names_there}
use Rattle.signing.specs.Writing.{added_line, string_of}
use Rattle.signing.proofs.StringLaws.{following_joined, text_joined}
use Rattle.ends.specs.Judgement.{judged, asked}
use Rattle.ends.specs.Steps.{Faultless, fault_after, asked_after}
use Rattle.std.specs.Prelude.{Ok, Some}
use Rattle.ends.proofs.FaultLaws.{all_there, reads_end}

module _ (text : List ℕ) (r : HeadRead) (x : Says text r) (trailer : List ℕ) (e : EndRead)
    (y : ReadsEnd (both_in text r.fields trailer) (Some e)) (m : Faultless text trailer) where
  abbrev fs : List Field
  fs = all_fields (head_of text) trailer

  no_fault : end_fault (head_of text) fs m.total m.hash ≡ 0
  unfolding fault_after
  no_fault = m.kept

  fits : length (end_string (head_of text) (ends_in fs)) ≤ length text
  fits = end_fits text (ends_in fs) x.kept (short_ends (head_of text) fs m.total m.hash no_fault)

  found : (name value : List ℕ) → value ≡ value_of name (both_in text r.fields trailer) → value ≡ value_of name fs
  found name value v = v ∙ ap (value_of name) (all_there text r x trailer)

  -- the texts that the string is made of
  module _ (list digits value seconds digest size : List ℕ) (l : list ≡ part_of text r.signed.sig0.names_start r.signed.sig0.names_end)
      (d : digits ≡ part_of text 9 12) (v : value ≡ value_of sig1_name (both_in text r.fields trailer))
      (s : seconds ≡ part_of value e.sig1.created_start e.sig1.created_end)
      (i : digest ≡ value_of digest_name (both_in text r.fields trailer)) (j : size ≡ value_of data_size_name (both_in text r.fields trailer)) where
    abbrev string : List ℕ
    string = string_of (fields_in text r.fields) (names_in list r.signed.names) digits seconds

    seconds_are : seconds ≡ created_text (ends_in fs).sig1
    unfolding ends_in
    seconds_are =
        s ∙ ap (λ (t : List ℕ). part_of t e.sig1.created_start e.sig1.created_end) (found sig1_name value v)
        ∙ sig0_created (reads_end text r x trailer e y).says.sig1

    string_there : (string ++ added_line digest_name digest) ++ added_line data_size_name size ≡ end_string (head_of text) (ends_in fs)
    unfolding string_of end_string ends_in
    string_there =
        let a : Field = record { name = digest_name; value = digest } in
        let b : Field = record { name = data_size_name; value = size } in
        let first : Field = record { name = response_status_name; value = digits } in
        let others : List Field =
        record { name = created_name; value = seconds } ∷ joined_fields (fields_in text r.fields) (listed_fields (names_in list r.signed.names)) in
        append_assoc string (added_line digest_name digest) (added_line data_size_name size)
        ∙ ap (λ (t : List ℕ). string ++ t) (sym (following_joined (a ∷ []) (b ∷ [])))
        ∙ sym (text_joined first others (a ∷ b ∷ []))
        ∙ rw (names_there text r x list l, x.fields, d ∙ digits_there text r x, seconds_are, found digest_name digest i, found data_size_name size j)

    -- the buffer after each call
    module _ (question : List ℕ) (h : length text ≤ length question) (n : ℕ) (b : List ℕ) (w : placed n b ≡ wrote question 0 string)
        (n' : ℕ) (b' : List ℕ) (w' : placed n' b' ≡ wrote b n (added_line digest_name digest))
        (k : ℕ) (c : List ℕ) (u : placed k c ≡ wrote b' n' (added_line data_size_name size)) where
      at_front : placed k c
          ≡ placed (length (end_string (head_of text) (ends_in fs))) (end_string (head_of text) (ends_in fs) ++ drop (length (end_string (head_of text) (ends_in fs))) question)
      at_front =
          u ∙ wrote_more question 0 (string ++ added_line digest_name digest) n' b' (w' ∙ wrote_more question 0 string n b w (added_line digest_name digest)) (added_line data_size_name size)
          ∙ ap (wrote question 0) string_there ∙ wrote_front question (end_string (head_of text) (ends_in fs)) (le_trans fits h)

      pub asked_is : judged (Ok (Some (record { signature = e.sig1.signature; length = k }))) c ≡ asked_after text trailer question
      unfolding asked_after asked ends_in
      asked_is =
          rw (
            sig0_signature (reads_end text r x trailer e y).says.sig1,
            ap (λ (p : Placed). p.next) at_front,
            ap (λ (p : Placed). p.bytes) at_front,
          )
