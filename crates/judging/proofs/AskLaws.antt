-- The question of a head that breaks no rule. Assumes nothing.
use mathlib.Core.List.{List, ◌++◌}
use mathlib.Core.Path.{◌≡◌, ap, ◌∙◌}
use Prim.Native.Nat.{ℕ, ◌≤◌}
use native.Mathlib.Nat.{le_trans}
use lib.ListN.{length, drop}
use Rattle.stream.specs.Head.{head_of, block_size, injection_id, head_signature, signing_string}
use Rattle.stream.proofs.SigningSize.{signing_fits'}
use Rattle.places.specs.Place.{part_of}
use Rattle.places.specs.Writing.{Placed, placed, wrote}
use Rattle.places.proofs.WritingLaws.{wrote_front}
use Rattle.fields.specs.Table.{fields_in}
use Rattle.names.specs.NameList.{names_in}
use Rattle.params.specs.declared.bsigs.Bsigs.{Bsigs}
use Rattle.params.specs.declared.injection.Injection.{Injection}
use Rattle.params.proofs.Answers.{injection_is, bsigs_is, sig0_signature}
use Rattle.head.specs.Reading.{Says, signed_digits}
use Rattle.head.specs.declared.whole.HeadRead.{HeadRead}
use Rattle.head.proofs.ContentLaws.{status_good, signed_good, lines_good, injection_good, bsigs_good, sig0_good, names_good, signed_there, created_there, names_there}
use Rattle.judging.specs.Judgement.{judged, asked}
use Rattle.signing.specs.Writing.{string_of}
use Rattle.std.specs.Prelude.{Ok}
use Rattle.std.proofs.lemmas.Option.{same_Some}

module _ (text : List ℕ) (r : HeadRead) (x : Says text r) where
  -- the texts that the string is made of
  module _ (list seconds digits : List ℕ) (l : list ≡ part_of text r.signed.sig0.names_start r.signed.sig0.names_end)
      (s : seconds ≡ part_of text r.signed.sig0.created_start r.signed.sig0.created_end) (d : digits ≡ signed_digits (part_of text 9 12) (fields_in text r.fields)) where
    abbrev string : List ℕ
    string = string_of (fields_in text r.fields) (names_in list r.signed.names) digits seconds

    string_there : string ≡ signing_string (head_of text)
    unfolding string_of signing_string
    string_there = rw (names_there text r x list l, x.fields, signed_there text r x digits d, s ∙ created_there text r x)

    string_fits : length (signing_string (head_of text)) ≤ length text
    string_fits = signing_fits' text (record { status = status_good text r x; signed = signed_good text r x; lines = lines_good text r x; sig0 = sig0_good text r x; names = names_good text r x })

    -- the length of the string and the buffer, after it was written
    module _ (question : List ℕ) (h : length text ≤ length question) (n : ℕ) (b : List ℕ) (e : placed n b ≡ wrote question 0 string) where
      at_front : placed n b ≡ placed (length (signing_string (head_of text))) (signing_string (head_of text) ++ drop (length (signing_string (head_of text))) question)
      at_front = e ∙ ap (wrote question 0) string_there ∙ wrote_front question (signing_string (head_of text)) (le_trans string_fits h)

      pub asked_is : (key : ℕ)
          → judged
          (Ok (record {
            status = r.status;
            size = r.signed.bsigs.size;
            extent = r.extent;
            key = key;
            id = r.signed.injection.id;
            id_length = r.signed.injection.id_length;
            signature = r.signed.sig0.signature;
            length = n;
          }))
          b
          ≡ asked key (head_of text) question
      unfolding asked block_size injection_id head_signature
      asked_is key =
          let i = same_Some _ _ (x.injection ∙ injection_is _ (injection_good text r x)) in
          let k = same_Some _ _ (x.bsigs ∙ bsigs_is _ (bsigs_good text r x)) in
          rw (
            x.status,
            x.extent,
            ap (λ (q : Bsigs). q.size) k,
            ap (λ (q : Injection). q.id_length) i,
            ap (λ (q : Injection). q.id) i,
            sig0_signature x.sig0,
            ap (λ (p : Placed). p.next) at_front,
            ap (λ (p : Placed). p.bytes) at_front,
          )
