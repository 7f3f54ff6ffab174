-- A head read whole, from what its groups of rules were read as. Assumes nothing.
use mathlib.Core.Bool.{Bool, true, false, ◌&&◌, and-false, and-true}
use mathlib.Core.List.{List}
use mathlib.Core.Path.{◌≡◌, sym, ap, ap₂, ◌∙◌}
use Prim.Native.Nat.{ℕ}
use native.Mathlib.Omega.{arith}
use borrow.Author.Tests.{ne_eqb}
use lib.Dec.{eqb}
use Rattle.octets.specs.Choice.{pick}
use Rattle.std.specs.Prelude.{Option, Some, None, is_some, ok_or, Err}
use Rattle.stream.specs.Fields.{value_of}
use Rattle.stream.specs.Signatures.{injection_scan, bsigs_scan, block_size_text, is_bsigs, sig0_scan, injection_name, bsigs_name, sig0_name}
use Rattle.stream.specs.Numbers.{decimal_value}
use Rattle.stream.proofs.Truth.{left_holds, right_holds}
use Rattle.params.specs.BlockSigs.{bsigs_of}
use Rattle.params.proofs.Options.{picked}
use Rattle.stream.specs.Head.{head_of, head_with, ends_head, is_status, signed_status, is_ranged, status_digits, block_size, listed_names, text_rules}
use Rattle.stream.specs.Lines.{Field, is_status_line}
use Rattle.stream.specs.Rule.{first_broken}
use Rattle.places.specs.Place.{part_of}
use Rattle.fields.specs.Table.{fields_in}
use Rattle.fields.specs.declared.table.Fields.{Fields}
use Rattle.params.specs.declared.bsigs.Bsigs.{Bsigs}
use Rattle.head.specs.Reading.{Reads}
use Rattle.head.specs.Steps.{are_good_lines, ReadsLines, version_rules, is_plain, are_signed, ReadsSigned, status_read, is_sound, ReadsRest, fault_of}
use Rattle.head.specs.declared.signed.Signed.{Signed}
use Rattle.head.specs.declared.status.StatusRead.{StatusRead}
use Rattle.head.specs.declared.whole.HeadRead.{HeadRead}
use Rattle.head.proofs.FirstLine.{status_place}
use Rattle.head.proofs.RuleLaws.{fault_is}
use Rattle.head.proofs.StatusLaws.{status_kept, status_says}

-- ---- the rules after the version's, by a table of the head's fields

module _ (text : List ℕ) (k : is_status_line (head_of text).status_line ≡ true) (table : Fields) (e : fields_in text table ≡ (head_of text).fields) where
  abbrev ranged : Bool
  ranged = is_status (signed_status (head_of text)) && is_ranged (head_of text)

  pub not_plain : is_plain (fields_in text table) ≡ false → ReadsRest text None
  unfolding is_sound
  not_plain h =
      let all = are_signed (head_of text).fields (head_of text).injection (head_of text).bsigs (head_of text).sig0 in
      record { good = sym (ap (λ (t : Bool). ranged && (t && all)) (ap is_plain (sym e) ∙ h) ∙ and-false ranged); says = tt }

  module _ (p : is_plain (fields_in text table) ≡ true) where
    signed_by : {r : Option Signed} → ReadsSigned text (fields_in text table) r → is_sound (head_of text) ≡ ranged && is_some r
    unfolding is_sound head_of head_with
    signed_by x =
        ap (λ (fs : List Field). ranged && (is_plain fs && are_signed fs (injection_scan (value_of injection_name fs)) (bsigs_scan (value_of bsigs_name fs)) (sig0_scan (value_of sig0_name fs)))) (sym e)
        ∙ ap₂ (λ (a b : Bool). ranged && (a && b)) p (sym x.good)

    pub not_signed : ReadsSigned text (fields_in text table) None → ReadsRest text None
    not_signed x = record { good = sym (signed_by x ∙ and-false ranged); says = tt }

    module _ {s : Signed} (x : ReadsSigned text (fields_in text table) (Some s)) where
      size_is : s.bsigs.size ≡ block_size (head_of text)
      unfolding block_size bsigs_of head_of head_with
      size_is =
          ap (λ (b : Bsigs). b.size) (picked (is_bsigs (bsigs_scan (value_of bsigs_name (fields_in text table)))) _ x.says.bsigs).1
          ∙ ap (λ (fs : List Field). decimal_value (block_size_text (bsigs_scan (value_of bsigs_name fs)))) e

      status_there : status_read (part_of text 9 12) (fields_in text table) s.bsigs.size ≡ status_read (status_digits (head_of text)) (head_of text).fields (block_size (head_of text))
      status_there =
          ap (status_read (part_of text 9 12) (fields_in text table)) size_is
          ∙ ap₂ (λ (d : List ℕ) (fs : List Field). status_read d fs (block_size (head_of text))) (sym (status_place text k)) e

      sound_is : is_sound (head_of text) ≡ is_some (status_read (part_of text 9 12) (fields_in text table) s.bsigs.size)
      sound_is = signed_by x ∙ and-true ranged ∙ sym (status_kept (head_of text)) ∙ ap is_some (sym status_there)

      pub no_range : None ≡ status_read (part_of text 9 12) (fields_in text table) s.bsigs.size → ReadsRest text None
      no_range h = record { good = sym (sound_is ∙ ap is_some (sym h)); says = tt }

      pub rest_read : {st : StatusRead} → Some st ≡ status_read (part_of text 9 12) (fields_in text table) s.bsigs.size
          → ReadsRest text (Some (record { status = st.number; extent = st.extent; fields = table; signed = s }))
      rest_read {st} h =
          let q = status_says (head_of text) st (h ∙ status_there) in
          record { good = sym (sound_is ∙ ap is_some (sym h)); says = record { status = q.0; extent = q.1; fields = e; signed = rw e at x.says } }

-- ---- all rules

module _ (text : List ℕ) where
  fault_by : {r : Option Fields} → ReadsLines text r → first_broken (text_rules text (head_of text)) ≡ fault_of (is_some r) (first_broken (version_rules (head_of text).fields)) (is_sound (head_of text))
  fault_by x = fault_is text (head_of text) ∙ ap (λ (b : Bool). fault_of b (first_broken (version_rules (head_of text).fields)) (is_sound (head_of text))) (sym x.good)

  pub bad_lines : ReadsLines text None → Reads text (Err 3)
  unfolding fault_of
  bad_lines x = (sym (fault_by x), λ z. omega (arith, z))

  module _ {table : Fields} (x : ReadsLines text (Some table)) where
    pub line_there : is_status_line (head_of text).status_line ≡ true
    unfolding are_good_lines
    line_there = left_holds (is_status_line (head_of text).status_line) _ (right_holds (ends_head text) _ (sym x.good))

    module _ {v : ℕ} (p : v ≡ first_broken (version_rules (fields_in text table))) where
      fault_from : first_broken (text_rules text (head_of text)) ≡ pick (eqb v 0) (pick (is_sound (head_of text)) 0 4) v
      unfolding fault_of
      fault_from =
          let q = p ∙ ap (λ (fs : List Field). first_broken (version_rules fs)) x.fields in
          fault_by x ∙ ap (λ (n : ℕ). pick (eqb n 0) (pick (is_sound (head_of text)) 0 4) n) (sym q)

      pub version_broken : (v ≡ 0 → ⊥) → Reads text (Err v)
      version_broken h = (sym (fault_from ∙ ap (λ (b : Bool). pick b (pick (is_sound (head_of text)) 0 4) v) (ne_eqb v 0 h)), h)

      module _ (z : v ≡ 0) where
        fault_rest : first_broken (text_rules text (head_of text)) ≡ pick (is_sound (head_of text)) 0 4
        fault_rest = fault_from ∙ ap (λ (n : ℕ). pick (eqb n 0) (pick (is_sound (head_of text)) 0 4) n) z

        pub head_reads : (r : Option HeadRead) → ReadsRest text r → Reads text (ok_or r 4)
        unfolding head_of head_with listed_names
        head_reads None y = (sym (fault_rest ∙ ap (λ (b : Bool). pick b 0 4) (sym y.good)), λ q. omega (arith, q))
        head_reads (Some r) y =
            let s = y.says in
            record {
              kept = fault_rest ∙ ap (λ (b : Bool). pick b 0 4) (sym y.good);
              status = s.status;
              extent = s.extent;
              fields = s.fields;
              injection = s.signed.injection;
              bsigs = s.signed.bsigs;
              sig0 = s.signed.sig0;
              names = s.signed.names;
            }
