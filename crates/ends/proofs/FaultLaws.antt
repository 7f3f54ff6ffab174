-- The first broken rule of an end, by what was read. Assumes nothing.
use mathlib.Core.Bool.{Bool, true, false, ◌&&◌, not}
use mathlib.Core.List.{List, ◌++◌}
use mathlib.Core.Path.{◌≡◌, refl, sym, ap, ◌∙◌}
use Prim.Native.Nat.{ℕ}
use lib.Dec.{eqb}
use Rattle.octets.specs.Choice.{pick}
use Rattle.base64_text.specs.Base64.{base64_bytes}
use Rattle.places.specs.Place.{part_of}
use Rattle.stream.specs.Bytes.{same}
use Rattle.stream.specs.Ends.{digest_name, data_size_name, sig1_name, is_once, is_digest, digest_bytes, is_data_size, added_names, same_names, all_fields, ends_in, is_end_list, end_rules, end_fault}
use Rattle.stream.specs.Fields.{among, value_of}
use Rattle.stream.specs.Head.{Head, head_of, range_of, head_key, listed_names}
use Rattle.stream.specs.Lines.{Field, fields_of, text_lines}
use Rattle.stream.specs.Numbers.{decimal_value}
use Rattle.stream.specs.Rule.{first_broken}
use Rattle.stream.specs.Signatures.{sig0_scan, is_sig0, key_text, names_text, split_names}
use Rattle.end_fields.specs.Found.{both_in}
use Rattle.end_fields.specs.Reading.{ReadsEnd}
use Rattle.end_fields.specs.declared.reading.EndRead.{EndRead}
use Rattle.head.specs.Reading.{Says}
use Rattle.head.specs.declared.whole.HeadRead.{HeadRead}
use Rattle.head.proofs.ContentLaws.{names_there}
use Rattle.names.specs.NameList.{names_in}
use Rattle.ranges.specs.Extent.{range_in}
use Rattle.ranges.proofs.Extents.{range_extent}
use Rattle.params.proofs.Answers.{sig0_key, sig0_names}
use Rattle.std.specs.Prelude.{Some, None}
use Rattle.ends.specs.Steps.{is_well_made, fault_by, read_fault, fault_after}

-- ---- all rules of one number, as one test

grouped : (a b c d e f g h i : Bool) (x y : ℕ)
    → pick a (pick b (pick c (pick d (pick e (pick f (pick g (pick h (pick i x y) y) y) y) y) y) y) y) y
    ≡ pick (((a && (b && c)) && (d && (e && f))) && (g && (h && i))) x y
grouped false b c d e f g h i x y = refl
grouped true false c d e f g h i x y = refl
grouped true true false d e f g h i x y = refl
grouped true true true false e f g h i x y = refl
grouped true true true true false f g h i x y = refl
grouped true true true true true false g h i x y = refl
grouped true true true true true true false h i x y = refl
grouped true true true true true true true false i x y = refl
grouped true true true true true true true true i x y = refl

fault_by_lem : (h : Head) (fs : List Field) (total : ℕ) (hash : List ℕ)
    → end_fault h fs total hash
    ≡ fault_by (is_well_made h fs) (eqb (decimal_value (value_of data_size_name fs)) total) (same (digest_bytes (value_of digest_name fs)) hash)
    (same (base64_bytes 32 (key_text (sig0_scan (value_of sig1_name fs)))) (head_key h))
unfolding end_fault end_rules first_broken is_well_made ends_in
fault_by_lem h fs total hash =
    grouped
    (is_once digest_name fs)
    (is_once data_size_name fs)
    (is_once sig1_name fs)
    (is_digest (ends_in fs).digest)
    (is_data_size (ends_in fs).data_size)
    (is_sig0 (ends_in fs).sig1)
    (is_end_list h (ends_in fs))
    (not (among digest_name (listed_names h)))
    (not (among data_size_name (listed_names h)))
    _
    _

-- ---- what was read of a good head, and of the end

module _ (text : List ℕ) (r : HeadRead) (x : Says text r) (trailer : List ℕ) where
  abbrev h : Head
  h = head_of text

  abbrev fs : List Field
  fs = all_fields (head_of text) trailer

  pub all_there : both_in text r.fields trailer ≡ all_fields (head_of text) trailer
  unfolding all_fields
  all_there = ap (λ (gs : List Field). gs ++ fields_of (text_lines trailer)) x.fields

  pub range_there : range_in r.extent ≡ range_of (head_of text)
  range_there = ap range_in x.extent ∙ range_extent (range_of (head_of text))

  -- no end
  pub unread_is : ReadsEnd (both_in text r.fields trailer) None → (total : ℕ) (hash : List ℕ) → fault_after text trailer total hash ≡ 13
  unfolding fault_after is_well_made
  unread_is y total hash = fault_by_lem h fs total hash ∙ rw (← all_there, sym y.good)

  module _ (e : EndRead) (y : ReadsEnd (both_in text r.fields trailer) (Some e)) where
    pub reads_end : ReadsEnd (all_fields (head_of text) trailer) (Some e)
    reads_end = rw all_there at y

    -- the lists
    module _ (list value longer : List ℕ) (l : list ≡ part_of text r.signed.sig0.names_start r.signed.sig0.names_end)
        (v : value ≡ value_of sig1_name (both_in text r.fields trailer)) (n : longer ≡ part_of value e.sig1.names_start e.sig1.names_end)
        (first : Bool) (p : first ≡ same_names (split_names longer) (split_names list ++ added_names))
        (second : Bool)
        (q : second ≡ not (among digest_name (names_in list r.signed.names)) && not (among data_size_name (names_in list r.signed.names))) where
      longer_is : longer ≡ names_text (ends_in fs).sig1
      unfolding ends_in
      longer_is = n ∙ ap (λ (t : List ℕ). part_of t e.sig1.names_start e.sig1.names_end) (v ∙ ap (value_of sig1_name) all_there) ∙ sig0_names reads_end.says.sig1

      list_is : list ≡ names_text (head_of text).sig0
      list_is = l ∙ sig0_names x.sig0

      made_is : first && second ≡ is_well_made h fs
      unfolding is_well_made is_end_list listed_names
      made_is = rw (← reads_end.good, p, q, names_there text r x list l, longer_is, list_is)

      head_key_lem : r.signed.sig0.key ≡ head_key h
      unfolding head_key
      head_key_lem = sig0_key x.sig0

      pub fault_is : (total : ℕ) (hash : List ℕ) → read_fault e (first && second) total hash r.signed.sig0.key ≡ fault_after text trailer total hash
      unfolding read_fault fault_after
      fault_is total hash =
          rw (made_is, fault_by_lem h fs total hash, reads_end.says.digest, reads_end.says.size, sig0_key reads_end.says.sig1, head_key_lem)
